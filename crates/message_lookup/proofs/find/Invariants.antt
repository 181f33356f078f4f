use Prim.Native.Nat.{◌+◌, ◌-◌}
use lib.ListN.{length}
use Rattle.message_notes.specs.Dialect.{plain_form}
use Rattle.message_walk.specs.Walk.{listed_in}
use Rattle.message_walk.proofs.Loops.{Reading}
use Rattle.message_lookup.proofs.Finding.{Finding}
use Rattle.message_lookup.proofs.find.Given as goal

abbrev pub invariant-loop-here : goal.invariant-loop-here
invariant-loop-here l = Reading plain_form l.notes (Finding l.number l.end (listed_in plain_form l.notes)) l.at

abbrev pub decreases-loop-here : goal.decreases-loop-here
decreases-loop-here l = length l.notes + 1 - l.at
