use Prim.Native.Nat.{◌+◌, ◌-◌}
use lib.ListN.{length}
use Rattle.field_table.specs.Codes.{decoded}
use Rattle.message_notes.specs.Dialect.{plain_form}
use Rattle.message_notes.specs.Notes.{count_in}
use Rattle.message_walk.specs.Walk.{listed_in}
use Rattle.message_walk.proofs.Loops.{Reading}
use Rattle.message_write.proofs.Writing.{Writing}
use Rattle.message_write.proofs.write_body.Given as goal

abbrev pub invariant-loop-number : goal.invariant-loop-number
invariant-loop-number l = Reading plain_form l.notes (Writing (decoded l.table) l.values (count_in l.notes) (listed_in plain_form l.notes) l.initial.out l.out l.written) l.at

abbrev pub decreases-loop-number : goal.decreases-loop-number
decreases-loop-number l = length l.notes + 1 - l.at
