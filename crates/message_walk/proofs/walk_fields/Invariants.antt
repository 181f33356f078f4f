use Prim.Native.Nat.{◌+◌, ◌-◌}
use lib.ListN.{length, drop}
use Rattle.field_table.specs.House.{house}
use Rattle.message_notes.specs.Dialect.{plain_form, head_size, dialect}
use Rattle.message_notes.specs.Notes.{count_in}
use Rattle.message_walk.specs.Walk.{ending, entries_in}
use Rattle.message_walk.specs.Faults.{any, within}
use Rattle.message_walk.proofs.Loops.{Walking}
use Rattle.message_walk.proofs.Naming.{Naming}
use Rattle.message_walk.proofs.walk_fields.Given as goal

abbrev pub invariant-loop-flaw : goal.invariant-loop-flaw
invariant-loop-flaw l = Walking plain_form (within l.values any) l.notes
    (ending plain_form (within l.values any) (count_in l.notes) (length l.notes) 0 head_size (drop head_size l.notes))
    (Naming (entries_in (dialect house) (within l.values any) l.notes) l.fields.bits)
    l.at l.last

abbrev pub decreases-loop-flaw : goal.decreases-loop-flaw
decreases-loop-flaw l = length l.notes + 1 - l.at
