use Prim.Native.Nat.{◌+◌, ◌-◌}
use lib.ListN.{length, drop}
use Rattle.field_table.specs.Codes.{decoded}
use Rattle.message_notes.specs.Dialect.{plain_form, head_size}
use Rattle.message_notes.specs.Notes.{count_in}
use Rattle.message_walk.specs.Walk.{ending}
use Rattle.message_walk.specs.Faults.{fault_by}
use Rattle.message_walk.proofs.Loops.{Walking}
use Rattle.message_write.specs.Written.{entries_by}
use Rattle.message_write.proofs.Weighing.{Weighing}
use Rattle.message_write.proofs.weigh_fields.Given as goal

abbrev pub invariant-loop-flaw : goal.invariant-loop-flaw
invariant-loop-flaw l = Walking plain_form (fault_by (decoded l.ask.table.now) l.values l.ask.rule) l.notes
    (ending plain_form (fault_by (decoded l.ask.table.now) l.values l.ask.rule) (count_in l.notes) (length l.notes) 0 head_size (drop head_size l.notes))
    (Weighing (decoded l.ask.table.now) (entries_by (decoded l.ask.table.now) l.values l.ask.rule l.notes) l.fields.bits l.short.bits l.size l.last)
    l.at l.last

abbrev pub decreases-loop-flaw : goal.decreases-loop-flaw
decreases-loop-flaw l = length l.notes + 1 - l.at
