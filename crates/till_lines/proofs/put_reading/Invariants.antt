use Prim.Native.Nat.{◌-◌}
use lib.ListN.{length}
use Rattle.field_table.specs.House.{house}
use Rattle.message_reader.specs.Reader.{reading_with}
use Rattle.till_lines.specs.Lines.{reading_lines}
use Rattle.till_lines.proofs.Walking.{Walked}
use Rattle.till_lines.proofs.put_reading.Given as goal

abbrev pub invariant-loop-number : goal.invariant-loop-number
invariant-loop-number l = Walked (reading_lines (reading_with house l.input l.bitmaps) l.used) l.initial.text l.notes l.used l.text l.at l.written

abbrev pub decreases-loop-number : goal.decreases-loop-number
decreases-loop-number l = length l.notes - l.at
