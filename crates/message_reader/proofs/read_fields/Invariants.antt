use Rattle.field_table.specs.Codes.{decoded}
use Rattle.message_reader.proofs.Turns.{Scanned}
use Rattle.message_reader.proofs.read_fields.Given as goal

abbrev pub invariant-loop-field : goal.invariant-loop-field
invariant-loop-field l = Scanned (decoded l.table) l.message l.fields l.start l.at l.field-index
