use Rattle.field_table.specs.Codes.{decoded}
use Rattle.message_notes.specs.Dialect.{plain_form}
use Rattle.message_reader.proofs.Noting.{Noted}
use Rattle.message_reader.proofs.write_fields.Given as goal

abbrev pub invariant-loop-field : goal.invariant-loop-field
invariant-loop-field l = Noted plain_form (decoded l.table) l.message l.fields l.start l.initial.notes l.notes l.at l.written l.field-index
