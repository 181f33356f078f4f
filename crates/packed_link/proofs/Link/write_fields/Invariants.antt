use Rattle.packed_link.proofs.Carrying.{Carrying}
use Rattle.packed_link.proofs.Link.write_fields.Given as goal

abbrev pub invariant-loop-field : goal.invariant-loop-field
invariant-loop-field l = Carrying l.self.script l.self.table.now l.input l.fields l.start l.initial.out l.out l.at l.written l.field-index
