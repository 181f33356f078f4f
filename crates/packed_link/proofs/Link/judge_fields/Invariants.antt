use Rattle.packed_link.proofs.Turns.{Scanned}
use Rattle.packed_link.proofs.Link.judge_fields.Given as goal

abbrev pub invariant-loop-field : goal.invariant-loop-field
invariant-loop-field l = Scanned l.self.script l.self.table.now l.input l.fields l.start l.before l.at l.written l.field-index
