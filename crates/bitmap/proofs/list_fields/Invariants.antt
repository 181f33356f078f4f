use Rattle.bitmap.proofs.Listed.{Filling}
use Rattle.bitmap.proofs.list_fields.Given as goal

abbrev pub invariant-loop-at : goal.invariant-loop-at
invariant-loop-at l = Filling l.bits l.numbers l.at l.count
