use Rattle.validation_pan.proofs.Digits.{Weighing}
use Rattle.validation_pan.proofs.luhn_remainder.Given as goal

abbrev pub invariant-loop-b : goal.invariant-loop-b
invariant-loop-b l = Weighing l.s l.sum l.doubles l.b-iterator.iter.rest.now
