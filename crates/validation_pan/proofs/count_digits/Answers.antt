-- Those counted so far and those in the rest are all (Digits).
use native.Mathlib.Omega.{arith}
use Rattle.validation_pan.proofs.Digits.{counted_digit, counted_other, counted_all}
use borrow.Author.Rules.{rules}
use Rattle.validation_pan.proofs.count_digits.Goals.{then-is_between, else-is_between}
use Rattle.validation_pan.proofs.count_digits.Goals as goal

pub loop-b-preserved : goal.loop-b-preserved
loop-b-preserved c =
    elim c.if-is_between.branch [
      | then-is_between w ↦ (
        omega (arith, w.count-is, c.loop-b.invariant.0),
        rw w.count-is (counted_digit _ _ _ c.loop-b.invariant.1 c.loop-b-test.true _ c.is_between.ensures w.if-is_between.true),
      )
      | else-is_between w ↦ (
        omega (arith, w.count-is, c.loop-b.invariant.0),
        rw w.count-is (counted_other _ _ _ c.loop-b.invariant.1 c.loop-b-test.true _ c.is_between.ensures w.if-is_between.false),
      )
    ]

pub returns : goal.returns
returns c = search (counted_all, rules)
