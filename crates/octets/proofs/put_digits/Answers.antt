-- Of the digits, the k highest are still to be written, and left is the number that they spell.
use mathlib.Core.Path.{◌≡◌, sym, ◌∙◌}
use Rattle.octets.proofs.Numbers.{digit_step, digit_none}
use native.Mathlib.Omega.{arith}
use Rattle.octets.proofs.put_digits.Goals as goal

pub loop-k-preserved : goal.loop-k-preserved
loop-k-preserved c = c.loop-k.invariant ∙ digit_step _ _ _ _ _ c.loop-k-test.true (omega arith)

pub returns : goal.returns
returns c =
    let z : c.loop-k.k ≡ 0 = omega arith in
    sym (c.loop-k.invariant ∙ rw z (digit_none _ _ _ _))
