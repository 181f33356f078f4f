-- Digit counts, and the lengths that fit in them, over the count. Assumes nothing.
use Prim.Native.Nat.{ℕ, ◌^◌, ◌<◌, ◌≤◌}
use mathlib.Core.Path.{◌≡◌, sym, ◌∙◌}
use mathlib.Core.Bool.{true}
use native.Mathlib.Omega.{arith}
use lib.Dec.{ltb}
use borrow.Author.Tests.{ne_eqb, eqb-true, ltb-true}
use Rattle.octets.specs.Lists.{both}
use Rattle.octets.proofs.Cases.{by_bool, by_eq, both_left, both_right}
use Rattle.refusal.specs.Numbers.{length_needs_digits}
use Rattle.refusal.specs.Refusals.{Test, good}
use Rattle.refusal.proofs.Tests.{bad_good}
use Rattle.encoding_length.specs.Lengths.{is_width, encode_fault}

-- a count that is allowed and not two is three
pub not_two : (w : ℕ) → is_width w ≡ true → (w ≡ 2 → ⊥) → w ≡ 3
unfolding is_width
not_two w t h = eqb-true w 3 (rw (ne_eqb w 2 h) at t)

pub width_most : (w : ℕ) → is_width w ≡ true → w ≤ 3
width_most w t = by_eq w 2 (λ e. omega arith) (λ h. omega (arith, not_two w t h))

-- what a length without fault is
module _ (fault : Test) (w n : ℕ) (tested : fault ≡ encode_fault w n) (clean : fault ≡ good) where
  passes : both (is_width w) (ltb n (10 ^ w)) ≡ true
  unfolding encode_fault
  passes =
      by_bool (both (is_width w) (ltb n (10 ^ w))) (λ t. t)
      (λ t. bad_good length_needs_digits (sym (tested ∙ rw t) ∙ clean))

  pub fault_width : is_width w ≡ true
  fault_width = both_left (is_width w) (ltb n (10 ^ w)) passes

  pub fault_fits : n < 10 ^ w
  fault_fits = ltb-true n (10 ^ w) (both_right (is_width w) (ltb n (10 ^ w)) passes)
