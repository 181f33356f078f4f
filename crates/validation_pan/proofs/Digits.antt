-- The digits among the bytes of a content: counted from the left, weighed from the right. Assumes nothing.
use Prim.Native.Nat.{ℕ, ◌+◌, ◌-◌, ◌%◌, ◌≤◌, ◌<◌}
use mathlib.Core.Path.{◌≡◌, refl, sym, ap, ◌∙◌}
use mathlib.Core.Bool.{Bool, true, false, not}
use mathlib.Core.List.{List, [], ◌∷◌, ◌++◌, reverse, reverse-append}
use native.Mathlib.Omega.{arith}
use native.Mathlib.Numerals.{add-one}
use lib.ListN.{length, drop, get_or, drop_of_length-le}
use lib.Seq.{drop-cons}
use Rattle.std.proofs.lemmas.List.{nil_from_length}
use Rattle.std.specs.List.{push}
use Rattle.octets.specs.Numbers.{is_digit}
use Rattle.octets.proofs.Cases.{by_bool}
use Rattle.octets.proofs.Lists.{between_low}
use Rattle.validation_pan.specs.Pan.{digits_in, worth, weighed, luhn_sum}

-- A loop that counts: those counted so far, and those in the rest.
module _ (s : List ℕ) (i count : ℕ) (so_far : length (digits_in s) ≡ count + length (digits_in (drop i s))) where
  pub counted_digit : i < length s → (flag : Bool) → flag ≡ is_digit (get_or s i 0) → flag ≡ true → length (digits_in s) ≡ (count + 1) + length (digits_in (drop (i + 1) s))
  unfolding digits_in
  counted_digit h flag e t = so_far ∙ rw (drop-cons s i 0 h, sym e ∙ t, add-one i) (omega arith)

  pub counted_other : i < length s → (flag : Bool) → flag ≡ is_digit (get_or s i 0) → flag ≡ false → length (digits_in s) ≡ count + length (digits_in (drop (i + 1) s))
  unfolding digits_in
  counted_other h flag e t = so_far ∙ rw (drop-cons s i 0 h, sym e ∙ t, add-one i)

  pub counted_all : length s ≤ i → count ≡ length (digits_in s)
  unfolding digits_in
  counted_all h = sym (so_far ∙ rw (drop_of_length-le s {i = i} h) (omega arith))

digits_append : (s t : List ℕ) → digits_in (s ++ t) ≡ digits_in s ++ digits_in t
unfolding digits_in
digits_append [] t = refl
digits_append (x ∷ s) t =
    by_bool (is_digit x)
    (λ y. rw y (ap (λ (l : List ℕ). (x - 0x30) ∷ l) (digits_append s t)))
    (λ n. rw n (digits_append s t))

-- a byte that was found to be a digit is worth what it is over `0`
pub digit_least : (x : ℕ) (flag : Bool) → flag ≡ is_digit x → flag ≡ true → 0x30 ≤ x
digit_least x flag e t = between_low 0x30 0x39 x (sym e ∙ t)

-- The digits of s from the right, and what they weigh.
unfoldable pub from_right : Bool → List ℕ → ℕ
from_right on s = weighed on (reverse (digits_in s))

module _ (on : Bool) (s : List ℕ) (x : ℕ) where
  last_one : reverse (digits_in (push s x)) ≡ reverse (digits_in (x ∷ [])) ++ reverse (digits_in s)
  last_one = ap reverse (digits_append s (x ∷ [])) ∙ reverse-append (digits_in s) (digits_in (x ∷ []))

  right_digit : is_digit x ≡ true → from_right on (push s x) ≡ worth on (x - 0x30) + from_right (not on) s
  unfolding from_right digits_in weighed
  right_digit t = ap (weighed on) last_one ∙ rw t

  right_other : is_digit x ≡ false → from_right on (push s x) ≡ from_right on s
  unfolding from_right digits_in weighed
  right_other t = ap (weighed on) last_one ∙ rw t

-- A loop that weighs from the right and has the bytes t still to come: what it has, and what they will add, is the whole, modulo 10.
pub record Weighing (s : List ℕ) (sum : ℕ) (on : Bool) (t : List ℕ) : Type 0 where
  pub small : sum < 10
  pub whole : luhn_sum (digits_in s) % 10 ≡ (sum + from_right on t) % 10

pub weighing_first : (s : List ℕ) → Weighing s 0 false s
unfolding luhn_sum from_right
weighing_first s = record { small = omega arith; whole = omega arith }

module _ (s : List ℕ) (sum : ℕ) (on : Bool) (t : List ℕ) (g : Weighing s sum on t) where
  module _ (u : List ℕ) (x : ℕ) (taken : t ≡ push u x) (flag : Bool) (tested : flag ≡ is_digit x) where
    pub weighing_digit : (w : ℕ) → flag ≡ true → w ≡ worth on (x - 0x30) → Weighing s ((sum + w) % 10) (not on) u
    weighing_digit w y e =
        let m = g.whole ∙ ap (λ (l : List ℕ). (sum + from_right on l) % 10) taken in
        let r = right_digit on u x (sym tested ∙ y) in
        record { small = omega arith; whole = omega (arith, m, r, e) }

    pub weighing_other : flag ≡ false → Weighing s sum on u
    weighing_other n =
        record { small = g.small; whole = g.whole ∙ ap (λ (w : ℕ). (sum + w) % 10) (ap (from_right on) taken ∙ right_other on u x (sym tested ∙ n)) }

  pub weighing_done : length t ≡ 0 → sum ≡ luhn_sum (digits_in s) % 10
  unfolding from_right weighed digits_in
  weighing_done z =
      let l = g.small in
      let m = g.whole ∙ ap (λ (l : List ℕ). (sum + from_right on l) % 10) (nil_from_length t z) in
      omega (arith, l, m)
