-- A set that fields are put into one after the other has the bits of those fields. Assumes nothing.
use Prim.Native.Nat.{ℕ, zero, suc, ◌-◌, ◌/◌, ◌%◌, ◌^◌, ◌≤◌, ◌<◌}
use mathlib.Core.Path.{◌≡◌, refl, sym, ap, ◌∙◌}
use mathlib.Core.Bool.{Bool, true, false, not}
use mathlib.Core.List.{List, [], ◌∷◌}
use native.Mathlib.Omega.{arith}
use native.Mathlib.Nat.{zero-div}
use lib.Dec.{T, eqb}
use lib.ListN.{length, get_or, replicate, length-set}
use lib.Seq.{get_or-set_same, get_or-set_other}
use borrow.Author.Tests.{eq-eqb, ne_eqb, eqb-false}
use Rattle.octets.specs.Lists.{either, between, all}
use Rattle.octets.proofs.Cases.{by_bool, by_eq, both_left, both_right}
use Rattle.octets.proofs.Lists.{is_between, between_high, all_at}
use Rattle.octets.proofs.Tables.{below, at}
use Rattle.bitmap.specs.Bits.{bit_in, bit_of, bytes_of, with_bit}
use Rattle.bitmap.specs.Bitmaps.{is_field, has_field, no_fields, with_field, is_in, set_of, set_from}
use Rattle.bitmap.proofs.Bits.{bit_room, bytes_of_bits}
use Rattle.bitmap.proofs.ByBits.{all_set}
use Rattle.bitmap.proofs.Maps.{field_low, field_high}

-- one bit of a byte set: computed at every byte and bit
same_bool : Bool → Bool → Bool
same_bool true b = b
same_bool false b = not b

same : (a b : Bool) → T (same_bool a b) → a ≡ b
unfolding same_bool
same true true t = refl
same true false t = absurd t
same false true t = absurd t
same false false t = refl

bit_test : ℕ → ℕ → ℕ → Bool
unfolding with_bit same_bool
bit_test x i j = same_bool (bit_in (with_bit x i) j) (either (eqb i j) (bit_in x j))

bits_test : ℕ → Bool
unfolding bit_test
bits_test x = below (λ i. below (bit_test x i) 8) 8

bits_tested : T (below bits_test 256)
unfolding bits_test bit_test with_bit same_bool
bits_tested = tt

bit_with : (x i j : ℕ) → x < 256 → i < 8 → j < 8 → bit_in (with_bit x i) j ≡ either (eqb i j) (bit_in x j)
unfolding bits_test bit_test
bit_with x i j hx hi hj = same _ _ (at (bit_test x i) 8 (at (λ (k : ℕ). below (bit_test x k) 8) 8 (at bits_test 256 bits_tested x hx) i hi) j hj)

with_byte : (x i : ℕ) → x < 256 → i < 8 → with_bit x i < 256
unfolding with_bit
with_byte x i hx hi =
    by_bool (bit_in x i)
    (λ y. rw y hx)
    (λ n. rw n (bit_room x i hx hi (eqb-false (x / 2 ^ (7 - i) % 2) 1 n)))

-- A set of 24 bytes.
pub record Bytes24 (s : List ℕ) : Type 0 where
  pub long : length s ≡ 24
  pub bytes : all (between 0 255) s ≡ true

pub none_is : Bytes24 no_fields
unfolding between
none_is = record { long = refl; bytes = refl }

module _ (s : List ℕ) (b : Bytes24 s) where
  byte_at : (i : ℕ) → i < 24 → get_or s i 0 < 256
  byte_at i h = omega (arith, between_high 0 255 (get_or s i 0) (all_at (between 0 255) s i b.bytes (omega (arith, b.long))))

  pub with_is : (f : ℕ) → Bytes24 (with_field s f)
  unfolding with_field
  with_is f =
      by_bool (is_field f)
      (λ y.
      let h = field_high f y in
      let l = field_low f y in
      let v = with_byte (get_or s ((f - 1) / 8) 0) ((f - 1) % 8) (byte_at ((f - 1) / 8) (omega arith)) (omega arith) in
      rw y (record {
        long = length-set s ((f - 1) / 8) _ ∙ b.long;
        bytes = all_set (between 0 255) s ((f - 1) / 8) _ b.bytes (is_between 0 255 _ (omega arith) (omega arith));
      }))
      (λ n. rw n b)

  -- a field that is put in is there, and no other bit comes or goes
  bit_put : (f g : ℕ) → is_field f ≡ true → 1 ≤ g → g ≤ 192 → bit_of (with_field s f) g ≡ either (eqb f g) (bit_of s g)
  unfolding with_field bit_of
  bit_put f g y gl gh =
      let fh = field_high f y in
      let fl = field_low f y in
      let ng : eqb g 0 ≡ false = ne_eqb g 0 (λ (q : g ≡ 0). omega arith) in
      by_eq ((g - 1) / 8) ((f - 1) / 8)
      (λ e.
      rw (y, ng, e, get_or-set_same s ((f - 1) / 8) (with_bit (get_or s ((f - 1) / 8) 0) ((f - 1) % 8)) 0 (omega (arith, b.long)))
      (bit_with (get_or s ((f - 1) / 8) 0) ((f - 1) % 8) ((g - 1) % 8) (byte_at ((f - 1) / 8) (omega arith)) (omega arith) (omega arith)
      ∙ ap (λ (q : Bool). either q (bit_in (get_or s ((f - 1) / 8) 0) ((g - 1) % 8))) (same_place f g (omega arith) gl e)))
      (λ n.
      let fg : eqb f g ≡ false = ne_eqb f g (λ (q : f ≡ g). n (omega arith)) in
      rw (y, ng, fg, get_or-set_other s ((f - 1) / 8) ((g - 1) / 8) (with_bit (get_or s ((f - 1) / 8) 0) ((f - 1) % 8)) 0 n))
    where
      same_place : (f g : ℕ) → 1 ≤ f → 1 ≤ g → (g - 1) / 8 ≡ (f - 1) / 8 → eqb ((f - 1) % 8) ((g - 1) % 8) ≡ eqb f g
      same_place f g fl gl e =
          by_eq f g
          (λ q. eq-eqb ((f - 1) % 8) ((g - 1) % 8) (omega arith) ∙ sym (eq-eqb f g q))
          (λ n. ne_eqb ((f - 1) % 8) ((g - 1) % 8) (λ (q : (f - 1) % 8 ≡ (g - 1) % 8). n (omega arith)) ∙ sym (ne_eqb f g n))

either_swap : (a b c : Bool) → either a (either b c) ≡ either (either b a) c
either_swap true true c = refl
either_swap true false c = refl
either_swap false true c = refl
either_swap false false c = refl

pub from_is : (fs s : List ℕ) → Bytes24 s → Bytes24 (set_from s fs)
unfolding set_from
from_is [] s b = b
from_is (f ∷ fs) s b = from_is fs (with_field s f) (with_is s b f)

bit_from : (fs s : List ℕ) (g : ℕ) → Bytes24 s → all is_field fs ≡ true → 1 ≤ g → g ≤ 192 → bit_of (set_from s fs) g ≡ either (is_in g fs) (bit_of s g)
unfolding set_from
bit_from [] s g b a l h = refl
bit_from (f ∷ fs) s g b a l h =
    bit_from fs (with_field s f) g (with_is s b f) (both_right (is_field f) (all is_field fs) a) l h
    ∙ ap (either (is_in g fs)) (bit_put s b f g (both_left (is_field f) (all is_field fs) a) l h)
    ∙ either_swap (is_in g fs) (eqb f g) (bit_of s g)

zeros : (n i : ℕ) → ◌≡◌ {A = ℕ} (get_or (replicate n 0) i 0) 0
zeros zero i = refl
zeros (suc n) zero = refl
zeros (suc n) (suc i) = zeros n i

bit_none : (g : ℕ) → 1 ≤ g → bit_of no_fields g ≡ false
unfolding bit_of
bit_none g l = rw (ne_eqb g 0 (λ (q : g ≡ 0). omega arith), zeros 24 ((g - 1) / 8), zero-div (2 ^ (7 - (g - 1) % 8)))

either_false : (b : Bool) → either b false ≡ b
either_false true = refl
either_false false = refl

-- the fields put into an empty set are its bits, and no others
pub bit_set : (fs : List ℕ) (g : ℕ) → all is_field fs ≡ true → 1 ≤ g → g ≤ 192 → bit_of (set_from no_fields fs) g ≡ is_in g fs
bit_set fs g a l h = bit_from fs no_fields g none_is a l h ∙ ap (either (is_in g fs)) (bit_none g l) ∙ either_false (is_in g fs)

pub set_is : (fs : List ℕ) → all is_field fs ≡ true → set_from no_fields fs ≡ set_of fs
unfolding set_of
set_is fs a =
    let b = from_is fs no_fields none_is in
    sym
    (ap (λ (k : ℕ). bytes_of (λ g. is_in g fs) k 1) (sym b.long)
    ∙ bytes_of_bits (λ g. is_in g fs) (set_from no_fields fs) b.bytes (λ f l u. sym (bit_set fs f a l (omega (arith, b.long)))))

pub has_set : (fs : List ℕ) (g : ℕ) → all is_field fs ≡ true → is_field g ≡ true → has_field (set_from no_fields fs) g ≡ is_in g fs
unfolding has_field
has_set fs g a z = let h = field_high g z in let l = field_low g z in rw z (bit_set fs g a (omega arith) h)
