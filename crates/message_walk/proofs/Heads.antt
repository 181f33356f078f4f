-- The head of notes: what it has where it is good, as it is wherever a walk comes to the end note. Assumes nothing.
use Prim.Native.Nat.{ℕ, ◌≤◌}
use mathlib.Core.Path.{◌≡◌, sym}
use mathlib.Core.Bool.{Bool, true}
use mathlib.Core.List.{List}
use native.Mathlib.Omega.{arith}
use lib.Dec.{eqb, leb}
use lib.ListN.{length, drop, get_or, length-drop}
use lib.Seq.{length-take-le}
use borrow.Author.Tests.{leb-true}
use Rattle.std.specs.Prelude.{Result, Ok, Err}
use Rattle.octets.specs.Lists.{both, between, all}
use Rattle.octets.specs.Numbers.{is_digit}
use Rattle.octets.proofs.Cases.{by_bool, both_left, both_right}
use Rattle.octets.proofs.Lists.{between_low, between_high}
use Rattle.refusal.specs.Numbers.{mti_not_digits, note_malformed, bitmap_over_most}
use Rattle.refusal.specs.Refusals.{plain, good}
use Rattle.refusal.specs.declared.Cause.{Cause}
use Rattle.refusal.specs.declared.Refusal.{Refusal}
use Rattle.refusal.proofs.Tests.{bad_good, by_test}
use Rattle.message_notes.specs.Dialect.{head_kind, head_size, Dialect}
use Rattle.message_notes.specs.Notes.{is_head, mti_in, count_in}
use Rattle.message_walk.specs.declared.Ended.{Ended}
use Rattle.message_walk.specs.Walk.{Fault, head_number, walked}

pub ended_head : (d : Dialect) (p : Fault) (n : List ℕ) (x : Ended) → walked d p n ≡ Ok x → head_number d.most n ≡ good
unfolding walked
ended_head d p n x e = by_test (head_number d.most n) (λ z. z) (λ c z. absurd (clash c (rw (walked, z) at e)))
  where
    clash : (c : Cause) → ◌≡◌ {A = Result Ended Refusal} (Err (plain c)) (Ok x) → ⊥
    clash c h = let z : ◌≡◌ {A = ℕ} 0 1 = cc in omega arith

-- a good head, with at most m bitmaps
pub record Head (m : ℕ) (n : List ℕ) : Type 0 where
  pub whole : head_size ≤ length n
  pub least : 1 ≤ count_in n
  pub three : count_in n ≤ 3
  pub few : count_in n ≤ m
  pub four : length (mti_in n) ≡ 4
  pub digits : all is_digit (mti_in n) ≡ true

module _ (m : ℕ) (n : List ℕ) where
  abbrev counted : Bool
  counted = between 1 3 (count_in n)

  head_of : both (is_head n) counted ≡ true → leb (count_in n) m ≡ true → all is_digit (mti_in n) ≡ true → Head m n
  unfolding is_head
  head_of y k z =
      let w = leb-true head_size (length n) (both_left (leb head_size (length n)) (eqb (get_or n 0 0) head_kind) (both_left (is_head n) counted y)) in
      let c = both_right (is_head n) counted y in
      record {
        whole = w;
        least = between_low 1 3 (count_in n) c;
        three = between_high 1 3 (count_in n) c;
        few = leb-true (count_in n) m k;
        four = length-take-le 4 (drop 1 n) (omega (arith, length-drop 1 n, w));
        digits = z;
      }

  pub good_head : head_number m n ≡ good → Head m n
  unfolding head_number
  good_head e =
      by_bool (both (is_head n) counted)
      (λ y. by_bool (leb (count_in n) m)
      (λ k. by_bool (all is_digit (mti_in n))
      (λ z. head_of y k z)
      (λ z. bad_good mti_not_digits (rw (y, k, z) at e)))
      (λ k. bad_good bitmap_over_most (rw (y, k) at e)))
      (λ y. bad_good note_malformed (rw y at e))

  pub head_long : good ≡ head_number m n → head_size ≤ length n
  head_long e = (good_head (sym e)).whole
