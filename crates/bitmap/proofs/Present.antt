-- The list of the fields present (specs/Present.antt): of the numbers from f on those that pass, rising. Assumes nothing.
use Prim.Native.Nat.{ℕ, zero, suc, ◌+◌, ◌*◌, ◌≤◌, ◌<◌}
use mathlib.Core.Path.{◌≡◌, refl, sym, ◌∙◌}
use mathlib.Core.Bool.{Bool, true, false}
use mathlib.Core.List.{List}
use native.Mathlib.Omega.{arith}
use lib.Dec.{eqb}
use borrow.Author.Tests.{eq-eqb, ne_eqb, lt-ltb}
use Rattle.octets.specs.Lists.{both, between}
use Rattle.octets.proofs.Cases.{by_bool, by_eq, by_lt, by_le}
use Rattle.octets.proofs.Lists.{below_low, above_high, is_between}
use Rattle.bitmap.specs.Bitmaps.{has_field, is_in, fields_from, fields_of}
use Rattle.bitmap.specs.Present.{is_rising, ListsPresent}

both_none : (a : Bool) → both a false ≡ false
both_none true = refl
both_none false = refl

both_so : (a : Bool) → both a true ≡ a
both_so true = refl
both_so false = refl

module _ (p : ℕ → Bool) where
  -- no number outside of the k from f on is listed …
  listed_not : (k f g : ℕ) → (f ≤ g → g < f + k → ⊥) → is_in g (fields_from p k f) ≡ false
  unfolding fields_from
  listed_not zero f g n = refl
  listed_not (suc k) f g n =
      let r = listed_not k (f + 1) g (λ l h. n (omega arith) (omega arith)) in
      let e : eqb f g ≡ false = ne_eqb f g (λ (q : f ≡ g). n (omega arith) (omega arith)) in
      by_bool (p f) (λ y. rw (fields_from, y, e) r) (λ y. rw (fields_from, y) r)

  -- … and one of them is where it passes
  listed_so : (k f g : ℕ) → f ≤ g → g < f + k → is_in g (fields_from p k f) ≡ p g
  unfolding fields_from
  listed_so zero f g l h = absurd (omega arith)
  listed_so (suc k) f g l h =
      by_eq f g
      (λ q. by_bool (p f)
      (λ y. rw (fields_from, y, eq-eqb f g q) (sym (rw q at y)))
      (λ y. rw (fields_from, y) (listed_not k (f + 1) g (λ a b. omega (arith, q, a)) ∙ sym (rw q at y))))
      (λ n.
      let r = listed_so k (f + 1) g (omega (arith, n)) (omega arith) in
      by_bool (p f) (λ y. rw (fields_from, y, ne_eqb f g n) r) (λ y. rw (fields_from, y) r))

  is_rising_lem : (k f last : ℕ) → last < f → is_rising last (fields_from p k f) ≡ true
  unfolding fields_from
  is_rising_lem zero f last h = refl
  is_rising_lem (suc k) f last h =
      by_bool (p f)
      (λ y. rw (fields_from, y, lt-ltb last f h) (is_rising_lem k (f + 1) f (omega arith)))
      (λ y. rw (fields_from, y) (is_rising_lem k (f + 1) last (omega arith)))

is_listed : (s : List ℕ) (m g : ℕ) → is_in g (fields_of s m) ≡ both (has_field s g) (between 1 (64 * m) g)
unfolding fields_of
is_listed s m g =
    by_lt g 1
    (λ l. listed_not (has_field s) (64 * m) 1 g (λ a b. omega arith) ∙ rw (below_low 1 (64 * m) g l) (sym (both_none (has_field s g))))
    (λ l. by_le g (64 * m)
    (λ h. listed_so (has_field s) (64 * m) 1 g (omega arith) (omega arith) ∙ rw (is_between 1 (64 * m) g (omega arith) h) (sym (both_so (has_field s g))))
    (λ h. listed_not (has_field s) (64 * m) 1 g (λ a b. omega arith) ∙ rw (above_high 1 (64 * m) g l h) (sym (both_none (has_field s g)))))

pub lists_present : ListsPresent
unfolding fields_of
lists_present = record { listed = is_listed; rising = λ s m. is_rising_lem (has_field s) (64 * m) 1 0 (omega arith) }
