-- Going by cases on a test, with what the test says in hand. Assumes nothing.
use Prim.Native.Nat.{ℕ, ◌<◌, ◌≤◌}
use mathlib.Core.Path.{◌≡◌, refl}
use mathlib.Core.Bool.{Bool, true, false}
use native.Mathlib.Omega.{arith}
use lib.Dec.{ltb, leb, eqb}
use borrow.Author.Tests.{ltb-true, ltb-false, leb-true, leb-false, eqb-true, eqb-false}
use Rattle.octets.specs.Lists.{both, either}

pub false_true : false ≡ true → ⊥
false_true e = let z : ◌≡◌ {A = ℕ} 0 1 = cc in omega arith

module _ {P : Type 0} where
  pub by_bool : (b : Bool) → (b ≡ true → P) → (b ≡ false → P) → P
  by_bool true y n = y refl
  by_bool false y n = n refl

  pub by_lt : (a b : ℕ) → (a < b → P) → (b ≤ a → P) → P
  by_lt a b y n = by_bool (ltb a b) (λ e. y (ltb-true a b e)) (λ e. n (ltb-false a b e))

  pub by_le : (a b : ℕ) → (a ≤ b → P) → (b < a → P) → P
  by_le a b y n = by_bool (leb a b) (λ e. y (leb-true a b e)) (λ e. n (leb-false a b e))

  pub by_eq : (a b : ℕ) → (a ≡ b → P) → ((a ≡ b → ⊥) → P) → P
  by_eq a b y n = by_bool (eqb a b) (λ e. y (eqb-true a b e)) (λ e. n (eqb-false a b e))

-- what a test of one thing or another says
pub by_either : {P : Type 0} (a b : Bool) → either a b ≡ true → (a ≡ true → P) → (b ≡ true → P) → P
by_either true b t y n = y refl
by_either false b t y n = n t

-- what a test of two things says of each
pub both_left : (a b : Bool) → both a b ≡ true → a ≡ true
both_left true b t = refl
both_left false b t = t

pub both_right : (a b : Bool) → both a b ≡ true → b ≡ true
both_right true b t = t
both_right false b t = absurd (false_true t)
