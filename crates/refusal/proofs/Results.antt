-- An answer accepts or refuses. Assumes nothing.
use Prim.Native.Nat.{ℕ}
use mathlib.Core.Path.{◌≡◌, refl}
use native.Mathlib.Omega.{arith}
use Rattle.std.specs.Prelude.{Result, Ok, Err}

pub by_result : {A E P : Type 0} (o : Result A E) → ((e : E) → o ≡ Err e → P) → ((x : A) → o ≡ Ok x → P) → P
by_result (Err e) f g = f e refl
by_result (Ok x) f g = g x refl

-- not both
pub never : {A E P : Type 0} (e : E) {o : Result A E} {x : A} → o ≡ Err e → o ≡ Ok x → P
never e p q = absurd (let z : ◌≡◌ {A = ℕ} 0 1 = cc in omega arith)

-- what is accepted, or refused, is one value
pub same_ok : {A E : Type 0} {x y : A} → ◌≡◌ {A = Result A E} (Ok x) (Ok y) → x ≡ y
same_ok p = cc

pub same_err : {A E : Type 0} {d e : E} → ◌≡◌ {A = Result A E} (Err d) (Err e) → d ≡ e
same_err p = cc
