-- What a test finds, and what `?` hands on of it. Assumes nothing.
use Prim.Native.Nat.{ℕ}
use mathlib.Core.Path.{◌≡◌, refl, ap, ◌∙◌}
use mathlib.Core.Bool.{Bool, true, false, cond}
use native.Mathlib.Omega.{arith}
use Rattle.std.specs.Prelude.{Result, Ok, Err}
use Rattle.std.specs.Result.{IsErrAnd}
use Rattle.std.proofs.lemmas.Result.{err_from_is_err_and}
use Rattle.refusal.specs.Refusals.{Test, good, bad}
use Rattle.refusal.specs.declared.Cause.{Cause}

pub bad_good : {P : Type 0} (c : Cause) → bad c ≡ good → P
bad_good c e = absurd (let z : ◌≡◌ {A = ℕ} 0 1 = cc in omega arith)

pub by_test : {P : Type 0} (t : Test) → (t ≡ good → P) → ((c : Cause) → t ≡ bad c → P) → P
by_test (Ok x) g b = g refl
by_test (Err c) g b = b c refl

-- a test that gives no fault was passed, and so were those behind it
pub passed : (b : Bool) (rest : Test) (c : Cause) → cond b rest (bad c) ≡ good → (b ≡ true) × (rest ≡ good)
passed true rest c e = (refl, e)
passed false rest c e = bad_good c e

-- what `?` hands on: the cause that a test found, or the refusal that it becomes, with no field, at position 0
pub handed_on : {A E : Type 0} {r : Result A E} {x : E} → IsErrAnd r (λ y. y ≡ x) → r ≡ Err x
handed_on {A} {E} {r} {x} h = let found = err_from_is_err_and r h in found.1 ∙ ap Err found.2
