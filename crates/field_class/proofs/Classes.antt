-- What `is_of_class` asks of every class but x+n. Assumes nothing.
use Prim.Native.Nat.{ℕ}
use mathlib.Core.Path.{◌≡◌, refl}
use mathlib.Core.Bool.{Bool}
use mathlib.Core.List.{List, [], ◌∷◌}
use Rattle.std.specs.List.{list_all}
use Rattle.octets.specs.Lists.{all}
use Rattle.field_table.specs.declared.Class.{Class}
use Rattle.field_table.specs.declared.Class.TheVariants.{N, A, An, Ans, Ns, Z, Xn, B}
use Rattle.field_class.specs.Classes.{allows, conforms}

-- the library's test of each element is ours
pub all_tested : (p : ℕ → Bool) (s : List ℕ) → list_all p s ≡ all p s
all_tested p [] = refl
all_tested p (x ∷ s) = rw (all_tested p s)

-- the contents of every class but x+n are tested byte by byte
pub conforms_bytes : (c : Class) (s : List ℕ) → (c ≡ Xn → ⊥) → all (allows c) s ≡ conforms c s
conforms_bytes N s h = refl
conforms_bytes A s h = refl
conforms_bytes An s h = refl
conforms_bytes Ans s h = refl
conforms_bytes Ns s h = refl
conforms_bytes Z s h = refl
conforms_bytes Xn s h = absurd (h refl)
conforms_bytes B s h = refl
