-- A rule of a table, proved at all of its entries by one test that is computed. Assumes nothing.
use mathlib.Core.Path.{◌≡◌, ◌∙◌, subst, sym}
use mathlib.Core.Bool.{Bool, true, false}
use mathlib.Core.List.{List, [], ◌∷◌}
use mathlib.Core.Logic.{⊎_elim}
use Prim.Native.Nat.{ℕ, zero, suc, ◌+◌, ◌<◌}
use native.Mathlib.Nat.{add-zero, zero-add, add-suc, suc-add, le_of_suc-le-suc, not-suc-le-zero, eq-or-lt_of_le}
use lib.Dec.{T}
use lib.ListN.{length, get_or}
use Rattle.octets.specs.Lists.{both}

pub passed_left : (a b : Bool) → T (both a b) → T a
passed_left true b t = tt
passed_left false b t = t

pub passed_right : (a b : Bool) → T (both a b) → T b
passed_right true b t = t
passed_right false b t = absurd t

-- the test p passes at each number below n
abbrev pub below : (ℕ → Bool) → ℕ → Bool
below p zero = true
below p (suc n) = both (p n) (below p n)

pub at : (p : ℕ → Bool) (n : ℕ) → T (below p n) → (k : ℕ) → k < n → T (p k)
at p zero t k h = absurd (not-suc-le-zero h)
at p (suc n) t k h =
    ⊎_elim (λ (e : k ≡ n). subst (λ (m : ℕ). T (p m)) (sym e) (passed_left (p n) (below p n) t))
    (λ (l : k < n). at p n (passed_right (p n) (below p n) t) k l)
    (eq-or-lt_of_le (le_of_suc-le-suc h))

-- the test f passes at each entry of the list and its place, counted from i
abbrev pub every : (ℕ → ℕ → Bool) → ℕ → List ℕ → Bool
every f i [] = true
every f i (x ∷ xs) = both (f i x) (every f (suc i) xs)

from : (f : ℕ → ℕ → Bool) (xs : List ℕ) (i : ℕ) → T (every f i xs) → (k : ℕ) → k < length xs → T (f (i + k) (get_or xs k 0))
from f [] i t k h = absurd (not-suc-le-zero h)
from f (x ∷ xs) i t zero h = subst (λ (m : ℕ). T (f m x)) (sym (add-zero i)) (passed_left (f i x) (every f (suc i) xs) t)
from f (x ∷ xs) i t (suc k) h =
    subst (λ (m : ℕ). T (f m (get_or xs k 0))) (suc-add i k ∙ sym (add-suc i k))
    (from f xs (suc i) (passed_right (f i x) (every f (suc i) xs) t) k (le_of_suc-le-suc h))

pub entry : (f : ℕ → ℕ → Bool) (xs : List ℕ) → T (every f 0 xs) → (k : ℕ) → k < length xs → T (f k (get_or xs k 0))
entry f xs t k h = subst (λ (m : ℕ). T (f m (get_or xs k 0))) (zero-add k) (from f xs 0 t k h)
