-- Lists of bytes: tests at every byte, and bytes laid over the front of a buffer.
--
--   both a b         == a and b
--   either a b       == a or b
--   between lo hi x  == x is at least lo and at most hi
--   all p s          == the test p passes at each element of s
--   lead p s         == how many elements at the front of s pass p, up to the first that does not
--   lay r out        == r over the front of out, the rest of out as it was
--   placed r out     == lay r out where r fits in out, else out
--
-- Assumes nothing: these are definitions.
use Rattle.std.specs.Prelude.{ℕ, suc, Bool, true, false, cond, List, [], ◌∷◌, ◌++◌, length, drop, leb}

abbrev pub both : Bool → Bool → Bool
both true b = b
both false b = false

abbrev pub either : Bool → Bool → Bool
either true b = true
either false b = b

unfoldable pub between : ℕ → ℕ → ℕ → Bool
between lo hi x = both (leb lo x) (leb x hi)

abbrev pub all : (ℕ → Bool) → List ℕ → Bool
all p [] = true
all p (x ∷ xs) = both (p x) (all p xs)

abbrev pub lead : (ℕ → Bool) → List ℕ → ℕ
lead p [] = 0
lead p (x ∷ xs) = cond (p x) (suc (lead p xs)) 0

unfoldable pub lay : List ℕ → List ℕ → List ℕ
lay r out = r ++ drop (length r) out

unfoldable pub placed : List ℕ → List ℕ → List ℕ
placed r out = cond (leb (length r) (length out)) (lay r out) out
