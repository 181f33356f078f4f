-- `fields_of`, which language and reader share, lists the fields present in bitmaps and nothing else, each once and rising.
--
--   is_rising last fs  == each of the numbers fs is above the one before it, and the first above last; so none stands there twice
--   ListsPresent       == what is said of the list, for any bytes s and any count m of bitmaps
--
-- proofs/Present.antt proves it. Assumes nothing: these are a definition and a statement.
use Rattle.std.specs.Prelude.{ℕ, ◌*◌, ◌≡◌, Bool, true, List, [], ◌∷◌, ltb}
use Rattle.octets.specs.Lists.{both, between}
use Rattle.bitmap.specs.Bitmaps.{has_field, is_in, fields_of}

abbrev pub is_rising : ℕ → List ℕ → Bool
is_rising last [] = true
is_rising last (f ∷ fs) = both (ltb last f) (is_rising f fs)

pub record ListsPresent : Type 0 where
  -- A number is listed exactly when it is a field whose bit is set, and that bit is one of the 64 · m.
  pub listed : (s : List ℕ) (m g : ℕ) → is_in g (fields_of s m) ≡ both (has_field s g) (between 1 (64 * m) g)
  -- 01: "then the fields in rising number"
  pub rising : (s : List ℕ) (m : ℕ) → is_rising 0 (fields_of s m) ≡ true
