-- One to three chained bitmaps, and sets of fields as 24 bytes of bits that are placed as in the bitmaps.
--
--   is_field f         == f is the number of a field: 2 to 192 without 65
--   has_field s f      == field f is present, in the bitmaps or in the set s
--   count_of s         == how many bitmaps there are, as bits 1 and 65 say
--   fields_from p k f  == those of the k numbers from f on that pass p, rising
--   fields_of s m      == the fields present in the m bitmaps s, rising
--   no_fields          == the empty set
--   with_field s f     == the set s with the field f; s where f is no field
--   is_in g fs         == g is one of the numbers fs
--   set_of fs          == the set of the fields fs
--   set_from s fs      == the set s with the fields fs, one after the other
--   map_bit m s f      == bit f of m bitmaps for the set s: bits 1 and 65 follow from the count
--   maps_for m s       == the 24 bytes of m bitmaps for the set s: eight for each, then zeros
--   chain on x         == the byte x with its first bit as `on` says
--   map_byte m i x     == byte i of them, made from the byte x of the set
--   maps_from m s k i  == k bytes of them, from byte i on
--   unchained i x      == byte i of bitmaps, x, without bits 1 and 65, which are no fields
--   bit_numbers x f    == the numbers of the bits set in the byte x, whose high bit is number f, rising
--
-- Assumes nothing: these are definitions.
use Rattle.std.specs.Prelude.{ℕ, zero, suc, ◌+◌, ◌-◌, ◌*◌, ◌/◌, ◌%◌, Bool, true, false, cond, not, List, [], ◌∷◌, ◌++◌, map, get_or, set, replicate, eqb, leb}
use Rattle.octets.specs.Lists.{both, either, between}
use Rattle.bitmap.specs.Bits.{bit, bit_in, bit_of, bytes_of, with_bit}

-- 01: "Bits 1 and 65 are no fields."
unfoldable pub is_field : ℕ → Bool
is_field f = both (between 2 192 f) (not (eqb f 65))

unfoldable pub has_field : List ℕ → ℕ → Bool
has_field s f = both (is_field f) (bit_of s f)

-- 01: "8 bytes of bitmap; 8 more if bit 1 is set; 8 more if bit 65, the first bit of the second bitmap, is set"
unfoldable pub count_of : List ℕ → ℕ
count_of s = cond (bit_of s 1) (cond (bit_of s 65) 3 2) 1

unfoldable pub fields_from : (ℕ → Bool) → ℕ → ℕ → List ℕ
fields_from p zero f = []
fields_from p (suc k) f = elim (p f) [ true ↦ f ∷ fields_from p k (f + 1) | false ↦ fields_from p k (f + 1) ]

unfoldable pub fields_of : List ℕ → ℕ → List ℕ
fields_of s m = fields_from (has_field s) (64 * m) 1

abbrev pub no_fields : List ℕ
no_fields = replicate 24 0

unfoldable pub with_field : List ℕ → ℕ → List ℕ
with_field s f = cond (is_field f) (set s ((f - 1) / 8) (with_bit (get_or s ((f - 1) / 8) 0) ((f - 1) % 8))) s

abbrev pub is_in : ℕ → List ℕ → Bool
is_in g [] = false
is_in g (f ∷ fs) = either (eqb f g) (is_in g fs)

-- 01: "as 24 bytes of bits placed as in the bitmaps"
unfoldable pub set_of : List ℕ → List ℕ
set_of fs = bytes_of (λ g. is_in g fs) 24 1

unfoldable pub set_from : List ℕ → List ℕ → List ℕ
set_from s [] = s
set_from s (f ∷ fs) = set_from (with_field s f) fs

-- 01: "the bitmaps follow from the count and the fields"
unfoldable pub map_bit : ℕ → List ℕ → ℕ → Bool
map_bit m s f = cond (eqb f 1) (leb 2 m) (cond (eqb f 65) (leb 3 m) (has_field s f))

unfoldable pub maps_for : ℕ → List ℕ → List ℕ
maps_for m s = bytes_of (map_bit m s) (8 * m) 1 ++ replicate (24 - 8 * m) 0

-- Byte by byte, as they are made: only the first bit of the first two bitmaps is not the set's.
abbrev pub chain : Bool → ℕ → ℕ
chain on x = 128 * bit on + x % 128

unfoldable pub map_byte : ℕ → ℕ → ℕ → ℕ
map_byte m i x =
    cond (leb (8 * m) i) 0
    (cond (eqb i 0) (chain (leb 2 m) x)
    (cond (eqb i 8) (chain (leb 3 m) x) x))

unfoldable pub maps_from : ℕ → List ℕ → ℕ → ℕ → List ℕ
maps_from m s zero i = []
maps_from m s (suc k) i = map_byte m i (get_or s i 0) ∷ maps_from m s k (suc i)

-- Byte by byte, as they are listed.
unfoldable pub unchained : ℕ → ℕ → ℕ
unchained i x = cond (eqb i 0) (chain false x) (cond (eqb i 8) (chain false x) x)

unfoldable pub bit_numbers : ℕ → ℕ → List ℕ
bit_numbers x f = map (λ i. f + i) (fields_from (bit_in x) 8 0)
