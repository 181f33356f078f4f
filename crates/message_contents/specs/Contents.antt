-- Fields with their contents, apart from any notes: where contents lie in a buffer of values, the message that they make, and where they
-- stand in it. Over any table.
--
--   Content                  == a field with its content: its number and the bytes
--   content f c              == field f with the content c
--   content_of v o n         == the n bytes of the values v at o
--   contents_in v es         == the fields of the entries es with their contents, which lie in the values v
--   numbers_of es            == the numbers of the entries es
--   numbers_in cs            == the numbers of the fields cs
--   number_allowed m last f  == f may follow the number last where there are m bitmaps
--   spelt t cs               == the fields cs, one after the other: length digits, of which a fixed field has none, and content
--   bitmaps_with m fs        == the m bitmaps that name the fields fs
--   message_with t mti m cs  == the message of the fields cs: MTI, m bitmaps that name them, the fields
--   standing t at cs         == where the contents of cs stand in a message whose fields begin at the place `at`
--   reading_of t mti m cs    == the reading of that message
--   cleaned_in t cs          == the fields cs, each with its content padded where it is short
--   short_in t es            == the numbers of the fixed fields among the entries es whose contents are too short
--
-- Assumes nothing: these are definitions.
use Rattle.std.specs.Prelude.{ℕ, ◌+◌, ◌*◌, Bool, cond, List, [], ◌∷◌, ◌++◌, leb, ltb, length, take, drop}
use Rattle.octets.specs.Lists.{both}
use Rattle.octets.specs.Numbers.{decimal}
use Rattle.field_table.specs.Table.{Table}
use Rattle.field_write.specs.Fields.{is_short, cleaned}
use Rattle.bitmap.specs.Bitmaps.{is_field, set_of, maps_for}
use Rattle.message_language.specs.Language.{Entry, entry, Reading}

pub record Content : Type 0 where
  pub number : ℕ
  pub bytes : List ℕ

abbrev pub content : ℕ → List ℕ → Content
content f c = record { number = f; bytes = c }

abbrev pub content_of : List ℕ → ℕ → ℕ → List ℕ
content_of v o n = take n (drop o v)

unfoldable pub contents_in : List ℕ → List Entry → List Content
contents_in v [] = []
contents_in v (e ∷ es) = content e.number (content_of v e.offset e.size) ∷ contents_in v es

unfoldable pub numbers_of : List Entry → List ℕ
numbers_of [] = []
numbers_of (e ∷ es) = e.number ∷ numbers_of es

unfoldable pub numbers_in : List Content → List ℕ
numbers_in [] = []
numbers_in (c ∷ cs) = c.number ∷ numbers_in cs

-- 01: "number not above the last; or 0, 1, 65; or … over 64 × count"
unfoldable pub number_allowed : ℕ → ℕ → ℕ → Bool
number_allowed m last f = both (ltb last f) (both (is_field f) (leb f (64 * m)))

unfoldable pub spelt : Table → List Content → List ℕ
spelt t [] = []
spelt t (c ∷ cs) = decimal (t.width c.number) (length c.bytes) ++ (c.bytes ++ spelt t cs)

-- 01: "the bitmaps follow from the count and the fields"
unfoldable pub bitmaps_with : ℕ → List ℕ → List ℕ
bitmaps_with m fs = take (8 * m) (maps_for m (set_of fs))

unfoldable pub message_with : Table → List ℕ → ℕ → List Content → List ℕ
message_with t mti m cs = mti ++ (bitmaps_with m (numbers_in cs) ++ spelt t cs)

unfoldable pub standing : Table → ℕ → List Content → List Entry
standing t at [] = []
standing t at (c ∷ cs) =
    entry c.number (at + t.width c.number) (length c.bytes) ∷ standing t (at + (t.width c.number + length c.bytes)) cs

abbrev pub reading_of : Table → List ℕ → ℕ → List Content → Reading
reading_of t mti m cs = record { mti = mti; count = m; entries = standing t (4 + 8 * m) cs }

-- 01: "a fixed content that is too short is padded"
unfoldable pub cleaned_in : Table → List Content → List Content
cleaned_in t [] = []
cleaned_in t (c ∷ cs) = content c.number (cleaned t c.number c.bytes) ∷ cleaned_in t cs

unfoldable pub short_in : Table → List Entry → List ℕ
short_in t [] = []
short_in t (e ∷ es) = cond (is_short t e.number e.size) (e.number ∷ short_in t es) (short_in t es)
