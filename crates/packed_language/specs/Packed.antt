-- The packed language beside the plain one, written from 02 without the link: what a message says, apart from its form, and its bytes in each of
-- the two forms. 02, P3: "MTI in two BCD bytes, bitmaps as they are, LL in one BCD byte and LLL in two, `n` contents in BCD with a leading zero
-- half-byte when odd, lengths counting digits, all other classes as in the plain form."
--
--   Allowed t f c       == c is a content of field f as the plain language has it, and it is digits where its class is n
--   AllAllowed t cs     == each of the fields cs has such a content
--   AllDigits t cs      == the contents of class n among the fields cs are digits
--   Parts               == a message apart from its form: the four digits of its MTI, its bitmaps, and its fields with their contents
--   IsMessage t m p     == p is such a message, with at most m bitmaps
--   plain_bytes t p     == its plain form: MTI, bitmaps, and for each field its length digits, of which a fixed one has none, and its content
--   packed_content c x  == the content x of class c in the packed form
--   packed_fields t cs  == the fields cs in the packed form, one after the other
--   packed_bytes t p    == its packed form
--   Starts s bs u       == the input s begins with the bytes bs, of which there are u
--
-- `packed d` is the BCD of the digits d, a leading zero half-byte where their count is odd (encoding_bcd/specs/Bcd.antt); `decimal w n` is n in w
-- digits, so that a length of w digits takes half of w bytes, rounded up, and counts what the content has in the plain form: digits, or bytes.
--
-- Shared with the link are `packed`, `is_numeric`, the table, `fields_of`, and by `Item` also `is_digit`, `is_ascii`, `is_binary` and `decimal_of`. What holds them to
-- 02 and 01: the worked pairs (Worked.antt) for `packed` and `is_numeric`; the list in message_language/specs/Language.antt for the others. `decimal` and
-- `count_of` are the language's alone.
-- Assumes nothing: these are definitions.
use Rattle.std.specs.Prelude.{ℕ, ◌*◌, ◌≤◌, ◌≡◌, true, cond, List, [], ◌∷◌, ◌++◌, length}
use Rattle.octets.specs.Lists.{all}
use Rattle.octets.specs.Numbers.{is_digit, decimal}
use Rattle.encoding_bcd.specs.Bcd.{packed}
use Rattle.field_table.specs.Table.{Table}
use Rattle.field_table.specs.declared.Class.{Class}
use Rattle.bitmap.specs.Bitmaps.{count_of, fields_of}
use Rattle.message_language.specs.Language.{Item}
use Rattle.message_contents.specs.Contents.{Content, numbers_in, spelt}
use Rattle.packed_field.specs.Items.{is_numeric}

pub record Allowed (t : Table) (f : ℕ) (c : List ℕ) : Type 0 where
  pub item : Item t f (decimal (t.width f) (length c)) c
  pub digits : is_numeric (t.class f) ≡ true → all is_digit c ≡ true

pub data AllAllowed (t : Table) : List Content → Type 0 where
  none : AllAllowed t []
  more : {c : Content} {cs : List Content} → Allowed t c.number c.bytes → AllAllowed t cs → AllAllowed t (c ∷ cs)

unfoldable pub AllDigits : Table → List Content → Type 0
AllDigits t [] = Unit {0}
AllDigits t (c ∷ cs) = (is_numeric (t.class c.number) ≡ true → all is_digit c.bytes ≡ true) × AllDigits t cs

pub record Parts : Type 0 where
  pub mti : List ℕ
  pub maps : List ℕ
  pub contents : List Content

-- 01: "8 bytes of bitmap; 8 more if bit 1 is set; 8 more if bit 65 … is set; then the fields in rising number"
pub record IsMessage (t : Table) (m : ℕ) (p : Parts) : Type 0 where
  pub four : length p.mti ≡ 4
  pub digits : all is_digit p.mti ≡ true
  pub whole : length p.maps ≡ 8 * count_of p.maps
  pub few : count_of p.maps ≤ m
  pub named : numbers_in p.contents ≡ fields_of p.maps (count_of p.maps)
  pub allowed : AllAllowed t p.contents

unfoldable pub plain_bytes : Table → Parts → List ℕ
plain_bytes t p = p.mti ++ (p.maps ++ spelt t p.contents)

unfoldable pub packed_content : Class → List ℕ → List ℕ
packed_content c x = cond (is_numeric c) (packed x) x

unfoldable pub packed_fields : Table → List Content → List ℕ
packed_fields t [] = []
packed_fields t (c ∷ cs) =
    packed (decimal (t.width c.number) (length c.bytes)) ++ (packed_content (t.class c.number) c.bytes ++ packed_fields t cs)

unfoldable pub packed_bytes : Table → Parts → List ℕ
packed_bytes t p = packed p.mti ++ (p.maps ++ packed_fields t p.contents)

pub record Starts (s bs : List ℕ) (u : ℕ) : Type 0 where
  pub after : List ℕ
  pub joined : s ≡ bs ++ after
  pub long : length bs ≡ u
