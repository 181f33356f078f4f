-- What the packed link refuses. 02, P3: "Other refusals, positions and order are the reader's, with 22 in the places … of 3 and 6 and, for packed
-- `n` contents, of 8; 21 likewise of 8 for plain ones."
--
--   TakesOrEight r       == the reader's answer r to a field: the field is taken, or refused with 8
--   RefusesAsReader t m  == packing judges a head as the reader does, and a field too, but for 21: `head_read` and `read_field` are the reader's. What a field is refused
--                           with, 21 apart, the reader refuses it with; 21 is given of class n alone, where the reader takes the field or says 8. Both go through
--                           the fields one after the other (`fields_judged`, `read_fields`) and refuse at the field's first byte
--   NeverText t m f      == of field f neither way answers 8, whatever they are lent
--   BinaryNeverText t m  == it of every field whose class is binary
--   HouseRefuses         == all of it, of the house table and three bitmaps, and of its field 55
--   from b bs            == a packed message with the MTI 0800, one bitmap of the bytes b, and behind it the bytes bs
--   unpacked s           == what unpacking s by the house table into no room tells
--   packed s             == the same of packing
--   refused n f p        == that it refuses: number, field and position
--   WorkedRefusals       == refusals, number, field and position: each number of unpacking at its places, and packing's 21
--
-- Assumes nothing: these are definitions and statements.
use Rattle.std.specs.Prelude.{ℕ, ◌≡◌, true, List, [], ◌∷◌, ◌++◌, Result, Ok, Err}
use Rattle.refusal.specs.Numbers.{text_not_ascii, not_digits}
use Rattle.refusal.specs.Refusals.{refusal, Told}
use Rattle.refusal.specs.declared.Cause.{Cause}
use Rattle.field_table.specs.Table.{Table, is_binary}
use Rattle.field_table.specs.House.{house}
use Rattle.field_read.specs.Items.{content_at, read_field}
use Rattle.field_read.specs.declared.Content.{Content}
use Rattle.message_reader.specs.Reader.{head_read}
use Rattle.packed_field.specs.declared.Script.{Script}
use Rattle.packed_field.specs.declared.Script.TheVariants.{Plain, Packed}
use Rattle.packed_field.specs.declared.Item.{Item}
use Rattle.packed_field.specs.Items.{is_numeric, judge_item}
use Rattle.packed_link.specs.Link.{told_link, link_head, link_answer}

abbrev pub TakesOrEight : Result Content Cause → Type 0
TakesOrEight (Ok x) = Unit {0}
TakesOrEight (Err c) = c ≡ text_not_ascii

pub record RefusesAsReader (t : Table) (m : ℕ) : Type 0 where
  pub head : (s : List ℕ) → link_head Plain m s ≡ head_read m s
  pub found : (f : ℕ) (s : List ℕ) (i : Item) → judge_item Plain t f s ≡ Ok i → (read_field t f s ≡ Ok (content_at i.start i.count)) × (i.size ≡ i.count)
  pub refused : (f : ℕ) (s : List ℕ) (c : Cause) → judge_item Plain t f s ≡ Err c → (c ≡ not_digits → ⊥) → read_field t f s ≡ Err c
  pub instead : (f : ℕ) (s : List ℕ) → judge_item Plain t f s ≡ Err not_digits → (is_numeric (t.class f) ≡ true) × TakesOrEight (read_field t f s)

-- 02, P2: "8 is never given for it", of the link too.
pub record NeverText (t : Table) (m f : ℕ) : Type 0 where
  pub carrying : (S : Script) (s out : List ℕ) (at : ℕ) → link_answer S t m s out ≡ Err (refusal text_not_ascii f at) → ⊥

unfoldable pub BinaryNeverText : Table → ℕ → Type 0
BinaryNeverText t m = (f : ℕ) → is_binary (t.class f) ≡ true → NeverText t m f

pub record HouseRefuses : Type 0 where
  pub as_reader : RefusesAsReader house 3
  pub never_text : BinaryNeverText house 3
  pub chip : NeverText house 3 55

abbrev pub from : List ℕ → List ℕ → List ℕ
from b bs = 0x08 ∷ 0x00 ∷ (b ++ bs)

abbrev pub unpacked : List ℕ → Told
unpacked s = told_link (link_answer Packed house 3 s [])

abbrev pub packed : List ℕ → Told
packed s = told_link (link_answer Plain house 3 s [])

abbrev pub refused : ℕ → ℕ → ℕ → Told
refused n f p = record { number = n; field = f; position = p; values = 0 ∷ 0 ∷ [] }

-- bitmaps: none, one that a second should follow, field 2, 3, 36, 48
abbrev no_field : List ℕ
no_field = 0 ∷ 0 ∷ 0 ∷ 0 ∷ 0 ∷ 0 ∷ 0 ∷ 0 ∷ []

abbrev chained : List ℕ
chained = 0x80 ∷ 0 ∷ 0 ∷ 0 ∷ 0 ∷ 0 ∷ 0 ∷ 0 ∷ []

abbrev field_2 : List ℕ
field_2 = 0x40 ∷ 0 ∷ 0 ∷ 0 ∷ 0 ∷ 0 ∷ 0 ∷ 0 ∷ []

abbrev field_3 : List ℕ
field_3 = 0x20 ∷ 0 ∷ 0 ∷ 0 ∷ 0 ∷ 0 ∷ 0 ∷ 0 ∷ []

abbrev field_36 : List ℕ
field_36 = 0 ∷ 0 ∷ 0 ∷ 0 ∷ 0x10 ∷ 0 ∷ 0 ∷ 0 ∷ []

abbrev field_48 : List ℕ
field_48 = 0 ∷ 0 ∷ 0 ∷ 0 ∷ 0 ∷ 0x01 ∷ 0 ∷ 0 ∷ []

pub record WorkedRefusals : Type 0 where
  -- "a packed input under 10 bytes is 2"
  pub nothing : unpacked [] ≡ refused 2 0 0
  pub nine_bytes : unpacked (0xFF ∷ 0x00 ∷ 0 ∷ 0 ∷ 0 ∷ 0 ∷ 0 ∷ 0 ∷ 0 ∷ []) ≡ refused 2 0 0
  -- "for the MTI, the bad byte"
  pub first_mti_byte : unpacked (0x0A ∷ 0x00 ∷ no_field) ≡ refused 22 0 0
  pub last_mti_byte : unpacked (0x08 ∷ 0xA0 ∷ no_field) ≡ refused 22 0 1
  -- 4 at the missing bitmap's start
  pub no_second_bitmap : unpacked (from chained []) ≡ refused 4 0 10
  pub no_third_bitmap : unpacked (from chained chained) ≡ refused 4 0 18
  -- in a field: 5 for length digits, 22, 7, 5 for the content, then 22 or 8; at the field's first byte
  pub length_cut : unpacked (from field_36 (0x00 ∷ [])) ≡ refused 5 36 10
  pub length_bad : unpacked (from field_2 (0x2A ∷ [])) ≡ refused 22 2 10
  pub length_spare : unpacked (from field_36 (0x10 ∷ 0x05 ∷ [])) ≡ refused 22 36 10
  pub length_over : unpacked (from field_2 (0x20 ∷ [])) ≡ refused 7 2 10
  pub content_cut : unpacked (from field_2 (0x03 ∷ 0x01 ∷ [])) ≡ refused 5 2 10
  pub content_bad : unpacked (from field_2 (0x03 ∷ 0x01 ∷ 0x2A ∷ [])) ≡ refused 22 2 10
  pub content_spare : unpacked (from field_2 (0x03 ∷ 0x11 ∷ 0x23 ∷ [])) ≡ refused 22 2 10
  pub text_over : unpacked (from field_48 (0x00 ∷ 0x01 ∷ 0x80 ∷ [])) ≡ refused 8 48 10
  -- "14 comes last": a good message, and no room
  pub no_room : unpacked (from no_field []) ≡ refused 14 0 0
  -- 21 in the place of 8, a byte over 0x7F or not
  pub no_digit : packed (0x30 ∷ 0x38 ∷ 0x30 ∷ 0x30 ∷ (field_3 ++ (0x31 ∷ 0x32 ∷ 0x33 ∷ 0x34 ∷ 0x35 ∷ 0x41 ∷ []))) ≡ refused 21 3 12
  pub byte_over : packed (0x30 ∷ 0x38 ∷ 0x30 ∷ 0x30 ∷ (field_3 ++ (0x31 ∷ 0x32 ∷ 0x33 ∷ 0x34 ∷ 0x35 ∷ 0x80 ∷ []))) ≡ refused 21 3 12
