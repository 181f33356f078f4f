-- The message language, written from 01 and ISO 8583:1987 without the reader: four digits, one to three chained bitmaps,
-- then the fields that the bitmaps name, in rising number, each with an allowed content.
--
--   Item t f ds c         == ds are the length digits and c the content of field f, as the table t has it
--   Entry                 == what a reading says of one field: its number, and where in the message its content is and how long
--   entry f o n           == number f, content at o, n bytes long
--   Fields t at fs bs es  == the bytes bs are the fields fs, one after the other, the first of them at the place `at`; es are their entries
--   Reading               == what a message says: its MTI, its count of bitmaps and an entry for each field
--   Message t m bs r      == the bytes bs are a message with the reading r and at most m bitmaps (01: three)
--   Begins t m s u r      == the input s begins with such a message, u bytes long
--
-- The reader's definition (message_reader/specs/Reader.antt) is not named here, but some definitions stand under both. A slip in one of them
-- would be in both alike, so each is held to 01 by something else as well. Cases are 01's (`WorkedMessages` in Worked.antt where accepted,
-- `RefusedMessages` in worked_table/specs/Refused.antt where refused).
--
--   the table   == 01's rows, as 02 amends them (field_table/specs/House.antt): one for each field, none for another number (proofs/Table.antt)
--   is_binary   == a line for each class; 0xFF in a field of class b is accepted (`binary_ends` of `OtherMessages`), 0x80 in one of class an
--                 refused (`RefusedText` in worked_table)
--   is_ascii    == a range, of which 0x00 and 0x7F are shown to be in it (`text_ends` of `OtherMessages`) and 0x80 not (`RefusedText`)
--   is_digit    == a range, of which `0` and `9` are shown to be in it (cases 3 and 4), and `+` not (case 5). Were any other byte a digit, exact
--                 writing would not give back the length digits read (`GivesBack` in round_trip/specs/RoundTrip.antt)
--   decimal_of  == it reads back each number that `decimal` spells (`number_digits` in octets/proofs/Numbers.antt); `19` in case 4, `105` in
--                 `two_fields` of `OtherMessages`
--   bit_of      == the bytes that are made of its bits, the first the highest, are the bytes themselves (`bytes_of_bits` in
--                 bitmap/proofs/Bits.antt); bits 1, 2, 3, 65 and 70 in cases 2, 3, 6, 7 and 8, and 39, 48, 49, 55 and 192 in `OtherMessages`
--   fields_of   == exactly the fields whose bits are set, rising, each once (`ListsPresent` in bitmap/specs/Present.antt)
--
-- `count_of` is the language's alone: the reader finds one bitmap after the other (`bitmaps_read` in bitmap_read/specs/Found.antt). The types
-- Entry and Reading are the reader's too.
--
-- Lists stand for the bytes of a slice; that each is below 256 is not asked again here, since no slice holds another number.
-- Assumes nothing: these are definitions.
use Rattle.std.specs.Prelude.{ℕ, ◌+◌, ◌*◌, ◌≤◌, ◌≡◌, true, false, List, [], ◌∷◌, ◌++◌, length}
use Rattle.octets.specs.Lists.{all}
use Rattle.octets.specs.Numbers.{is_digit, is_ascii, decimal_of}
use Rattle.field_table.specs.Table.{Table, is_binary}
use Rattle.bitmap.specs.Bitmaps.{count_of, fields_of}

-- 01: "one dot pair is LL, three dots LLL"; "text is any bytes up to 0x7F, binary is any bytes"; "Variable contents may be empty."
pub record Item (t : Table) (f : ℕ) (ds c : List ℕ) : Type 0 where
  pub width : length ds ≡ t.width f
  pub digits : all is_digit ds ≡ true
  pub fixed : t.width f ≡ 0 → length c ≡ t.most f
  pub spelt : (t.width f ≡ 0 → ⊥) → length c ≡ decimal_of ds
  pub allowed : length c ≤ t.most f
  pub text : is_binary (t.class f) ≡ false → all is_ascii c ≡ true

pub record Entry : Type 0 where
  pub number : ℕ
  pub offset : ℕ
  pub size : ℕ

abbrev pub entry : ℕ → ℕ → ℕ → Entry
entry f o n = record { number = f; offset = o; size = n }

pub data Fields (t : Table) : ℕ → List ℕ → List ℕ → List Entry → Type 0 where
  none : {at : ℕ} → Fields t at [] [] []
  more :
      {at f : ℕ} {fs bs : List ℕ} {es : List Entry} (ds c rest : List ℕ) →
      Item t f ds c →
      bs ≡ ds ++ (c ++ rest) →
      Fields t (at + (length ds + length c)) fs rest es →
      Fields t at (f ∷ fs) bs (entry f (at + length ds) (length c) ∷ es)

pub record Reading : Type 0 where
  pub mti : List ℕ
  pub count : ℕ
  pub entries : List Entry

-- 01: "Four ASCII digits (MTI); 8 bytes of bitmap; 8 more if bit 1 is set; 8 more if bit 65 … is set; then the fields in rising number."
pub record Message (t : Table) (m : ℕ) (bs : List ℕ) (r : Reading) : Type 0 where
  pub four : length r.mti ≡ 4
  pub digits : all is_digit r.mti ≡ true
  pub maps : List ℕ
  pub chained : r.count ≡ count_of maps
  pub whole : length maps ≡ 8 * r.count
  pub few : r.count ≤ m
  pub body : List ℕ
  pub spelt : bs ≡ r.mti ++ (maps ++ body)
  pub fields : Fields t (4 + 8 * r.count) (fields_of maps r.count) body r.entries

-- 01: "Bytes after the last field are ignored and not used."
pub record Begins (t : Table) (m : ℕ) (s : List ℕ) (u : ℕ) (r : Reading) : Type 0 where
  pub message : List ℕ
  pub after : List ℕ
  pub joined : s ≡ message ++ after
  pub long : length message ≡ u
  pub is : Message t m message r
