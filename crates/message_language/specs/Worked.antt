-- 01's worked messages are messages of the language, with the readings that 01 gives of them. Nothing of the reader is named.
--
--   mti              == the MTI of all of them, 0800
--   bitmap b         == a bitmap of the byte b and seven zeros
--   reading m es     == the reading of a message with that MTI, m bitmaps and the entries es
--   chip             == chip data: the tag 9F26, its length 8 and eight bytes, of which the first is 0xFF
--   WorkedMessages   == cases 1 to 4 and 6 to 8, where 01 says that they are accepted
--   OtherMessages    == messages that 01's rules, and 02's, allow and none of 01's cases shows: two fields, three length digits, the last field
--                       of all, the first and the last byte that text and binary contents may hold, and chip data
--
-- What 01 refuses, and text with the byte behind the last, is in worked_table/specs/Refused.antt.
-- proofs/Worked.antt proves it. Assumes nothing: these are definitions.
use Rattle.std.specs.Prelude.{ℕ, List, [], ◌∷◌, ◌++◌, replicate}
use Rattle.field_table.specs.House.{house}
use Rattle.message_language.specs.Language.{Entry, entry, Reading, Message, Begins}

abbrev pub mti : List ℕ
mti = 0x30 ∷ 0x38 ∷ 0x30 ∷ 0x30 ∷ []

abbrev pub bitmap : ℕ → List ℕ
bitmap b = b ∷ replicate 7 0

abbrev pub reading : ℕ → List Entry → Reading
reading m es = record { mti = mti; count = m; entries = es }

pub record WorkedMessages : Type 0 where
  -- 1: "`0800` + 8 zero bytes: used 12"
  pub case_1 : Message house 3 (mti ++ bitmap 0) (reading 1 [])
  -- 2: "`0800`, 20 + 7 zeros, `000000`: used 18 … With `X` after it: still 18"
  pub case_2 : Message house 3 (mti ++ (bitmap 0x20 ++ replicate 6 0x30)) (reading 1 (entry 3 12 6 ∷ []))
  pub case_2_and_x : Begins house 3 (mti ++ (bitmap 0x20 ++ (replicate 6 0x30 ++ (0x58 ∷ [])))) 18 (reading 1 (entry 3 12 6 ∷ []))
  -- 3: "bitmap 40 + 7 zeros, `00`: field 2 empty, used 14"
  pub case_3 : Message house 3 (mti ++ (bitmap 0x40 ++ (0x30 ∷ 0x30 ∷ []))) (reading 1 (entry 2 14 0 ∷ []))
  -- 4: "With `19` and 19 digits: accepted"
  pub case_4 : Message house 3 (mti ++ (bitmap 0x40 ++ (0x31 ∷ 0x39 ∷ replicate 19 0x31))) (reading 1 (entry 2 14 19 ∷ []))
  -- 6: "bitmap 80 + 7 zeros … then 8 zeros: used 20, two bitmaps"
  pub case_6 : Message house 3 (mti ++ (bitmap 0x80 ++ bitmap 0)) (reading 2 [])
  -- 7: "80 + 7 zeros, 04 + 7 zeros, `301`: field 70, used 23"
  pub case_7 : Message house 3 (mti ++ (bitmap 0x80 ++ (bitmap 4 ++ (0x33 ∷ 0x30 ∷ 0x31 ∷ [])))) (reading 2 (entry 70 20 3 ∷ []))
  -- 8: "two bitmaps 80 + 7 zeros each, then 8 zeros: used 28, three bitmaps"
  pub case_8 : Message house 3 (mti ++ (bitmap 0x80 ++ (bitmap 0x80 ++ bitmap 0))) (reading 3 [])

abbrev pub chip : List ℕ
chip = 0x9F ∷ 0x26 ∷ 0x08 ∷ 0xFF ∷ 0x01 ∷ 0x02 ∷ 0x03 ∷ 0x04 ∷ 0x05 ∷ 0x06 ∷ 0x07 ∷ []

pub record OtherMessages : Type 0 where
  -- "then the fields in rising number": field 48 with the length digits `105`, then field 49
  pub two_fields :
      Message house 3 (mti ++ ((0 ∷ 0 ∷ 0 ∷ 0 ∷ 0 ∷ 0x01 ∷ 0x80 ∷ 0 ∷ []) ++ (0x31 ∷ 0x30 ∷ 0x35 ∷ (replicate 105 0x41 ++ (0x38 ∷ 0x34 ∷ 0x30 ∷ [])))))
      (reading 1 (entry 48 15 105 ∷ entry 49 120 3 ∷ []))
  -- "binary is any bytes": field 192, the last bit of the third bitmap
  pub binary_ends :
      Message house 3 (mti ++ ((bitmap 0x80 ++ (bitmap 0x80 ++ (replicate 7 0 ++ (0x01 ∷ [])))) ++ (replicate 7 0 ++ (0xFF ∷ []))))
      (reading 3 (entry 192 28 8 ∷ []))
  -- "text is any bytes up to 0x7F": field 39, whatever its class
  pub text_ends : Message house 3 (mti ++ ((0 ∷ 0 ∷ 0 ∷ 0 ∷ 0x02 ∷ 0 ∷ 0 ∷ 0 ∷ []) ++ (0x00 ∷ 0x7F ∷ []))) (reading 1 (entry 39 12 2 ∷ []))
  -- 02, P2: "Issuers send chip data there, with bytes over 0x7F": field 55 with eleven bytes, one of them 0xFF, behind the digits `011`
  pub chip_data :
      Message house 3 (mti ++ ((0 ∷ 0 ∷ 0 ∷ 0 ∷ 0 ∷ 0 ∷ 0x02 ∷ 0 ∷ []) ++ (0x30 ∷ 0x31 ∷ 0x31 ∷ chip)))
      (reading 1 (entry 55 15 11 ∷ []))
