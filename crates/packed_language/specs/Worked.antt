-- Worked pairs: messages by the house table in both forms, byte by byte.
--
--   saying b cs     == a message with the MTI 0800, bitmaps of the bytes b and the fields cs, apart from its form
--   Pair p s q      == p is a message, s its plain form and q its packed one
--   WorkedPairs     == pairs for each thing that 02 says of the packed form
--
-- proofs/Worked.antt proves it. Assumes nothing: these are definitions.
use Rattle.std.specs.Prelude.{ℕ, ◌≡◌, List, [], ◌∷◌, ◌++◌, replicate}
use Rattle.field_table.specs.House.{house}
use Rattle.message_contents.specs.Contents.{Content, content}
use Rattle.packed_language.specs.Packed.{Parts, IsMessage, plain_bytes, packed_bytes}

abbrev pub saying : List ℕ → List Content → Parts
saying b cs = record { mti = 0x30 ∷ 0x38 ∷ 0x30 ∷ 0x30 ∷ []; maps = b; contents = cs }

pub record Pair (p : Parts) (s q : List ℕ) : Type 0 where
  pub is : IsMessage house 3 p
  pub plain_form_lem : plain_bytes house p ≡ s
  pub packed_form : packed_bytes house p ≡ q

-- the bitmaps of the pairs: field 2 alone, 3, 28, 34, 35, 36, 48, 52, and 70 in the second of two
abbrev pub map_2 : List ℕ
map_2 = 0x40 ∷ 0 ∷ 0 ∷ 0 ∷ 0 ∷ 0 ∷ 0 ∷ 0 ∷ []

abbrev pub map_3 : List ℕ
map_3 = 0x20 ∷ 0 ∷ 0 ∷ 0 ∷ 0 ∷ 0 ∷ 0 ∷ 0 ∷ []

abbrev pub map_28 : List ℕ
map_28 = 0 ∷ 0 ∷ 0 ∷ 0x10 ∷ 0 ∷ 0 ∷ 0 ∷ 0 ∷ []

abbrev pub map_34 : List ℕ
map_34 = 0 ∷ 0 ∷ 0 ∷ 0 ∷ 0x40 ∷ 0 ∷ 0 ∷ 0 ∷ []

abbrev pub map_35 : List ℕ
map_35 = 0 ∷ 0 ∷ 0 ∷ 0 ∷ 0x20 ∷ 0 ∷ 0 ∷ 0 ∷ []

abbrev pub map_36 : List ℕ
map_36 = 0 ∷ 0 ∷ 0 ∷ 0 ∷ 0x10 ∷ 0 ∷ 0 ∷ 0 ∷ []

abbrev pub map_48 : List ℕ
map_48 = 0 ∷ 0 ∷ 0 ∷ 0 ∷ 0 ∷ 0x01 ∷ 0 ∷ 0 ∷ []

abbrev pub map_52 : List ℕ
map_52 = 0 ∷ 0 ∷ 0 ∷ 0 ∷ 0 ∷ 0 ∷ 0x10 ∷ 0 ∷ []

abbrev pub map_70 : List ℕ
map_70 = 0x80 ∷ 0 ∷ 0 ∷ 0 ∷ 0 ∷ 0 ∷ 0 ∷ 0 ∷ 0x04 ∷ 0 ∷ 0 ∷ 0 ∷ 0 ∷ 0 ∷ 0 ∷ 0 ∷ []

-- the MTI in both forms
abbrev plain_mti : List ℕ
plain_mti = 0x30 ∷ 0x38 ∷ 0x30 ∷ 0x30 ∷ []

abbrev packed_mti : List ℕ
packed_mti = 0x08 ∷ 0x00 ∷ []

pub record WorkedPairs : Type 0 where
  -- "MTI in two BCD bytes, bitmaps as they are": no fields
  pub no_fields_lem : Pair (saying (0 ∷ 0 ∷ 0 ∷ 0 ∷ 0 ∷ 0 ∷ 0 ∷ 0 ∷ []) []) (plain_mti ++ (0 ∷ 0 ∷ 0 ∷ 0 ∷ 0 ∷ 0 ∷ 0 ∷ 0 ∷ [])) (packed_mti ++ (0 ∷ 0 ∷ 0 ∷ 0 ∷ 0 ∷ 0 ∷ 0 ∷ 0 ∷ []))
  -- "`n` contents in BCD", of a fixed field: field 3, `123456`
  pub even_digits :
      Pair (saying map_3 (content 3 (0x31 ∷ 0x32 ∷ 0x33 ∷ 0x34 ∷ 0x35 ∷ 0x36 ∷ []) ∷ []))
      (plain_mti ++ (map_3 ++ (0x31 ∷ 0x32 ∷ 0x33 ∷ 0x34 ∷ 0x35 ∷ 0x36 ∷ [])))
      (packed_mti ++ (map_3 ++ (0x12 ∷ 0x34 ∷ 0x56 ∷ [])))
  -- "LL in one BCD byte", "a leading zero half-byte when odd, lengths counting digits": field 2, `123`
  pub odd_digits :
      Pair (saying map_2 (content 2 (0x31 ∷ 0x32 ∷ 0x33 ∷ []) ∷ []))
      (plain_mti ++ (map_2 ++ (0x30 ∷ 0x33 ∷ 0x31 ∷ 0x32 ∷ 0x33 ∷ [])))
      (packed_mti ++ (map_2 ++ (0x03 ∷ 0x01 ∷ 0x23 ∷ [])))
  -- an empty content takes no byte
  pub no_digits : Pair (saying map_2 (content 2 [] ∷ [])) (plain_mti ++ (map_2 ++ (0x30 ∷ 0x30 ∷ []))) (packed_mti ++ (map_2 ++ (0x00 ∷ [])))
  -- a length of two digits is spelt by its digits, not as a number: field 2, twelve of them
  pub twelve_digits :
      Pair (saying map_2 (content 2 (replicate 12 0x31) ∷ []))
      (plain_mti ++ (map_2 ++ (0x31 ∷ 0x32 ∷ replicate 12 0x31)))
      (packed_mti ++ (map_2 ++ (0x12 ∷ replicate 6 0x11)))
  -- "and LLL in two": field 36, eleven digits
  pub long_digits :
      Pair (saying map_36 (content 36 (replicate 11 0x32) ∷ []))
      (plain_mti ++ (map_36 ++ (0x30 ∷ 0x31 ∷ 0x31 ∷ replicate 11 0x32)))
      (packed_mti ++ (map_36 ++ (0x00 ∷ 0x11 ∷ 0x02 ∷ replicate 5 0x22)))
  -- an odd count of a fixed field, behind two bitmaps: field 70, `301`
  pub odd_fixed : Pair (saying map_70 (content 70 (0x33 ∷ 0x30 ∷ 0x31 ∷ []) ∷ [])) (plain_mti ++ (map_70 ++ (0x33 ∷ 0x30 ∷ 0x31 ∷ []))) (packed_mti ++ (map_70 ++ (0x03 ∷ 0x01 ∷ [])))
  -- "all other classes as in the plain form", though they hold digits: x+n, field 28, `C00000001`
  pub sign_as_it_is :
      Pair (saying map_28 (content 28 (0x43 ∷ 0x30 ∷ 0x30 ∷ 0x30 ∷ 0x30 ∷ 0x30 ∷ 0x30 ∷ 0x30 ∷ 0x31 ∷ []) ∷ []))
      (plain_mti ++ (map_28 ++ (0x43 ∷ 0x30 ∷ 0x30 ∷ 0x30 ∷ 0x30 ∷ 0x30 ∷ 0x30 ∷ 0x30 ∷ 0x31 ∷ [])))
      (packed_mti ++ (map_28 ++ (0x43 ∷ 0x30 ∷ 0x30 ∷ 0x30 ∷ 0x30 ∷ 0x30 ∷ 0x30 ∷ 0x30 ∷ 0x31 ∷ [])))
  -- ns and z, fields 34 and 35, `12`; only their length is packed
  pub ns_as_it_is : Pair (saying map_34 (content 34 (0x31 ∷ 0x32 ∷ []) ∷ [])) (plain_mti ++ (map_34 ++ (0x30 ∷ 0x32 ∷ 0x31 ∷ 0x32 ∷ []))) (packed_mti ++ (map_34 ++ (0x02 ∷ 0x31 ∷ 0x32 ∷ [])))
  pub z_as_it_is : Pair (saying map_35 (content 35 (0x31 ∷ 0x32 ∷ []) ∷ [])) (plain_mti ++ (map_35 ++ (0x30 ∷ 0x32 ∷ 0x31 ∷ 0x32 ∷ []))) (packed_mti ++ (map_35 ++ (0x02 ∷ 0x31 ∷ 0x32 ∷ [])))
  -- an, field 48, `123`
  pub text_as_it_is :
      Pair (saying map_48 (content 48 (0x31 ∷ 0x32 ∷ 0x33 ∷ []) ∷ []))
      (plain_mti ++ (map_48 ++ (0x30 ∷ 0x30 ∷ 0x33 ∷ 0x31 ∷ 0x32 ∷ 0x33 ∷ [])))
      (packed_mti ++ (map_48 ++ (0x00 ∷ 0x03 ∷ 0x31 ∷ 0x32 ∷ 0x33 ∷ [])))
  -- b, field 52
  pub binary_as_it_is : Pair (saying map_52 (content 52 (replicate 8 0xFF) ∷ [])) (plain_mti ++ (map_52 ++ replicate 8 0xFF)) (packed_mti ++ (map_52 ++ replicate 8 0xFF))
