-- 01's worked messages, and others, in the language (specs/Worked.antt), part by part. Assumes nothing.
use Prim.Native.Nat.{ℕ, ◌+◌, ◌*◌, ◌≤◌}
use mathlib.Core.Path.{◌≡◌, refl, sym}
use mathlib.Core.List.{List, [], ◌∷◌, ◌++◌}
use native.Mathlib.Omega.{arith}
use lib.ListN.{length, replicate}
use Rattle.octets.specs.Lists.{between}
use Rattle.octets.specs.Numbers.{number}
use Rattle.octets.proofs.Cases.{false_true}
use Rattle.field_table.specs.Table.{table_of}
use Rattle.field_table.specs.House.{house, house_rows}
use Rattle.bitmap.specs.Bits.{bit_of}
use Rattle.bitmap.specs.Bitmaps.{is_field, has_field, count_of, fields_from, fields_of}
use Rattle.message_language.specs.Language.{Item, Entry, entry, Fields, none, more, Message}
use Rattle.message_language.specs.Worked.{mti, bitmap, reading, chip, WorkedMessages, OtherMessages}

-- a message of that MTI, with these bitmaps and fields
made : (m : ℕ) (maps body : List ℕ) (es : List Entry) → m ≡ count_of maps → length maps ≡ 8 * m → m ≤ 3 → Fields house (4 + 8 * m) (fields_of maps m) body es → Message house 3 (mti ++ (maps ++ body)) (reading m es)
unfolding between
made m maps body es chained whole few fields =
    record {
      four = refl;
      digits = refl;
      maps = maps;
      chained = chained;
      whole = whole;
      few = few;
      body = body;
      spelt = refl;
      fields = fields;
    }

fixed_3 : Item house 3 [] (replicate 6 0x30)
unfolding house house_rows table_of between
fixed_3 = record { width = refl; digits = refl; fixed = λ _. refl; spelt = λ h. absurd (h refl); allowed = omega arith; text = λ _. refl }

counted_none : Item house 2 (0x30 ∷ 0x30 ∷ []) []
unfolding house house_rows table_of between number
counted_none =
    record { width = refl; digits = refl; fixed = λ h. absurd (omega (arith, h)); spelt = λ _. refl; allowed = omega arith; text = λ _. refl }

counted_19 : Item house 2 (0x31 ∷ 0x39 ∷ []) (replicate 19 0x31)
unfolding house house_rows table_of between number
counted_19 =
    record { width = refl; digits = refl; fixed = λ h. absurd (omega (arith, h)); spelt = λ _. refl; allowed = omega arith; text = λ _. refl }

fixed_70 : Item house 70 [] (0x33 ∷ 0x30 ∷ 0x31 ∷ [])
unfolding house house_rows table_of between
fixed_70 = record { width = refl; digits = refl; fixed = λ _. refl; spelt = λ h. absurd (h refl); allowed = omega arith; text = λ _. refl }

no_fields_lem : Fields house 12 (fields_of (bitmap 0) 1) [] []
unfolding fields_of fields_from has_field is_field between bit_of
no_fields_lem = none

field_3 : Fields house 12 (fields_of (bitmap 0x20) 1) (replicate 6 0x30) (entry 3 12 6 ∷ [])
unfolding fields_of fields_from has_field is_field between bit_of
field_3 = more [] (replicate 6 0x30) [] fixed_3 refl none

no_content : Fields house 12 (fields_of (bitmap 0x40) 1) (0x30 ∷ 0x30 ∷ []) (entry 2 14 0 ∷ [])
unfolding fields_of fields_from has_field is_field between bit_of
no_content = more (0x30 ∷ 0x30 ∷ []) [] [] counted_none refl none

nineteen : Fields house 12 (fields_of (bitmap 0x40) 1) (0x31 ∷ 0x39 ∷ replicate 19 0x31) (entry 2 14 19 ∷ [])
unfolding fields_of fields_from has_field is_field between bit_of
nineteen = more (0x31 ∷ 0x39 ∷ []) (replicate 19 0x31) [] counted_19 refl none

two_maps : Fields house 20 (fields_of (bitmap 0x80 ++ bitmap 0) 2) [] []
unfolding fields_of fields_from has_field is_field between bit_of
two_maps = none

field_70 : Fields house 20 (fields_of (bitmap 0x80 ++ bitmap 4) 2) (0x33 ∷ 0x30 ∷ 0x31 ∷ []) (entry 70 20 3 ∷ [])
unfolding fields_of fields_from has_field is_field between bit_of
field_70 = more [] (0x33 ∷ 0x30 ∷ 0x31 ∷ []) [] fixed_70 refl none

three_maps : Fields house 28 (fields_of (bitmap 0x80 ++ (bitmap 0x80 ++ bitmap 0)) 3) [] []
unfolding fields_of fields_from has_field is_field between bit_of
three_maps = none

pub worked_messages : WorkedMessages
unfolding count_of bit_of
worked_messages =
    record {
      case_1 = made 1 (bitmap 0) [] [] refl refl (omega arith) no_fields_lem;
      case_2 = made 1 (bitmap 0x20) (replicate 6 0x30) _ refl refl (omega arith) field_3;
      case_2_and_x =
          record {
            message = mti ++ (bitmap 0x20 ++ replicate 6 0x30);
            after = 0x58 ∷ [];
            joined = refl;
            long = refl;
            is = made 1 (bitmap 0x20) (replicate 6 0x30) _ refl refl (omega arith) field_3;
          };
      case_3 = made 1 (bitmap 0x40) (0x30 ∷ 0x30 ∷ []) _ refl refl (omega arith) no_content;
      case_4 = made 1 (bitmap 0x40) (0x31 ∷ 0x39 ∷ replicate 19 0x31) _ refl refl (omega arith) nineteen;
      case_6 = made 2 (bitmap 0x80 ++ bitmap 0) [] [] refl refl (omega arith) two_maps;
      case_7 = made 2 (bitmap 0x80 ++ bitmap 4) (0x33 ∷ 0x30 ∷ 0x31 ∷ []) _ refl refl (omega arith) field_70;
      case_8 = made 3 (bitmap 0x80 ++ (bitmap 0x80 ++ bitmap 0)) [] [] refl refl (omega arith) three_maps;
    }

counted_105 : Item house 48 (0x31 ∷ 0x30 ∷ 0x35 ∷ []) (replicate 105 0x41)
unfolding house house_rows table_of between number
counted_105 =
    record { width = refl; digits = refl; fixed = λ h. absurd (omega (arith, h)); spelt = λ _. refl; allowed = omega arith; text = λ _. refl }

fixed_192 : Item house 192 [] (replicate 7 0 ++ (0xFF ∷ []))
unfolding house house_rows table_of between
fixed_192 =
    record {
      width = refl;
      digits = refl;
      fixed = λ _. refl;
      spelt = λ h. absurd (h refl);
      allowed = omega arith;
      text = λ h. absurd (false_true (sym h));
    }

fixed_39 : Item house 39 [] (0x00 ∷ 0x7F ∷ [])
unfolding house house_rows table_of between
fixed_39 = record { width = refl; digits = refl; fixed = λ _. refl; spelt = λ h. absurd (h refl); allowed = omega arith; text = λ _. refl }

fixed_49 : Item house 49 [] (0x38 ∷ 0x34 ∷ 0x30 ∷ [])
unfolding house house_rows table_of between
fixed_49 = record { width = refl; digits = refl; fixed = λ _. refl; spelt = λ h. absurd (h refl); allowed = omega arith; text = λ _. refl }

fields_48_49 : Fields house 12 (fields_of (0 ∷ 0 ∷ 0 ∷ 0 ∷ 0 ∷ 0x01 ∷ 0x80 ∷ 0 ∷ []) 1) (0x31 ∷ 0x30 ∷ 0x35 ∷ (replicate 105 0x41 ++ (0x38 ∷ 0x34 ∷ 0x30 ∷ []))) (entry 48 15 105 ∷ entry 49 120 3 ∷ [])
unfolding fields_of fields_from has_field is_field between bit_of
fields_48_49 =
    more (0x31 ∷ 0x30 ∷ 0x35 ∷ []) (replicate 105 0x41) (0x38 ∷ 0x34 ∷ 0x30 ∷ []) counted_105 refl (more [] (0x38 ∷ 0x34 ∷ 0x30 ∷ []) [] fixed_49 refl none)

field_192 : Fields house 28 (fields_of (bitmap 0x80 ++ (bitmap 0x80 ++ (replicate 7 0 ++ (0x01 ∷ [])))) 3) (replicate 7 0 ++ (0xFF ∷ [])) (entry 192 28 8 ∷ [])
unfolding fields_of fields_from has_field is_field between bit_of
field_192 = more [] (replicate 7 0 ++ (0xFF ∷ [])) [] fixed_192 refl none

field_39 : Fields house 12 (fields_of (0 ∷ 0 ∷ 0 ∷ 0 ∷ 0x02 ∷ 0 ∷ 0 ∷ 0 ∷ []) 1) (0x00 ∷ 0x7F ∷ []) (entry 39 12 2 ∷ [])
unfolding fields_of fields_from has_field is_field between bit_of
field_39 = more [] (0x00 ∷ 0x7F ∷ []) [] fixed_39 refl none

counted_55 : Item house 55 (0x30 ∷ 0x31 ∷ 0x31 ∷ []) chip
unfolding house house_rows table_of between number
counted_55 =
    record {
      width = refl;
      digits = refl;
      fixed = λ h. absurd (omega (arith, h));
      spelt = λ _. refl;
      allowed = omega arith;
      text = λ h. absurd (false_true (sym h));
    }

field_55 : Fields house 12 (fields_of (0 ∷ 0 ∷ 0 ∷ 0 ∷ 0 ∷ 0 ∷ 0x02 ∷ 0 ∷ []) 1) (0x30 ∷ 0x31 ∷ 0x31 ∷ chip) (entry 55 15 11 ∷ [])
unfolding fields_of fields_from has_field is_field between bit_of
field_55 = more (0x30 ∷ 0x31 ∷ 0x31 ∷ []) chip [] counted_55 refl none

pub other_messages : OtherMessages
unfolding count_of bit_of
other_messages =
    record {
      two_fields = made 1 (0 ∷ 0 ∷ 0 ∷ 0 ∷ 0 ∷ 0x01 ∷ 0x80 ∷ 0 ∷ []) _ _ refl refl (omega arith) fields_48_49;
      binary_ends = made 3 (bitmap 0x80 ++ (bitmap 0x80 ++ (replicate 7 0 ++ (0x01 ∷ [])))) _ _ refl refl (omega arith) field_192;
      text_ends = made 1 (0 ∷ 0 ∷ 0 ∷ 0 ∷ 0x02 ∷ 0 ∷ 0 ∷ 0 ∷ []) _ _ refl refl (omega arith) field_39;
      chip_data = made 1 (0 ∷ 0 ∷ 0 ∷ 0 ∷ 0 ∷ 0 ∷ 0x02 ∷ 0 ∷ []) _ _ refl refl (omega arith) field_55;
    }
