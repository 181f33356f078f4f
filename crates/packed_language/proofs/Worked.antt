-- The worked pairs (specs/Worked.antt). Assumes nothing.
use Prim.Native.Nat.{ℕ, ◌*◌, ◌≤◌}
use mathlib.Core.Path.{◌≡◌, refl, sym}
use mathlib.Core.List.{List, [], ◌∷◌}
use native.Mathlib.Omega.{arith}
use lib.ListN.{length, replicate}
use Rattle.octets.specs.Lists.{between}
use Rattle.octets.specs.Numbers.{digits, number}
use Rattle.octets.proofs.Cases.{false_true}
use Rattle.encoding_bcd.specs.Bcd.{evened, paired, packed}
use Rattle.field_table.specs.Table.{table_of}
use Rattle.field_table.specs.House.{house, house_rows}
use Rattle.bitmap.specs.Bits.{bit_of}
use Rattle.bitmap.specs.Bitmaps.{is_field, has_field, count_of, fields_from, fields_of}
use Rattle.message_contents.specs.Contents.{Content, numbers_in, spelt}
use Rattle.packed_language.specs.Packed.{Allowed, AllAllowed, none, more, IsMessage, plain_bytes, packed_content, packed_fields, packed_bytes}
use Rattle.packed_language.specs.Worked.{saying, WorkedPairs, map_2, map_3, map_28, map_34, map_35, map_36, map_48, map_52, map_70}

made : (b : List ℕ) (cs : List Content) (k : ℕ) → length b ≡ 8 * k → count_of b ≡ k → k ≤ 3 → numbers_in cs ≡ fields_of b k → AllAllowed house cs → IsMessage house 3 (saying b cs)
unfolding between
made b cs k long is few named allowed =
    record { four = refl; digits = refl; whole = rw is long; few = rw is few; named = rw is named; allowed = allowed }

allowed_3 : Allowed house 3 (0x31 ∷ 0x32 ∷ 0x33 ∷ 0x34 ∷ 0x35 ∷ 0x36 ∷ [])
unfolding house house_rows table_of between digits
allowed_3 = record { item = record { width = refl; digits = refl; fixed = λ _. refl; spelt = λ h. absurd (h refl); allowed = omega arith; text = λ _. refl }; digits = λ _. refl }

allowed_2 : Allowed house 2 (0x31 ∷ 0x32 ∷ 0x33 ∷ [])
unfolding house house_rows table_of between digits number
allowed_2 =
    record { item = record { width = refl; digits = refl; fixed = λ h. absurd (omega (arith, h)); spelt = λ _. refl; allowed = omega arith; text = λ _. refl }; digits = λ _. refl }

allowed_none : Allowed house 2 []
unfolding house house_rows table_of between digits number
allowed_none =
    record { item = record { width = refl; digits = refl; fixed = λ h. absurd (omega (arith, h)); spelt = λ _. refl; allowed = omega arith; text = λ _. refl }; digits = λ _. refl }

allowed_12 : Allowed house 2 (replicate 12 0x31)
unfolding house house_rows table_of between digits number
allowed_12 =
    record { item = record { width = refl; digits = refl; fixed = λ h. absurd (omega (arith, h)); spelt = λ _. refl; allowed = omega arith; text = λ _. refl }; digits = λ _. refl }

allowed_36 : Allowed house 36 (replicate 11 0x32)
unfolding house house_rows table_of between digits number
allowed_36 =
    record { item = record { width = refl; digits = refl; fixed = λ h. absurd (omega (arith, h)); spelt = λ _. refl; allowed = omega arith; text = λ _. refl }; digits = λ _. refl }

allowed_70 : Allowed house 70 (0x33 ∷ 0x30 ∷ 0x31 ∷ [])
unfolding house house_rows table_of between digits
allowed_70 =
    record { item = record { width = refl; digits = refl; fixed = λ _. refl; spelt = λ h. absurd (h refl); allowed = omega arith; text = λ _. refl }; digits = λ _. refl }

allowed_28 : Allowed house 28 (0x43 ∷ 0x30 ∷ 0x30 ∷ 0x30 ∷ 0x30 ∷ 0x30 ∷ 0x30 ∷ 0x30 ∷ 0x31 ∷ [])
unfolding house house_rows table_of between digits
allowed_28 =
    record { item = record { width = refl; digits = refl; fixed = λ _. refl; spelt = λ h. absurd (h refl); allowed = omega arith; text = λ _. refl }; digits = λ h. absurd (false_true h) }

allowed_34 : Allowed house 34 (0x31 ∷ 0x32 ∷ [])
unfolding house house_rows table_of between digits number
allowed_34 =
    record { item = record { width = refl; digits = refl; fixed = λ h. absurd (omega (arith, h)); spelt = λ _. refl; allowed = omega arith; text = λ _. refl }; digits = λ h. absurd (false_true h) }

allowed_35 : Allowed house 35 (0x31 ∷ 0x32 ∷ [])
unfolding house house_rows table_of between digits number
allowed_35 =
    record { item = record { width = refl; digits = refl; fixed = λ h. absurd (omega (arith, h)); spelt = λ _. refl; allowed = omega arith; text = λ _. refl }; digits = λ h. absurd (false_true h) }

allowed_48 : Allowed house 48 (0x31 ∷ 0x32 ∷ 0x33 ∷ [])
unfolding house house_rows table_of between digits number
allowed_48 =
    record { item = record { width = refl; digits = refl; fixed = λ h. absurd (omega (arith, h)); spelt = λ _. refl; allowed = omega arith; text = λ _. refl }; digits = λ h. absurd (false_true h) }

allowed_52 : Allowed house 52 (replicate 8 0xFF)
unfolding house house_rows table_of between digits
allowed_52 =
    record { item = record { width = refl; digits = refl; fixed = λ _. refl; spelt = λ h. absurd (h refl); allowed = omega arith; text = λ h. absurd (false_true (sym h)) }; digits = λ h. absurd (false_true h) }

pub worked_pairs : WorkedPairs
unfolding house house_rows table_of between digits count_of fields_of fields_from has_field is_field bit_of numbers_in spelt plain_bytes packed_bytes packed_fields packed_content packed evened paired
worked_pairs =
    record {
      no_fields_lem = record { is = made _ [] 1 refl refl (omega arith) refl none; plain_form_lem = refl; packed_form = refl };
      even_digits = record { is = made map_3 _ 1 refl refl (omega arith) refl (more allowed_3 none); plain_form_lem = refl; packed_form = refl };
      odd_digits = record { is = made map_2 _ 1 refl refl (omega arith) refl (more allowed_2 none); plain_form_lem = refl; packed_form = refl };
      no_digits = record { is = made map_2 _ 1 refl refl (omega arith) refl (more allowed_none none); plain_form_lem = refl; packed_form = refl };
      twelve_digits = record { is = made map_2 _ 1 refl refl (omega arith) refl (more allowed_12 none); plain_form_lem = refl; packed_form = refl };
      long_digits = record { is = made map_36 _ 1 refl refl (omega arith) refl (more allowed_36 none); plain_form_lem = refl; packed_form = refl };
      odd_fixed = record { is = made map_70 _ 2 refl refl (omega arith) refl (more allowed_70 none); plain_form_lem = refl; packed_form = refl };
      sign_as_it_is = record { is = made map_28 _ 1 refl refl (omega arith) refl (more allowed_28 none); plain_form_lem = refl; packed_form = refl };
      ns_as_it_is = record { is = made map_34 _ 1 refl refl (omega arith) refl (more allowed_34 none); plain_form_lem = refl; packed_form = refl };
      z_as_it_is = record { is = made map_35 _ 1 refl refl (omega arith) refl (more allowed_35 none); plain_form_lem = refl; packed_form = refl };
      text_as_it_is = record { is = made map_48 _ 1 refl refl (omega arith) refl (more allowed_48 none); plain_form_lem = refl; packed_form = refl };
      binary_as_it_is = record { is = made map_52 _ 1 refl refl (omega arith) refl (more allowed_52 none); plain_form_lem = refl; packed_form = refl };
    }
