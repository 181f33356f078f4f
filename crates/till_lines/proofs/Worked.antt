-- Three of 01's worked messages at the till, computed. Assumes nothing.
use Prim.Native.Nat.{ℕ}
use mathlib.Core.Path.{◌≡◌, refl}
use mathlib.Core.List.{List, ◌∷◌, ◌++◌}
use lib.ListN.{replicate}
use Rattle.octets.specs.Lists.{between}
use Rattle.octets.specs.Numbers.{digits, number}
use Rattle.octets.specs.Numerals.{digits_within, digit_count, numeral}
use Rattle.octets.specs.Texts.{text}
use Rattle.bitmap.specs.Bits.{bit_of}
use Rattle.bitmap.specs.Bitmaps.{is_field, has_field, fields_from, fields_of}
use Rattle.field_table.specs.Table.{table_of}
use Rattle.field_table.specs.House.{house_rows, house}
use Rattle.field_read.specs.Items.{length_of, read_sized, read_item, read_field}
use Rattle.bitmap_read.specs.Found.{maps_of, bitmaps_read}
use Rattle.message_notes.specs.Dialect.{dialect}
use Rattle.message_reader.specs.Reader.{head_read, read_fields, entries_of, read_body, read_message, reading_with}
use Rattle.till_lines.specs.Lines.{named, tripled, mti_line, field_line, field_lines, reading_lines, refused_line, answer_lines, report_of}

-- the front of a message: `0800` and the bitmap that begins with the byte b
abbrev head : ℕ → List ℕ
head b = text "0800" ++ (b ∷ replicate 7 0)

-- case 2: its four lines; case 4: its refusal; case 9: eleven bytes
pub worked :
    (report_of (dialect house) (head 0x20 ++ text "000000") ≡ text "mti 0800\nbitmaps 1\nfield 3 at 12 length 6\nused 18\n")
    × ((report_of (dialect house) (head 0x40 ++ text "2012345678901234567890") ≡ text "refused 7 field 2 at 12\n")
    × (report_of (dialect house) (text "0800\0\0\0\0\0\0\0") ≡ text "refused 2 field 0 at 0\n"))
unfolding report_of answer_lines reading_lines refused_line mti_line field_lines field_line tripled named numeral digit_count digits_within digits number read_message head_read bitmaps_read read_body read_fields entries_of reading_with maps_of bit_of fields_of fields_from has_field is_field house table_of house_rows read_field read_item read_sized length_of between
worked = (refl, (refl, refl))
