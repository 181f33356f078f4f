-- 01's worked cases 1 to 12 come out of the definitions, computed. Assumes nothing.
use mathlib.Core.Path.{◌≡◌, refl}
use mathlib.Core.List.{map}
use Rattle.octets.specs.Lists.{between, lay, placed}
use Rattle.octets.specs.Numbers.{digits, number}
use Rattle.refusal.specs.Refusals.{converted, converted_into, checked}
use Rattle.encoding_bcd.specs.Bcd.{evened, paired, packed, spread, unpacked, is_bcd, spare_zero, encode_fault as pack_fault, decode_fault as unpack_fault}
use Rattle.encoding_ebcdic.specs.Ebcdic.{table, ebcdic_of, encode_fault as translate_fault}
use Rattle.field_table.specs.House.{house, house_rows}
use Rattle.field_table.specs.Table.{table_of}
use Rattle.field_read.specs.Items.{length_of, read_sized, read_item, read_field}
use Rattle.bitmap.specs.Bits.{bit_of}
use Rattle.bitmap.specs.Bitmaps.{is_field, has_field, count_of, fields_from, fields_of}
use Rattle.bitmap_read.specs.Found.{maps_of, bitmaps_read}
use Rattle.message_notes.specs.Notes.{head_note, field_note, end_note, field_notes, notes_of}
use Rattle.message_reader.specs.Reader.{head_read, read_fields, entries_of, read_body, read_message, reading_with, read_answer, notes_after}
use Rattle.validation_pan.specs.Pan.{digits_in, worth, weighed, luhn_sum, is_pan, pan_fault}
use Rattle.worked_table.specs.Worked.{outcome, cases}

pub worked : map outcome cases ≡ cases
unfolding outcome cases lay placed converted converted_into is_bcd spare_zero pack_fault unpack_fault translate_fault read_answer notes_after between digits number house house_rows table_of length_of read_sized read_item read_field bit_of is_field has_field count_of fields_from fields_of head_note field_note end_note field_notes notes_of bitmaps_read head_read read_fields entries_of maps_of read_body read_message reading_with checked evened paired packed spread unpacked table ebcdic_of digits_in worth weighed luhn_sum is_pan pan_fault
worked = refl
