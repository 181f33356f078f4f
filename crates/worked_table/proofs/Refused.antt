-- What 01 refuses begins no message: the reader would accept it, by demand 3, and it is computed that it does not. Assumes nothing.
use Prim.Native.Nat.{ℕ}
use mathlib.Core.Path.{◌≡◌, refl}
use mathlib.Core.List.{List}
use native.Mathlib.Omega.{arith}
use lib.ListN.{replicate, length-replicate}
use Rattle.octets.specs.Lists.{between}
use Rattle.octets.specs.Numbers.{number}
use Rattle.std.specs.Prelude.{Err}
use Rattle.refusal.specs.Numbers.{message_too_short, bitmap_incomplete, length_not_digits, length_over_table, text_not_ascii}
use Rattle.refusal.specs.Refusals.{refusal}
use Rattle.refusal.specs.declared.Refusal.{Refusal}
use Rattle.field_table.specs.House.{house, house_rows}
use Rattle.field_table.specs.Table.{table_of}
use Rattle.field_read.specs.Items.{length_of, read_sized, read_item, read_field}
use Rattle.bitmap.specs.Bits.{bit_of}
use Rattle.bitmap.specs.Bitmaps.{is_field, has_field, fields_from, fields_of}
use Rattle.bitmap_read.specs.Found.{maps_of, bitmaps_read}
use Rattle.message_language.specs.Language.{Reading, Begins}
use Rattle.message_notes.specs.Dialect.{dialect, notes_room}
use Rattle.message_reader.specs.Reader.{head_read, read_fields, read_body, read_message, read_answer}
use Rattle.message_reader.proofs.Demand3.{house_reads}
use Rattle.worked_table.specs.Refused.{RefusedMessages, RefusedText}

abbrev blank : List ℕ
blank = replicate (notes_room (dialect house)) 0

begins_none : (s : List ℕ) (k : Refusal) → read_answer (dialect house) s blank ≡ Err k → (u : ℕ) (r : Reading) → Begins house (dialect house).most s u r → ⊥
begins_none s k e u r x =
    let a = house_reads.reads.all_messages s blank u r (omega (arith, length-replicate {A = ℕ} (notes_room (dialect house)) 0)) x in
    let z : ◌≡◌ {A = ℕ} 0 1 = cc in
    omega arith

pub refused_messages : RefusedMessages
unfolding read_answer between number house house_rows table_of length_of read_sized read_item read_field bit_of is_field has_field fields_from fields_of bitmaps_read head_read read_fields maps_of read_body read_message
refused_messages =
    record {
      case_4 = begins_none _ (refusal length_over_table 2 12) refl;
      case_5 = begins_none _ (refusal length_not_digits 2 12) refl;
      case_6 = begins_none _ (refusal bitmap_incomplete 0 12) refl;
      case_9 = begins_none _ (refusal message_too_short 0 0) refl;
    }

pub refused_text : RefusedText
unfolding read_answer between number house house_rows table_of length_of read_sized read_item read_field bit_of is_field has_field fields_from fields_of bitmaps_read head_read read_fields maps_of read_body read_message
refused_text = record { text_over = begins_none _ (refusal text_not_ascii 39 12) refl }
