-- What the reader answers, and what it leaves in the notes, on any input. 01: "Reader order: 1, 2, 3, 4, then fields rising".
--
--   acceptance u k         == that u bytes are used and there are k bitmaps
--   told_read r            == what the reader's answer tells; its values are the bytes used and the count of bitmaps
--   head_read m s          == how many bitmaps an input has, at most m, or the refusal of its MTI or its bitmaps
--   read_fields t at fs s  == reading the fields fs one after the other, the first at the place `at`, where s begins: the place after the last
--   entry_found f at a n   == the entry of field f, read at the place `at`, whose content is n bytes that start a bytes behind that place
--   entries_of t at fs s   == the entries of those that are read before a refusal
--   read_body t s k        == reading all fields of an input with k bitmaps
--   read_message t m s     == reading an input with at most m bitmaps, given enough room for its notes
--   reading_with t s k     == the reading of an input that is accepted with k bitmaps
--   read_answer d s b      == the reader's answer by the dialect d, where its notes buffer holds b
--   notes_after d s b      == each byte of that buffer afterwards
--
-- Assumes nothing: these are definitions.
use Rattle.std.specs.Prelude.{ℕ, ◌+◌, ◌*◌, cond, List, [], ◌∷◌, length, take, drop, ltb, Result, Ok, Err}
use Rattle.octets.specs.Lists.{lead, lay}
use Rattle.octets.specs.Numbers.{is_digit}
use Rattle.refusal.specs.Numbers.{notes_too_short, message_too_short, mti_not_digits}
use Rattle.refusal.specs.Refusals.{refusal, plain, Told, tell, tell_refused}
use Rattle.refusal.specs.declared.Refusal.{Refusal}
use Rattle.field_table.specs.Table.{Table}
use Rattle.field_read.specs.Items.{read_field}
use Rattle.bitmap.specs.Bitmaps.{fields_of}
use Rattle.bitmap_read.specs.Found.{maps_of, bitmaps_read}
use Rattle.message_language.specs.Language.{Entry, entry, Reading}
use Rattle.message_notes.specs.Dialect.{Dialect, notes_room}
use Rattle.message_notes.specs.Notes.{notes_of}
use Rattle.message_reader.specs.declared.Accepted.{Accepted}

abbrev pub acceptance : ℕ → ℕ → Accepted
acceptance u k = record { used = u; bitmaps = k }

-- 01: "For enum answers, a definition gives this paper's number and values for each case"; "a length or count in a refusal is 0"
abbrev pub told_read : Result Accepted Refusal → Told
told_read (Ok x) = tell (x.used ∷ x.bitmaps ∷ [])
told_read (Err r) = tell_refused r (0 ∷ 0 ∷ [])

-- 01: "reader 3 the first non-digit". In 12 bytes the first bitmap is whole, so that 4 is never at its start
unfoldable pub head_read : ℕ → List ℕ → Result ℕ Refusal
head_read m s =
    cond (ltb (length s) 12) (Err (plain message_too_short))
    (cond (ltb (lead is_digit (take 4 s)) 4) (Err (refusal mti_not_digits 0 (lead is_digit (take 4 s))))
    (bitmaps_read 4 m s))

-- 01: "each field is read from the rest of the message, beginning where the last ended; the first refusal met is passed up at once";
-- "5-8 the field's first byte, length digits included"
unfoldable pub read_fields : Table → ℕ → List ℕ → List ℕ → Result ℕ Refusal
read_fields t at [] s = Ok at
read_fields t at (f ∷ fs) s =
    elim (read_field t f s) [
      | Err c ↦ Err (refusal c f at)
      | Ok x ↦ read_fields t (at + (x.start + x.length)) fs (drop (x.start + x.length) s)
    ]

abbrev pub entry_found : ℕ → ℕ → ℕ → ℕ → Entry
entry_found f at a n = entry f (at + a) n

unfoldable pub entries_of : Table → ℕ → List ℕ → List ℕ → List Entry
entries_of t at [] s = []
entries_of t at (f ∷ fs) s =
    elim (read_field t f s) [
      | Err c ↦ []
      | Ok x ↦ entry_found f at x.start x.length ∷ entries_of t (at + (x.start + x.length)) fs (drop (x.start + x.length) s)
    ]

unfoldable pub read_body : Table → List ℕ → ℕ → Result ℕ Refusal
read_body t s k = read_fields t (4 + 8 * k) (fields_of (maps_of 4 s k) k) (drop (4 + 8 * k) s)

unfoldable pub read_message : Table → ℕ → List ℕ → Result Accepted Refusal
read_message t m s =
    elim (head_read m s) [
      | Err r ↦ Err r
      | Ok k ↦ elim (read_body t s k) [ Err r ↦ Err r | Ok u ↦ Ok (acceptance u k) ]
    ]

unfoldable pub reading_with : Table → List ℕ → ℕ → Reading
reading_with t s k =
    record { mti = take 4 s; count = k; entries = entries_of t (4 + 8 * k) (fields_of (maps_of 4 s k) k) (drop (4 + 8 * k) s) }

-- 01: "reader's notes buffer under 1,531 bytes", tested before everything else
unfoldable pub read_answer : Dialect → List ℕ → List ℕ → Result Accepted Refusal
read_answer d s b = cond (ltb (length b) (notes_room d)) (Err (plain notes_too_short)) (read_message d.table d.most s)

-- 01: "bytes after it are ignored, and the reader leaves them"; "No refusal changes a lent buffer"
unfoldable pub notes_after : Dialect → List ℕ → List ℕ → List ℕ
notes_after d s b =
    elim (read_answer d s b) [
      | Err r ↦ b
      | Ok x ↦ lay (notes_of d.form (reading_with d.table s x.bitmaps) x.used) b
    ]
