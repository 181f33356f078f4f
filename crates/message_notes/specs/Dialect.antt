-- What the reader, the walk over notes and the writers are defined over: the table, how many bitmaps are taken, and how a field's note
-- looks. A later rule of the desk is another value of these.
--
--   Form         == how the note of a field is laid out. kind: its first byte. Behind it stand the field's number (1), the offset of
--                   its content (4) and its length (2); then `extra` bytes, which spell the number `mark f` in the note of field f
--   plain_form   == 01's: kind 0x02, and nothing behind the length
--   note_size F  == how long a field's note of the form F is
--   head_kind, end_kind
--                   == the first byte of the head and of the end
--   head_size, end_size
--                   == how long they are
--   Dialect       == table: the fields; most: the greatest count of bitmaps that is taken; form: the form of a field's note
--   dialect t     == the desk's, by the table t: 01's three bitmaps and its notes
--   notes_room d  == what the notes of any message fit in: a head, a note for each number of the bitmaps but 1 and 65, and an end
--   Sound d       == what the theorems ask of a dialect: the table is small, two or three bitmaps are taken, a field's note is not taken
--                    for the end, and its mark can be spelt. `dialect house` is sound (proofs/Sound.antt)
--
-- Assumes nothing: these are definitions.
use Rattle.std.specs.Prelude.{ℕ, ◌+◌, ◌-◌, ◌*◌, ◌^◌, ◌≤◌, ◌<◌, ◌≡◌}
use Rattle.field_table.specs.Table.{Table, Small}

pub record Form : Type 0 where
  pub kind : ℕ
  pub extra : ℕ
  pub mark : ℕ → ℕ

-- 01: "0x02, body 7: field number (1), offset of its content (4), length of its content (2)"
abbrev pub plain_form : Form
plain_form = record { kind = 2; extra = 0; mark = λ f. 0 }

abbrev pub note_size : Form → ℕ
note_size F = 8 + F.extra

-- 01: "0x01, body 5"; "0x04, body 4"
abbrev pub head_kind : ℕ
head_kind = 1

abbrev pub end_kind : ℕ
end_kind = 4

abbrev pub head_size : ℕ
head_size = 6

abbrev pub end_size : ℕ
end_size = 5

pub record Dialect : Type 0 where
  pub table : Table
  pub most : ℕ
  pub form : Form

abbrev pub dialect : Table → Dialect
dialect t = record { table = t; most = 3; form = plain_form }

abbrev pub notes_room : Dialect → ℕ
notes_room d = head_size + note_size d.form * (64 * d.most - 2) + end_size

pub record Sound (d : Dialect) : Type 0 where
  pub small : Small d.table
  pub least : 2 ≤ d.most
  pub greatest : d.most ≤ 3
  pub apart : d.form.kind ≡ end_kind → ⊥
  pub spelt : (f : ℕ) → d.form.mark f < 256 ^ d.form.extra
