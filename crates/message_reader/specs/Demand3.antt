-- Demand 3, its reading half: "the reader accepts an input exactly when it begins with a message of that language. Only one such
-- message and one reading of it exist; the notes spell that reading". Proved in proofs/Demand3.antt for every sound dialect
-- (`Sound` of message_notes/specs/Dialect.antt: a small table, two or three bitmaps, a field's note that is not taken for the end).
--
--   Reads d      == all of it, of reading by the dialect d. `Begins d.table d.most s u r`: the input s begins with a message of the
--                   language that is u bytes long, has the reading r and at most as many bitmaps as the dialect takes
--   HouseReads   == it of the desk's dialect by the house table, and its room in bytes
--
-- Assumes nothing: these are statements.
use Rattle.std.specs.Prelude.{ℕ, ◌≤◌, ◌≡◌, List, length, take, Ok}
use Rattle.std.proofs.Math.Option.{some}
use Rattle.std.proofs.Math.ListN.{get_elem?}
use Rattle.octets.specs.Lists.{lay}
use Rattle.field_table.specs.House.{house}
use Rattle.message_language.specs.Language.{Entry, Reading, Begins}
use Rattle.message_notes.specs.Dialect.{Dialect, dialect, notes_room}
use Rattle.message_notes.specs.Notes.{notes_of, entry_at}
use Rattle.message_reader.specs.Reader.{acceptance, read_answer, reading_with, notes_after}

pub record Reads (d : Dialect) : Type 0 where
  -- An input that is accepted begins with a message, of the length that is answered and with the reading that is noted.
  -- Shuts out a reader that answers case 1 always, and one that takes a length, a text byte or a bitmap that 01 does not allow.
  pub only_messages : (s b : List ℕ) (u k : ℕ) → read_answer d s b ≡ Ok (acceptance u k) → Begins d.table d.most s u (reading_with d.table s k)
  -- Given room for its notes, an input that begins with a message is accepted, with that message's length and bitmaps.
  -- Shuts out a reader that refuses all, or that refuses anything which 01 allows.
  pub all_messages : (s b : List ℕ) (u : ℕ) (r : Reading) → notes_room d ≤ length b → Begins d.table d.most s u r → read_answer d s b ≡ Ok (acceptance u r.count)
  -- Only one message begins an input, and it has one reading.
  pub one_length : (s : List ℕ) (u v : ℕ) (r q : Reading) → Begins d.table d.most s u r → Begins d.table d.most s v q → u ≡ v
  pub one_message : (s : List ℕ) (u v : ℕ) (r q : Reading) (x : Begins d.table d.most s u r) (y : Begins d.table d.most s v q) → x.message ≡ y.message
  pub one_reading : (s : List ℕ) (u v : ℕ) (r q : Reading) → Begins d.table d.most s u r → Begins d.table d.most s v q → r ≡ q
  -- The notes are those of that reading, at the front of the buffer, whose other bytes stay.
  -- Shuts out a reader that handles the first field and invents later notes.
  pub notes_are : (s b : List ℕ) (u : ℕ) (r : Reading) → notes_room d ≤ length b → Begins d.table d.most s u r → notes_after d s b ≡ lay (notes_of d.form r u) b
  -- They spell it field by field: the numbers in note i are those of entry i, none of them cut.
  pub notes_spell :
      (s b : List ℕ) (u : ℕ) (r : Reading) →
      notes_room d ≤ length b →
      Begins d.table d.most s u r →
      (i : ℕ) (e : Entry) → get_elem? r.entries i ≡ some e → entry_at d.form (notes_after d s b) i ≡ e
  -- They tell readings apart: two messages with the same notes have the same reading and the same length.
  pub notes_tell :
      (s q : List ℕ) (u v : ℕ) (r p : Reading) →
      Begins d.table d.most s u r →
      Begins d.table d.most q v p →
      notes_of d.form r u ≡ notes_of d.form p v →
      (r ≡ p) × (u ≡ v)
  -- They never need more than the room that the reader asks for.
  pub notes_fit : (s : List ℕ) (u : ℕ) (r : Reading) → Begins d.table d.most s u r → length (notes_of d.form r u) ≤ notes_room d
  -- Reading looks at nothing past the bytes used: an input that agrees on them has the same answer and notes.
  pub only_used :
      (s q b : List ℕ) (u k : ℕ) →
      read_answer d s b ≡ Ok (acceptance u k) →
      take u q ≡ take u s →
      (read_answer d q b ≡ Ok (acceptance u k)) × (notes_after d q b ≡ notes_after d s b)

pub record HouseReads : Type 0 where
  pub reads : Reads (dialect house)
  -- 01: "reader's notes buffer under 1,531 bytes"
  pub room_is : notes_room (dialect house) ≡ 1531
