-- Reading, lookup and both writers held together, by a dialect d: demand 3's writing half and what goes with it. Proved in
-- proofs/RoundTrip.antt, Rereading.antt, Cleaning.antt, LookedUp.antt and Ignoring.antt for every sound dialect, and said of the desk's in
-- House.antt. What is asked of a dialect stands in full in `Sound` of message_notes/specs/Dialect.antt: of its table at most three length
-- digits, no length over 999, and digits that can spell every length; two or three bitmaps; of a field's note that it is not taken for the
-- end, and that its mark can be spelt.
--
-- `Begins d.table d.most s u r`: the input s begins with a message of the language that is u bytes long, has the reading r and at most
-- as many bitmaps as the dialect takes. `notes_of d.form r u` are then its notes.
--
--   is_byte x                 == x is a number that a byte holds, as every element of a slice is
--   GivesBack d               == reading, and then exact writing, gives back what was read
--   contents_named d v n      == the fields that the notes n name, with their contents in the values v, in their order, up to the end note
--                               or a note with fault 9, 10 or 11
--   ReadsAs d s b u mti m cs  == reading the input s, with the notes buffer b, gives the reading of the message of the fields cs, u bytes
--                                used, and the contents cs again
--   WritesMessages d          == what the exact writer writes is a message, and reading it back gives the contents that the notes name
--   Short t f cs              == field f is one of cs, it is fixed, and its content is shorter than the table's length
--   AgreesWithExact d         == the cleaning writer does as the exact one where nothing is short
--   PadsShortAlone d          == what it does else: it pads the short fixed fields, names exactly those, and changes and drops nothing
--   end_place F r             == where the end note of the reading r stands
--   LooksUp d                 == lookup in the notes of a message finds exactly the fields of its reading
--   IgnoresBehind d           == bytes behind the notes of a message change nothing of what lookup and both writers do
--
-- Assumes nothing: these are definitions and statements.
use Rattle.std.specs.Prelude.{ℕ, ◌+◌, ◌*◌, ◌≤◌, ◌<◌, ◌≡◌, Bool, true, false, List, ◌∷◌, ◌++◌, length, take, replicate, Ok, Err}
use Rattle.octets.specs.Lists.{between, all, lay}
use Rattle.refusal.specs.Numbers.{field_absent}
use Rattle.refusal.specs.Refusals.{refusal, good}
use Rattle.refusal.specs.declared.Refusal.{Refusal}
use Rattle.field_table.specs.Table.{Table}
use Rattle.field_write.specs.Fields.{exact_fault, clean_fault, pad_byte, cleaned}
use Rattle.bitmap.specs.Bits.{bit_of}
use Rattle.bitmap.specs.Bitmaps.{no_fields}
use Rattle.message_language.specs.Language.{Entry, Reading, Message, Begins}
use Rattle.message_contents.specs.Contents.{Content, content, contents_in, message_with, reading_of, cleaned_in}
use Rattle.message_notes.specs.Dialect.{Form, note_size, head_size, Dialect, notes_room}
use Rattle.message_notes.specs.Notes.{notes_of, mti_in, count_in}
use Rattle.message_reader.specs.Reader.{acceptance, read_answer, notes_after}
use Rattle.message_walk.specs.Walk.{entries_in}
use Rattle.message_walk.specs.Faults.{any, within}
use Rattle.message_lookup.specs.Lookup.{place, looked_up}
use Rattle.message_write.specs.Written.{exact_answer, exact_output, clean_answer, clean_output, clean_padded}

abbrev pub is_byte : ℕ → Bool
is_byte = between 0 255

-- Demand 3: "the exact writer, given them, the same input and enough room, returns precisely the bytes used."
pub record GivesBack (d : Dialect) : Type 0 where
  -- For every input s that begins with a message, u bytes long: the exact writer, given its notes with any bytes behind them or none, the
  -- same input as values and an output of at least u bytes, answers u …
  pub answers_used :
      (s rest out : List ℕ) (u : ℕ) (r : Reading) →
      all is_byte s ≡ true →
      Begins d.table d.most s u r →
      u ≤ length out →
      exact_answer d s (notes_of d.form r u ++ rest) out ≡ Ok u
  -- … and leaves exactly the bytes used at the front of the output, and the rest of it as it was.
  -- Shuts out a writer that writes nothing, that pads or cuts, and one whose bitmaps differ from those that were read.
  pub gives_back :
      (s rest out : List ℕ) (u : ℕ) (r : Reading) →
      all is_byte s ≡ true →
      Begins d.table d.most s u r →
      u ≤ length out →
      exact_output d s (notes_of d.form r u ++ rest) out ≡ lay (take u s) out
  -- So it does, given the notes that the reader left in a buffer b with room for them.
  pub read_answers_used :
      (s b out : List ℕ) (u : ℕ) (r : Reading) →
      all is_byte s ≡ true →
      notes_room d ≤ length b →
      Begins d.table d.most s u r →
      u ≤ length out →
      exact_answer d s (notes_after d s b) out ≡ Ok u
  pub read_gives_back :
      (s b out : List ℕ) (u : ℕ) (r : Reading) →
      all is_byte s ≡ true →
      notes_room d ≤ length b →
      Begins d.table d.most s u r →
      u ≤ length out →
      exact_output d s (notes_after d s b) out ≡ lay (take u s) out

abbrev pub contents_named : Dialect → List ℕ → List ℕ → List Content
contents_named d v n = contents_in v (entries_in d (within v any) n)

pub record ReadsAs (d : Dialect) (s b : List ℕ) (u : ℕ) (mti : List ℕ) (m : ℕ) (cs : List Content) : Type 0 where
  -- The reader accepts u bytes and m bitmaps …
  pub accepts : read_answer d s b ≡ Ok (acceptance u m)
  -- … and its notes are those of this reading: the same MTI, and for each field its number, where its content stands now and how long it is …
  pub notes : notes_after d s b ≡ lay (notes_of d.form (reading_of d.table mti m cs) u) b
  -- … and there stand exactly these contents.
  pub contents : contents_in s (reading_of d.table mti m cs).entries ≡ cs

-- What the exact writer writes, from any notes and values that it accepts, is a message of the language, and reading it back gives those
-- contents again, their offsets moved to the message.
pub record WritesMessages (d : Dialect) : Type 0 where
  -- Where the exact writer answers u, the first u bytes of its output are a message, whose MTI and count of bitmaps are the head's, and
  -- whose fields are those of the notes, in their order and with their lengths. Shuts out a writer whose bitmaps do not name its fields.
  pub is_message :
      (v n out : List ℕ) (u : ℕ) →
      exact_answer d v n out ≡ Ok u →
      Message d.table d.most (take u (exact_output d v n out)) (reading_of d.table (mti_in n) (count_in n) (contents_named d v n))
  -- The reader, given any input s that begins with those bytes (the output itself, or the bytes alone, or with others behind them), and
  -- room for its notes, reads the contents that the notes n name in the values v.
  pub reads_back :
      (v n out s b : List ℕ) (u : ℕ) →
      exact_answer d v n out ≡ Ok u →
      take u s ≡ take u (exact_output d v n out) →
      notes_room d ≤ length b →
      ReadsAs d s b u (mti_in n) (count_in n) (contents_named d v n)

pub record Short (t : Table) (f : ℕ) (cs : List Content) : Type 0 where
  pub before : List Content
  pub bytes : List ℕ
  pub after : List Content
  pub is : cs ≡ before ++ (content f bytes ∷ after)
  pub fixed : t.width f ≡ 0
  pub short : length bytes < t.most f

-- Cleaning agrees with exact writing, with an empty padded set, where nothing is short.
pub record AgreesWithExact (d : Dialect) : Type 0 where
  -- Where nothing that the notes name is short, the cleaning writer answers the same, be it the length written or a refusal, …
  pub same_answer :
      (v n out : List ℕ) →
      ((f : ℕ) → Short d.table f (contents_named d v n) → ⊥) →
      clean_answer d v n out ≡ exact_answer d v n out
  -- … leaves the same bytes …
  pub same_output :
      (v n out : List ℕ) →
      ((f : ℕ) → Short d.table f (contents_named d v n) → ⊥) →
      clean_output d v n out ≡ exact_output d v n out
  -- … and names no field as padded.
  pub none_padded :
      (v n out : List ℕ) →
      ((f : ℕ) → Short d.table f (contents_named d v n) → ⊥) →
      clean_padded d v n out ≡ no_fields
  -- Nothing is short wherever the exact writer writes.
  pub exact_not_short : (v n out : List ℕ) (u : ℕ) → exact_answer d v n out ≡ Ok u → (f : ℕ) → Short d.table f (contents_named d v n) → ⊥

-- Otherwise the output differs only in the padded fields; the padded set is exactly the set of short fixed fields; no content byte is ever
-- dropped.
pub record PadsShortAlone (d : Dialect) : Type 0 where
  -- The exact writer's output is the message with the contents that the notes name …
  pub exact_writes :
      (v n out : List ℕ) (u : ℕ) →
      exact_answer d v n out ≡ Ok u →
      exact_output d v n out ≡ lay (message_with d.table (mti_in n) (count_in n) (contents_named d v n)) out
  -- … and the cleaning writer's is the same with each content cleaned: the MTI, the bitmaps and the fields' order do not differ, …
  pub clean_writes :
      (v n out : List ℕ) (u : ℕ) →
      clean_answer d v n out ≡ Ok u →
      clean_output d v n out ≡ lay (message_with d.table (mti_in n) (count_in n) (cleaned_in d.table (contents_named d v n))) out
  -- … nor any field that is not in the padded set;
  pub only_padded_differ :
      (v n out : List ℕ) (u : ℕ) →
      clean_answer d v n out ≡ Ok u →
      (before : List Content) (f : ℕ) (c : List ℕ) (after : List Content) →
      contents_named d v n ≡ before ++ (content f c ∷ after) →
      bit_of (clean_padded d v n out) f ≡ false →
      cleaned d.table f c ≡ c
  -- and whatever the content, all of it stands there in one piece, with nothing but padding beside it.
  pub nothing_dropped :
      (f : ℕ) (c : List ℕ) →
      (i : ℕ) × ((j : ℕ) × (cleaned d.table f c ≡ replicate i (pad_byte (d.table.class f)) ++ (c ++ replicate j (pad_byte (d.table.class f)))))
  -- What was cleaned the exact writer would have taken.
  pub cleaned_taken : (f : ℕ) (c : List ℕ) → clean_fault d.table f c ≡ good → exact_fault d.table f (cleaned d.table f c) ≡ good
  -- Where something is written, the padded set has a bit exactly for each short fixed field, …
  pub padded_short :
      (v n out : List ℕ) (u : ℕ) →
      clean_answer d v n out ≡ Ok u →
      (f : ℕ) → bit_of (clean_padded d v n out) f ≡ true → Short d.table f (contents_named d v n)
  pub short_padded :
      (v n out : List ℕ) (u : ℕ) →
      clean_answer d v n out ≡ Ok u →
      (f : ℕ) → Short d.table f (contents_named d v n) → bit_of (clean_padded d v n out) f ≡ true
  -- … and where it is refused, none.
  pub refused_none : (v n out : List ℕ) (r : Refusal) → clean_answer d v n out ≡ Err r → clean_padded d v n out ≡ no_fields
  -- Reading back what was written gives the cleaned contents, …
  pub reads_back :
      (v n out s b : List ℕ) (u : ℕ) →
      clean_answer d v n out ≡ Ok u →
      take u s ≡ take u (clean_output d v n out) →
      notes_room d ≤ length b →
      ReadsAs d s b u (mti_in n) (count_in n) (cleaned_in d.table (contents_named d v n))
  -- … and the exact writer, given what was written and the notes that the reader makes of it, and enough room, writes the same again.
  pub exact_again :
      (v n out s b o : List ℕ) (u : ℕ) →
      clean_answer d v n out ≡ Ok u →
      take u s ≡ take u (clean_output d v n out) →
      notes_room d ≤ length b →
      u ≤ length o →
      (exact_answer d s (notes_after d s b) o ≡ Ok u) × (exact_output d s (notes_after d s b) o ≡ lay (take u s) o)

abbrev pub end_place : Form → Reading → ℕ
end_place F r = head_size + note_size F * length r.entries

pub record LooksUp (d : Dialect) : Type 0 where
  -- For every input s that begins with a message: in its notes, with any bytes behind them or none, a field of the reading is found, at
  -- its content's offset and with its length. The part handed back is then those bytes of the input, by the promise of `content`.
  pub finds :
      (s rest : List ℕ) (u : ℕ) (r : Reading) →
      Begins d.table d.most s u r →
      (before : List Entry) (e : Entry) (after : List Entry) →
      r.entries ≡ before ++ (e ∷ after) →
      looked_up d s (notes_of d.form r u ++ rest) e.number ≡ Ok (place e.offset e.size)
  -- Any other number is refused with 15, at the end note.
  pub misses :
      (s rest : List ℕ) (u : ℕ) (r : Reading) →
      Begins d.table d.most s u r →
      (f : ℕ) →
      ((before : List Entry) (e : Entry) (after : List Entry) → r.entries ≡ before ++ (e ∷ after) → e.number ≡ f → ⊥) →
      looked_up d s (notes_of d.form r u ++ rest) f ≡ Err (refusal field_absent f (end_place d.form r))
  -- So it is in the notes that the reader left in a buffer b with room for them.
  pub read_finds :
      (s b : List ℕ) (u : ℕ) (r : Reading) →
      notes_room d ≤ length b →
      Begins d.table d.most s u r →
      (before : List Entry) (e : Entry) (after : List Entry) →
      r.entries ≡ before ++ (e ∷ after) →
      looked_up d s (notes_after d s b) e.number ≡ Ok (place e.offset e.size)
  pub read_misses :
      (s b : List ℕ) (u : ℕ) (r : Reading) →
      notes_room d ≤ length b →
      Begins d.table d.most s u r →
      (f : ℕ) →
      ((before : List Entry) (e : Entry) (after : List Entry) → r.entries ≡ before ++ (e ∷ after) → e.number ≡ f → ⊥) →
      looked_up d s (notes_after d s b) f ≡ Err (refusal field_absent f (end_place d.form r))

-- 01: "bytes after it are ignored", of the end note. The notes are those of a message that begins an input s; the values v are any, so that
-- a walk may be refused as well, and is then refused alike.
pub record IgnoresBehind (d : Dialect) : Type 0 where
  pub found :
      (s v rest : List ℕ) (u : ℕ) (r : Reading) →
      Begins d.table d.most s u r →
      (f : ℕ) → looked_up d v (notes_of d.form r u ++ rest) f ≡ looked_up d v (notes_of d.form r u) f
  pub exact_answer_lem :
      (s v rest out : List ℕ) (u : ℕ) (r : Reading) →
      Begins d.table d.most s u r →
      exact_answer d v (notes_of d.form r u ++ rest) out ≡ exact_answer d v (notes_of d.form r u) out
  pub exact_output_lem :
      (s v rest out : List ℕ) (u : ℕ) (r : Reading) →
      Begins d.table d.most s u r →
      exact_output d v (notes_of d.form r u ++ rest) out ≡ exact_output d v (notes_of d.form r u) out
  pub clean_answer_lem :
      (s v rest out : List ℕ) (u : ℕ) (r : Reading) →
      Begins d.table d.most s u r →
      clean_answer d v (notes_of d.form r u ++ rest) out ≡ clean_answer d v (notes_of d.form r u) out
  pub clean_output_lem :
      (s v rest out : List ℕ) (u : ℕ) (r : Reading) →
      Begins d.table d.most s u r →
      clean_output d v (notes_of d.form r u ++ rest) out ≡ clean_output d v (notes_of d.form r u) out
  pub clean_padded_lem :
      (s v rest out : List ℕ) (u : ℕ) (r : Reading) →
      Begins d.table d.most s u r →
      clean_padded d v (notes_of d.form r u ++ rest) out ≡ clean_padded d v (notes_of d.form r u) out
