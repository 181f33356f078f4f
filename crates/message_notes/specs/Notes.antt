-- Notes: the bytes that spell a reading. 01: "A note is one byte of kind, then a body whose length the kind fixes. Numbers are big-endian."
--
--   head_note mti m       == the head: kind 0x01, the MTI, the count m of bitmaps
--   field_note F e        == a field, by the form F: its kind, its number (1), the offset of its content (4), its length (2), its mark
--   end_note u            == the end: kind 0x04, the length u of the message (4)
--   field_notes F es      == a field note for each entry, in order
--   notes_of F r u        == "One head, field notes in rising number, one end note" of the reading r of a message u bytes long
--   is_head n             == the notes n begin with a whole head
--   mti_in n, count_in n  == the MTI and the count of bitmaps in it
--   mti_place n           == where its MTI stands; 0 where the notes are too short for a head
--   entry_of bs           == the entry that the bytes of a field note spell
--   entry_at F n i        == the entry of the field note i, from 0, in the notes n
--   is_marked F f s       == behind the length, the note at the front of s has the mark of field f
--   field_note_at F s, end_note_at s
--                        == the note at the front of s where its first byte is that kind's: malformed where it is cut
--   note_at F s           == the note of a field or of the end at the front of s: malformed where it is missing, cut or of another kind
--
-- Assumes nothing: these are definitions.
use Rattle.std.specs.Prelude.{ℕ, ◌+◌, ◌*◌, Bool, cond, List, [], ◌∷◌, ◌++◌, eqb, leb, ltb, length, take, drop, get_or}
use Rattle.octets.specs.Lists.{both}
use Rattle.octets.specs.Numbers.{big_endian, big_endian_of}
use Rattle.message_language.specs.Language.{Entry, entry, Reading}
use Rattle.message_notes.specs.Dialect.{Form, note_size, head_kind, end_kind, head_size, end_size}
use Rattle.message_notes.specs.declared.Note.{Note}
use Rattle.message_notes.specs.declared.Note.TheVariants.{Field, End, Malformed}

unfoldable pub head_note : List ℕ → ℕ → List ℕ
head_note mti m = head_kind ∷ (mti ++ big_endian 1 m)

unfoldable pub field_note : Form → Entry → List ℕ
field_note F e =
    F.kind ∷ (big_endian 1 e.number ++ (big_endian 4 e.offset ++ (big_endian 2 e.size ++ big_endian F.extra (F.mark e.number))))

unfoldable pub end_note : ℕ → List ℕ
end_note u = end_kind ∷ big_endian 4 u

unfoldable pub field_notes : Form → List Entry → List ℕ
field_notes F [] = []
field_notes F (e ∷ es) = field_note F e ++ field_notes F es

unfoldable pub notes_of : Form → Reading → ℕ → List ℕ
notes_of F r u = head_note r.mti r.count ++ (field_notes F r.entries ++ end_note u)

unfoldable pub is_head : List ℕ → Bool
is_head n = both (leb head_size (length n)) (eqb (get_or n 0 0) head_kind)

abbrev pub mti_in : List ℕ → List ℕ
mti_in n = take 4 (drop 1 n)

abbrev pub count_in : List ℕ → ℕ
count_in n = get_or n 5 0

unfoldable pub mti_place : List ℕ → ℕ
mti_place n = cond (leb head_size (length n)) 1 0

unfoldable pub entry_of : List ℕ → Entry
entry_of bs = entry (big_endian_of (take 1 (drop 1 bs))) (big_endian_of (take 4 (drop 2 bs))) (big_endian_of (take 2 (drop 6 bs)))

unfoldable pub entry_at : Form → List ℕ → ℕ → Entry
entry_at F n i = entry_of (take (note_size F) (drop (head_size + note_size F * i) n))

unfoldable pub is_marked : Form → ℕ → List ℕ → Bool
is_marked F f s = eqb (big_endian_of (take F.extra (drop 8 s))) (F.mark f)

unfoldable pub field_note_at : Form → List ℕ → Note
field_note_at F s =
    cond (ltb (length s) (note_size F)) Malformed
    (Field (big_endian_of (take 1 (drop 1 s))) (big_endian_of (take 4 (drop 2 s))) (big_endian_of (take 2 (drop 6 s))))

unfoldable pub end_note_at : List ℕ → Note
end_note_at s = cond (ltb (length s) end_size) Malformed (End (big_endian_of (take 4 (drop 1 s))))

unfoldable pub note_at : Form → List ℕ → Note
note_at F s = cond (eqb (get_or s 0 0) F.kind) (field_note_at F s) (cond (eqb (get_or s 0 0) end_kind) (end_note_at s) Malformed)
