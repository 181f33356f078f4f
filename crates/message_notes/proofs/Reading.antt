-- Reading a note: what its definition is at the front of a field's note and of the end's, and that what was written is read back. Assumes nothing.
use Prim.Native.Nat.{ℕ, ◌+◌, ◌≤◌, ◌<◌}
use mathlib.Core.Path.{◌≡◌, refl, sym, ap, ◌∙◌}
use mathlib.Core.List.{List, ◌++◌}
use native.Mathlib.Omega.{arith}
use lib.ListN.{length, take, drop, get_or, length-append, length-drop}
use lib.Seq.{take_at, take-append-le, drop-append-le}
use borrow.Author.Tests.{eq-eqb, ne_eqb, le-ltb}
use Rattle.octets.specs.Numbers.{big_endian, big_endian_of}
use Rattle.octets.proofs.Numbers.{number_digits}
use Rattle.message_language.specs.Language.{Entry}
use Rattle.message_notes.specs.declared.Note.{Note}
use Rattle.message_notes.specs.declared.Note.TheVariants.{Field, End}
use Rattle.message_notes.specs.Dialect.{Form, note_size, end_kind, end_size}
use Rattle.message_notes.specs.Notes.{field_note, end_note, entry_of, field_note_at, end_note_at, note_at}
use Rattle.message_notes.proofs.Sizes.{bytes_long, field_long}
use Rattle.message_notes.proofs.Spelling.{Fits, entry_back}

-- by the kind
note_field : (F : Form) (s : List ℕ) (r : Note) → get_or s 0 0 ≡ F.kind → r ≡ field_note_at F s → r ≡ note_at F s
unfolding note_at
note_field F s r e h = rw (eq-eqb (get_or s 0 0) F.kind e) h

note_end : (F : Form) (s : List ℕ) (r : Note) → (get_or s 0 0 ≡ F.kind → ⊥) → get_or s 0 0 ≡ end_kind → r ≡ end_note_at s → r ≡ note_at F s
unfolding note_at
note_end F s r n e h = rw (ne_eqb (get_or s 0 0) F.kind n, eq-eqb (get_or s 0 0) end_kind e) h

-- behind it
field_whole : (F : Form) (s : List ℕ) (f o n : ℕ) → note_size F ≤ length s → f ≡ big_endian_of (take 1 (drop 1 s)) → o ≡ big_endian_of (take 4 (drop 2 s))
    → n ≡ big_endian_of (take 2 (drop 6 s)) → Field f o n ≡ field_note_at F s
unfolding field_note_at
field_whole F s f o n h ef eo en = rw (le-ltb (length s) (note_size F) h, ef, eo, en)

end_whole : (s : List ℕ) (u : ℕ) → end_size ≤ length s → u ≡ big_endian_of (take 4 (drop 1 s)) → End u ≡ end_note_at s
unfolding end_note_at
end_whole s u h e = rw (le-ltb (length s) end_size h, e)

-- What was written is read back, whatever follows.
front_part : (x y : List ℕ) (a w : ℕ) → a + w ≤ length x → take w (drop a (x ++ y)) ≡ take w (drop a x)
front_part x y a w h = ap (take w) (drop-append-le a x y (omega arith)) ∙ take-append-le w (drop a x) y (omega (arith, length-drop a x))

field_kind : (F : Form) (e : Entry) (tail : List ℕ) → get_or (field_note F e ++ tail) 0 0 ≡ F.kind
unfolding field_note
field_kind F e tail = refl

module _ (F : Form) (e : Entry) (b : entry_of (field_note F e) ≡ e) where
  number_of : big_endian_of (take 1 (drop 1 (field_note F e))) ≡ e.number
  unfolding entry_of
  number_of = ap (λ (x : Entry). x.number) b

  offset_of : big_endian_of (take 4 (drop 2 (field_note F e))) ≡ e.offset
  unfolding entry_of
  offset_of = ap (λ (x : Entry). x.offset) b

  size_of_lem : big_endian_of (take 2 (drop 6 (field_note F e))) ≡ e.size
  unfolding entry_of
  size_of_lem = ap (λ (x : Entry). x.size) b

pub field_back : (F : Form) (e : Entry) (tail : List ℕ) → Fits e → note_at F (field_note F e ++ tail) ≡ Field e.number e.offset e.size
field_back F e tail f =
    let l = field_long F e in
    let b = entry_back F e f in
    sym
    (note_field F (field_note F e ++ tail) _ (field_kind F e tail)
    (field_whole F (field_note F e ++ tail) e.number e.offset e.size (omega (arith, length-append (field_note F e) tail))
    (sym (ap big_endian_of (front_part (field_note F e) tail 1 1 (omega arith)) ∙ number_of F e b))
    (sym (ap big_endian_of (front_part (field_note F e) tail 2 4 (omega arith)) ∙ offset_of F e b))
    (sym (ap big_endian_of (front_part (field_note F e) tail 6 2 (omega arith)) ∙ size_of_lem F e b))))

pub end_back : (F : Form) (u : ℕ) (tail : List ℕ) → (F.kind ≡ end_kind → ⊥) → u < 4294967296 → note_at F (end_note u ++ tail) ≡ End u
unfolding end_note
end_back F u tail apart h =
    let l = bytes_long 4 u in
    sym
    (note_end F (end_note u ++ tail) _ (λ z. apart (sym z)) refl
    (end_whole (end_note u ++ tail) u (omega (arith, length-append (big_endian 4 u) tail))
    (sym (ap big_endian_of (take_at (big_endian 4 u) tail 4 l) ∙ number_digits 256 0 4 u (omega arith) h))))
