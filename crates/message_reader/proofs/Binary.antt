-- Of a field whose class is binary the reader never answers 8, whatever the bytes: one field, then those of a message. Assumes nothing.
use Prim.Native.Nat.{ℕ, ◌+◌, ◌-◌, ◌*◌}
use mathlib.Core.Path.{◌≡◌, refl, sym, ap, ◌∙◌}
use mathlib.Core.Bool.{true}
use mathlib.Core.List.{List, [], ◌∷◌}
use native.Mathlib.Omega.{arith}
use lib.Dec.{leb, ltb}
use lib.ListN.{length, take, drop}
use Rattle.std.specs.Prelude.{Result, Err}
use Rattle.octets.specs.Lists.{all, lead}
use Rattle.octets.specs.Numbers.{is_digit}
use Rattle.octets.proofs.Cases.{by_bool}
use Rattle.refusal.specs.Numbers.{number_of, text_not_ascii}
use Rattle.refusal.specs.Refusals.{refusal}
use Rattle.refusal.specs.declared.Refusal.{Refusal}
use Rattle.refusal.specs.declared.Cause.{Cause}
use Rattle.field_table.specs.Table.{Table, is_binary}
use Rattle.field_table.specs.declared.Class.{Class}
use Rattle.field_read.specs.Items.{length_of, read_sized, read_item, read_field}
use Rattle.field_read.specs.declared.Content.{Content}
use Rattle.bitmap.specs.Bits.{bit_of}
use Rattle.bitmap.specs.Bitmaps.{fields_of}
use Rattle.bitmap_read.specs.Found.{maps_of, bitmaps_read}
use Rattle.message_notes.specs.Dialect.{Dialect, notes_room}
use Rattle.message_reader.specs.Reader.{head_read, read_fields, read_body, read_message, read_answer}
use Rattle.refusal.proofs.Results.{by_result, never, same_err}
use Rattle.message_reader.proofs.Fields.{by_read, fields_refused, fields_read}
use Rattle.message_reader.proofs.Language.{message_head_refused, message_refused, message_read}

-- Two causes that are one answer have the same number.
same_cause : {c d : Cause} → ◌≡◌ {A = Result Content Cause} (Err c) (Err d) → number_of c ≡ number_of d
same_cause e = ap number_of (same_err e)

-- One field of a binary class, read: 5, 6, 7, or its content.
module _ (w m : ℕ) (c : Class) (s : List ℕ) (binary : is_binary c ≡ true) where
  sized_not : (k : ℕ) → read_sized w k m c s ≡ Err text_not_ascii → ⊥
  unfolding read_sized
  sized_not k e =
      by_bool (ltb m k)
      (λ h. omega (arith, same_cause (rw h at e)))
      (λ h. by_bool (ltb (length s - w) k)
      (λ i. omega (arith, same_cause (rw (h, i) at e)))
      (λ i. never text_not_ascii (rw (h, i, binary) at e) refl))

  item_not : read_item w m c s ≡ Err text_not_ascii → ⊥
  unfolding read_item
  item_not e =
      by_bool (ltb (length s) w)
      (λ h. omega (arith, same_cause (rw h at e)))
      (λ h. by_bool (all is_digit (take w s))
      (λ i. sized_not (length_of w m (take w s)) (rw (h, i) at e))
      (λ i. omega (arith, same_cause (rw (h, i) at e))))

field_not : (t : Table) (f : ℕ) (s : List ℕ) → is_binary (t.class f) ≡ true → read_field t f s ≡ Err text_not_ascii → ⊥
unfolding read_field
field_not t f s binary e = item_not (t.width f) (t.most f) (t.class f) s binary e

-- What two refusals that are equal say.
pub cause_of : {r q : Refusal} → r ≡ q → r.cause ≡ q.cause
cause_of e = ap (λ (x : Refusal). x.cause) e

pub field_of : {r q : Refusal} → r ≡ q → r.field ≡ q.field
field_of e = ap (λ (x : Refusal). x.field) e

pub same_number : {A : Type 0} {r q : Refusal} → ◌≡◌ {A = Result A Refusal} (Err r) (Err q) → number_of r.cause ≡ number_of q.cause
same_number e = ap number_of (cause_of (same_err e))

-- The fields of a message, one after the other: a refusal names the field that was being read.
module _ (t : Table) (f : ℕ) (binary : is_binary (t.class f) ≡ true) (p : ℕ) where
  fields_not : (at : ℕ) (fs s : List ℕ) → read_fields t at fs s ≡ Err (refusal text_not_ascii f p) → ⊥
  unfolding read_fields
  fields_not at [] s e = never (refusal text_not_ascii f p) e refl
  fields_not at (g ∷ fs) s e =
      by_read (read_field t g s)
      (λ n h.
      let q : refusal n g at ≡ refusal text_not_ascii f p = same_err (sym (fields_refused t at g fs s n h) ∙ e) in
      let x : g ≡ f = field_of q in
      let y : n ≡ text_not_ascii = cause_of q in
      field_not t f s binary (rw (x, y) at h))
      (λ a n h. fields_not (at + (a + n)) fs (drop (a + n) s) (sym (fields_read t at g fs s a n h) ∙ e))

-- The head: 2, 3, 4 or 27.
maps_not : (a m : ℕ) (s : List ℕ) (f p : ℕ) → bitmaps_read a m s ≡ Err (refusal text_not_ascii f p) → ⊥
unfolding bitmaps_read
maps_not a m s f p e =
    by_bool (ltb (length s) (a + 8))
    (λ h. omega (arith, same_number (rw h at e)))
    (λ h. by_bool (bit_of (drop a s) 1)
    (λ i. by_bool (ltb (length s) (a + 16))
    (λ j. omega (arith, same_number (rw (h, i, j) at e)))
    (λ j. by_bool (bit_of (drop a s) 65)
    (λ k. by_bool (leb 3 m)
    (λ l. by_bool (ltb (length s) (a + 24))
    (λ n. omega (arith, same_number (rw (h, i, j, k, l, n) at e)))
    (λ n. never (refusal text_not_ascii f p) (rw (h, i, j, k, l, n) at e) refl))
    (λ l. omega (arith, same_number (rw (h, i, j, k, l) at e))))
    (λ k. never (refusal text_not_ascii f p) (rw (h, i, j, k) at e) refl)))
    (λ i. never (refusal text_not_ascii f p) (rw (h, i) at e) refl))

head_not : (m : ℕ) (s : List ℕ) (f p : ℕ) → head_read m s ≡ Err (refusal text_not_ascii f p) → ⊥
unfolding head_read
head_not m s f p e =
    by_bool (ltb (length s) 12)
    (λ h. omega (arith, same_number (rw h at e)))
    (λ h. by_bool (ltb (lead is_digit (take 4 s)) 4)
    (λ i. omega (arith, same_number (rw (h, i) at e)))
    (λ i. maps_not 4 m s f p (rw (h, i) at e)))

-- The reader.
body_not : (t : Table) (f : ℕ) → is_binary (t.class f) ≡ true → (s : List ℕ) (k p : ℕ) → read_body t s k ≡ Err (refusal text_not_ascii f p) → ⊥
unfolding read_body
body_not t f binary s k p e = fields_not t f binary p (4 + 8 * k) (fields_of (maps_of 4 s k) k) (drop (4 + 8 * k) s) e

message_not : (t : Table) (f : ℕ) → is_binary (t.class f) ≡ true → (m : ℕ) (s : List ℕ) (p : ℕ) → read_message t m s ≡ Err (refusal text_not_ascii f p) → ⊥
message_not t f binary m s p e =
    by_result (head_read m s)
    (λ r h. head_not m s f p (h ∙ ap Err (same_err (sym (message_head_refused t m s r h) ∙ e))))
    (λ k h. by_result (read_body t s k)
    (λ r i. body_not t f binary s k p (i ∙ ap Err (same_err (sym (message_refused t m s k h r i) ∙ e))))
    (λ u i. never (refusal text_not_ascii f p) e (message_read t m s k h u i)))

pub read_not : (d : Dialect) (f : ℕ) → is_binary (d.table.class f) ≡ true → (s b : List ℕ) (p : ℕ) → read_answer d s b ≡ Err (refusal text_not_ascii f p) → ⊥
unfolding read_answer
read_not d f binary s b p e =
    by_bool (ltb (length b) (notes_room d))
    (λ h. omega (arith, same_number (rw h at e)))
    (λ h. message_not d.table f binary d.most s p (rw h at e))
