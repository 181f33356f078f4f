-- The loop that writes the notes of the fields fs of the message s, in the form F, on plain values. Assumes nothing.
use Prim.Native.Nat.{ℕ, ◌+◌, ◌-◌, ◌*◌, ◌≤◌, ◌<◌}
use mathlib.Core.Path.{◌≡◌, refl, sym, ap, ◌∙◌}
use mathlib.Core.List.{List, [], ◌∷◌, ◌++◌}
use native.Mathlib.Nat.{mul-suc, mul-le-mul_left}
use native.Mathlib.Omega.{arith}
use lib.ListN.{length, take, drop, get_or, length-take, length-drop, drop_of_length-le}
use lib.Seq.{drop-drop}
use borrow.Rule.Slice.PartMut.{mid_of, put_mid}
use Rattle.std.specs.Prelude.{Result, Ok, Err}
use Rattle.octets.specs.Lists.{lay, placed}
use Rattle.octets.proofs.Parts.{to_end, Written, written_more, written_end}
use Rattle.refusal.specs.declared.Cause.{Cause}
use Rattle.field_table.specs.Table.{Table}
use Rattle.field_read.specs.Items.{content_at, read_field, place_field}
use Rattle.field_read.specs.declared.Content.{Content}
use Rattle.bitmap.specs.Bitmaps.{fields_of}
use Rattle.bitmap.proofs.Fields.{fields_few, fields_in_lem}
use Rattle.bitmap_read.specs.Found.{maps_of}
use Rattle.message_language.specs.Language.{Entry}
use Rattle.message_notes.specs.Dialect.{Form, note_size, Dialect, dialect, plain_form}
use Rattle.message_notes.specs.Notes.{field_note, field_notes}
use Rattle.message_notes.proofs.Sizes.{field_long, fields_long}
use Rattle.message_reader.specs.Reader.{read_fields, entry_found, entries_of, read_body, reading_with}
use Rattle.message_reader.proofs.Turns.{Met, met}
use Rattle.message_reader.proofs.Fields.{fields_read, first_placed, entries_refused, entries_read, entries_most, read_within}

-- the notes of those of the list that are read from the place at on
abbrev coming : Form → Table → List ℕ → ℕ → List ℕ → List ℕ
coming F t s at fs = field_notes F (entries_of t at fs (drop at s))

-- The output o has w bytes of notes, d is as it was where the loop began.
pub record Noted (F : Form) (t : Table) (s fs : List ℕ) (start : ℕ) (d o : List ℕ) (at w i : ℕ) : Type 0 where
  pub inside : at ≤ length s
  pub written : Written (coming F t s start fs) d o (coming F t s at (drop i fs)) w
  pub room : w + note_size F * length (drop i fs) ≤ length d
  pub used : ℕ
  pub accepted : read_fields t at (drop i fs) (drop at s) ≡ Ok used

module _ {F : Form} {t : Table} {s fs : List ℕ} {start : ℕ} {d o : List ℕ} {at w i : ℕ} (c : Noted F t s fs start d o at w i) where
  -- where nothing more is coming, all is written
  noted_done : entries_of t at (drop i fs) (drop at s) ≡ [] → (w ≡ length (coming F t s start fs)) × (o ≡ lay (coming F t s start fs) d)
  unfolding field_notes
  noted_done e = written_end (coming F t s start fs) d o (coming F t s at (drop i fs)) w c.written (ap (field_notes F) e)

  pub noted_end : length fs ≤ i → (w ≡ length (coming F t s start fs)) × (o ≡ lay (coming F t s start fs) d)
  unfolding entries_of
  noted_end h = noted_done (rw (drop_of_length-le fs h))

  -- a field is met: its content's place, as the code finds it
  pub noted_met : {f : ℕ} {x : Result Content Cause} → i < length fs → f ≡ get_or fs i 0 → x ≡ place_field t f (take (length s - at) (drop at s)) → Met t s fs at i f x
  noted_met {f} low e r =
      let k = met t s fs at i f (read_field t f (take (length s - at) (drop at s))) low e refl in
      let all : read_fields t at (f ∷ drop (i + 1) fs) (take (length s - at) (drop at s)) ≡ Ok c.used = rw (to_end at s, ← k.here) c.accepted in
      met t s fs at i f _ low e (r ∙ first_placed t at f (drop (i + 1) fs) (take (length s - at) (drop at s)) c.used all)

  module _ {f : ℕ} {x : Result Content Cause} (k : Met t s fs at i f x) where
    pub noted_refused : {n : Cause} → x ≡ Err n → (w ≡ length (coming F t s start fs)) × (o ≡ lay (coming F t s start fs) d)
    noted_refused is = noted_done (rw k.here (entries_refused t at f (drop (i + 1) fs) (drop at s) _ (sym k.gives ∙ is)))

    -- one note less is still to come
    left : note_size F * length (drop i fs) ≡ note_size F + note_size F * length (drop (i + 1) fs)
    left = ap (λ (l : List ℕ). note_size F * length l) k.here ∙ omega (arith, mul-suc (note_size F) (length (drop (i + 1) fs)))

    pub noted_room : w + note_size F ≤ length o
    noted_room = omega (arith, c.room, left, c.written.size)

    module _ {a n : ℕ} (is : x ≡ Ok (content_at a n)) where
      pub noted_within : at + (a + n) ≤ length s
      noted_within = omega (arith, read_within t f (drop at s) a n (sym k.gives ∙ is), length-drop at s, c.inside)

      next : coming F t s at (drop i fs) ≡ field_note F (entry_found f at a n) ++ coming F t s (at + (a + n)) (drop (i + 1) fs)
      unfolding field_notes
      next = rw (k.here, entries_read t at f (drop (i + 1) fs) (drop at s) a n (sym k.gives ∙ is), drop-drop (a + n) at s)

      pub noted_read : {p : List ℕ} → p ≡ placed (field_note F (entry_found f at a n)) (mid_of w (length o - w) o)
          → Noted F t s fs start d (put_mid w (length o - w) o p) (at + (a + n)) (w + note_size F) (i + 1)
      noted_read {p} h =
          record {
            inside = noted_within;
            written = written_more (coming F t s start fs) d o (coming F t s at (drop i fs)) (field_note F (entry_found f at a n)) (coming F t s (at + (a + n)) (drop (i + 1) fs)) p w (note_size F) c.written next (field_long F (entry_found f at a n)) noted_room h;
            room = omega (arith, c.room, left);
            used = c.used;
            accepted =
                ap (read_fields t (at + (a + n)) (drop (i + 1) fs)) (sym (drop-drop (a + n) at s))
                ∙ sym (fields_read t at f (drop (i + 1) fs) (drop at s) a n (sym k.gives ∙ is))
                ∙ ap (λ (l : List ℕ). read_fields t at l (drop at s)) (sym k.here)
                ∙ c.accepted;
          }

-- there is room for all of them
module _ (d : Dialect) (s : List ℕ) (k : ℕ) (least : 2 ≤ d.most) (few : k ≤ d.most) where
  pub entries_few : length (reading_with d.table s k).entries ≤ 64 * d.most - 2
  unfolding reading_with
  entries_few =
      omega (
        arith,
        entries_most d.table (4 + 8 * k) (fields_of (maps_of 4 s k) k) (drop (4 + 8 * k) s),
        fields_few (maps_of 4 s k) k d.most least few,
      )

  pub notes_few : length (field_notes d.form (reading_with d.table s k).entries) ≤ note_size d.form * (64 * d.most - 2)
  notes_few =
      omega (arith, fields_long d.form (reading_with d.table s k).entries, mul-le-mul_left (note_size d.form) entries_few)

  pub listed_few : (fs : List ℕ) → fs ≡ fields_of (maps_of 4 s k) k → note_size d.form * length fs ≤ note_size d.form * (64 * d.most - 2)
  listed_few fs is = mul-le-mul_left (note_size d.form) (omega (arith, ap length is, fields_few (maps_of 4 s k) k d.most least few))

-- the fields that the code has listed are those of the bitmaps
module _ (t : Table) (s fs : List ℕ) (k : ℕ) (is : fs ≡ fields_of (maps_of 4 s k) k) where
  pub body_is : read_fields t (4 + 8 * k) fs (drop (4 + 8 * k) s) ≡ read_body t s k
  unfolding read_body
  body_is = rw is

  pub entries_are : entries_of t (4 + 8 * k) fs (drop (4 + 8 * k) s) ≡ (reading_with t s k).entries
  unfolding reading_with
  entries_are = rw is

  -- z is how many bytes their notes take
  pub written_few : (z : ℕ) → k ≤ (dialect t).most → z ≡ length (field_notes plain_form (entries_of t (4 + 8 * k) fs (drop (4 + 8 * k) s)))
      → z ≤ note_size plain_form * (64 * (dialect t).most - 2)
  written_few z few e =
      omega (arith, e, ap (λ (es : List Entry). length (field_notes plain_form es)) entries_are, notes_few (dialect t) s k (omega arith) few)

pub list_is : (s : List ℕ) (k : ℕ) (fields : List ℕ) → k ≤ 3 → fields ≡ fields_of (take (4 + 8 * k - 4) (drop 4 s)) 3 → fields ≡ fields_of (maps_of 4 s k) k
unfolding maps_of
list_is s k fields few e =
    let n : 4 + 8 * k - 4 ≡ 8 * k = omega arith in
    e ∙ rw n (fields_in_lem (take (8 * k) (drop 4 s)) k few (omega (arith, length-take (8 * k) (drop 4 s))))
