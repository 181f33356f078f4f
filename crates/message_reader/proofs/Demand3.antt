-- Demand 3's reading half holds of every sound dialect, and so of the house's. Assumes nothing.
use Prim.Native.Nat.{ℕ, ◌≤◌, ◌<◌}
use mathlib.Core.Path.{◌≡◌, refl, sym, ap, ◌∙◌}
use mathlib.Core.List.{List, ◌++◌, append_assoc}
use native.Mathlib.Omega.{arith}
use lib.ListN.{length, take, drop, take-append-drop}
use lib.Seq.{take_at}
use borrow.Author.Tests.{lt-ltb, le-ltb}
use Rattle.std.specs.Prelude.{Ok}
use Rattle.octets.specs.Lists.{lay}
use Rattle.octets.proofs.Cases.{by_lt}
use Rattle.refusal.specs.Numbers.{notes_too_short}
use Rattle.refusal.specs.Refusals.{plain}
use Rattle.field_table.specs.House.{house}
use Rattle.message_language.specs.Language.{Reading, Begins}
use Rattle.message_notes.specs.Dialect.{Form, Dialect, dialect, notes_room, Sound}
use Rattle.message_notes.specs.Notes.{head_note, field_notes, end_note, notes_of, entry_at}
use Rattle.message_notes.proofs.Sound.{house_sound}
use Rattle.message_notes.proofs.Spelling.{entry_at_lem}
use Rattle.message_notes.proofs.Apart.{notes_apart}
use Rattle.message_reader.specs.Reader.{acceptance, read_message, read_answer, reading_with, notes_after}
use Rattle.message_reader.specs.Demand3.{Reads, HouseReads}
use Rattle.refusal.proofs.Results.{never}
use Rattle.message_reader.proofs.Language.{accepts, accepted, reading_is, one_length, one_message, one_reading}
use Rattle.message_reader.proofs.Small.{entries_fit, used_small, room_enough}

module _ (d : Dialect) (s b : List ℕ) where
  enough : notes_room d ≤ length b → read_answer d s b ≡ read_message d.table d.most s
  unfolding read_answer
  enough h = rw (le-ltb (length b) (notes_room d) h)

  -- what is accepted had room
  pub had_room : (u k : ℕ) → read_answer d s b ≡ Ok (acceptance u k) → notes_room d ≤ length b
  unfolding read_answer
  had_room u k e =
      by_lt (length b) (notes_room d)
      (λ h. never (plain notes_too_short) (rw (lt-ltb (length b) (notes_room d) h)) e)
      (λ h. h)

  accepted_notes : (u k : ℕ) → read_answer d s b ≡ Ok (acceptance u k) → notes_after d s b ≡ lay (notes_of d.form (reading_with d.table s k) u) b
  unfolding notes_after
  accepted_notes u k e = rw (notes_after, e)

  all_messages : (u : ℕ) (r : Reading) → notes_room d ≤ length b → Begins d.table d.most s u r → read_answer d s b ≡ Ok (acceptance u r.count)
  all_messages u r h x = enough h ∙ accepted d s u r x

  notes_are : (u : ℕ) (r : Reading) → notes_room d ≤ length b → Begins d.table d.most s u r → notes_after d s b ≡ lay (notes_of d.form r u) b
  notes_are u r h x =
      accepted_notes u r.count (all_messages u r h x) ∙ ap (λ (q : Reading). lay (notes_of d.form q u) b) (reading_is d s u r x)

module _ (d : Dialect) (sound : Sound d) where
  only_messages : (s b : List ℕ) (u k : ℕ) → read_answer d s b ≡ Ok (acceptance u k) → Begins d.table d.most s u (reading_with d.table s k)
  only_messages s b u k e = accepts d sound s u k (sym (enough d s b (had_room d s b u k e)) ∙ e)

  only_used : (s q b : List ℕ) (u k : ℕ) → read_answer d s b ≡ Ok (acceptance u k) → take u q ≡ take u s
      → (read_answer d q b ≡ Ok (acceptance u k)) × (notes_after d q b ≡ notes_after d s b)
  unfolding reading_with
  only_used s q b u k e same =
      let h = had_room d s b u k e in
      let x = only_messages s b u k e in
      let y : Begins d.table d.most q u (reading_with d.table s k) =
      record {
        message = x.message;
        after = drop u q;
        joined =
            sym (take-append-drop u q)
            ∙ ap (λ (l : List ℕ). l ++ drop u q) (same ∙ ap (take u) x.joined ∙ take_at x.message x.after u x.long);
        long = x.long;
        is = x.is;
      } in (
        all_messages d q b u (reading_with d.table s k) h y,
        notes_are d q b u (reading_with d.table s k) h y ∙ sym (notes_are d s b u (reading_with d.table s k) h x),
      )

  used_fits : (s : List ℕ) (u : ℕ) (r : Reading) → Begins d.table d.most s u r → u < 4294967296
  used_fits s u r x = omega (arith, x.long, used_small d sound x.message r x.is)

-- a note of what lies over a buffer is a note of what was laid
laid_entry : (F : Form) (r : Reading) (u : ℕ) (b : List ℕ) → lay (notes_of F r u) b ≡ head_note r.mti r.count ++ (field_notes F r.entries ++ (end_note u ++ drop (length (notes_of F r u)) b))
unfolding lay notes_of
laid_entry F r u b = simp append_assoc

pub reads : (d : Dialect) → Sound d → Reads d
reads d sound =
    record {
      only_messages = only_messages d sound;
      all_messages = all_messages d;
      one_length = λ s u v r q x y. one_length d s u v r q x y;
      one_message = λ s u v r q x y. one_message d s u v r q x y;
      one_reading = λ s u v r q x y. one_reading d s u v r q x y;
      notes_are = notes_are d;
      notes_spell =
          λ s b u r h x i e at.
          ap (λ (n : List ℕ). entry_at d.form n i) (notes_are d s b u r h x ∙ laid_entry d.form r u b)
          ∙ entry_at_lem d.form r.mti r.count r.entries (end_note u ++ drop (length (notes_of d.form r u)) b) i e x.is.four
          (entries_fit d sound x.message r x.is) at;
      notes_tell =
          λ s q u v r p x y e.
          notes_apart d.form r p u v sound.apart x.is.four y.is.four
          (omega (arith, x.is.few, sound.greatest))
          (omega (arith, y.is.few, sound.greatest))
          (entries_fit d sound x.message r x.is)
          (entries_fit d sound y.message p y.is)
          (used_fits d sound s u r x)
          (used_fits d sound q v p y)
          e;
      notes_fit = λ s u r x. room_enough d sound x.message r x.is u;
      only_used = only_used d sound;
    }

pub house_reads : HouseReads
house_reads = record { reads = reads (dialect house) house_sound; room_is = refl }
