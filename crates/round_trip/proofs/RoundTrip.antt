-- Reading and then exact writing gives back what was read, by every sound dialect. Assumes nothing.
use Prim.Native.Nat.{ℕ, ◌≤◌}
use mathlib.Core.Path.{◌≡◌, refl, sym, ap, ◌∙◌}
use mathlib.Core.Bool.{Bool, true}
use mathlib.Core.List.{List, [], ◌∷◌, ◌++◌}
use lib.ListN.{length, take, drop}
use lib.Seq.{take_at}
use native.Mathlib.Omega.{arith}
use Rattle.std.proofs.lemmas.Bool.Decides.{nat_tests}
use Rattle.std.specs.Prelude.{Ok}
use Rattle.octets.specs.Lists.{all, lay}
use Rattle.message_language.specs.Language.{Reading, Begins}
use Rattle.message_contents.specs.Contents.{numbers_of, bitmaps_with, message_with}
use Rattle.message_contents.proofs.Cleaning.{contents_numbers}
use Rattle.message_contents.proofs.Maps.{maps_back}
use Rattle.message_notes.specs.Dialect.{Dialect, notes_room, Sound}
use Rattle.message_notes.specs.Notes.{notes_of}
use Rattle.message_reader.specs.Reader.{notes_after}
use Rattle.message_walk.specs.Walk.{walked}
use Rattle.message_write.specs.Written.{exactly, exact_message, exact_answer, exact_output}
use Rattle.message_write.proofs.Answered.{Answered, answered_written, answered_laid}
use Rattle.round_trip.specs.RoundTrip.{is_byte, end_place, GivesBack}
use Rattle.round_trip.proofs.Noted.{Noted, noted, three, parts, read_notes}

all_left : (p : ℕ → Bool) (x y : List ℕ) → all p (x ++ y) ≡ true → all p x ≡ true
all_left p [] y a = refl
all_left p (z ∷ x) y a = grind (arith, nat_tests, all_left p x y)

all_right : (p : ℕ → Bool) (x y : List ℕ) → all p (x ++ y) ≡ true → all p y ≡ true
all_right p [] y a = a
all_right p (z ∷ x) y a = grind (arith, nat_tests, all_right p x y)

module _ (d : Dialect) (sound : Sound d) (s : List ℕ) (u : ℕ) (r : Reading) (x : Begins d.table d.most s u r) where
  -- What the exact writer writes with the notes of a message, where the bitmaps that it makes are the message's.
  module _ (bitmaps : bitmaps_with r.count (numbers_of r.entries) ≡ x.is.maps) (out : List ℕ) (enough : u ≤ length out) where
    taken : x.message ≡ take u s
    taken = sym (ap (take u) x.joined ∙ take_at x.message x.after u x.long)

    module _ (rest : List ℕ) where
      abbrev n : Noted d s rest u r x
      n = noted d sound s u r x rest

      abbrev notes : List ℕ
      notes = notes_of d.form r u ++ rest

      message_back : exact_message d s notes ≡ x.message
      unfolding exact_message message_with
      message_back =
          rw (n.entries, n.mti, n.count, contents_numbers s r.entries, bitmaps, n.fields.body) (sym x.is.spelt)

      was : Answered (walked d (exactly d s) notes) (exact_message d s notes) out u
      was = record { at = end_place d.form r; ended = n.ended; long = ap length message_back ∙ x.long; room = enough }

      pub answers : exact_answer d s (notes_of d.form r u ++ rest) out ≡ Ok u
      unfolding exact_answer
      answers = answered_written (walked d (exactly d s) notes) (exact_message d s notes) out u was

      pub given_back : exact_output d s (notes_of d.form r u ++ rest) out ≡ lay (take u s) out
      unfolding exact_output
      given_back =
          answered_laid (walked d (exactly d s) notes) (exact_message d s notes) out u was
          ∙ ap (λ (l : List ℕ). lay l out) (message_back ∙ taken)

    module _ (b : List ℕ) (room : notes_room d ≤ length b) where
      abbrev behind : List ℕ
      behind = drop (length (notes_of d.form r u)) b

      pub read_answers : exact_answer d s (notes_after d s b) out ≡ Ok u
      read_answers = ap (λ (l : List ℕ). exact_answer d s l out) (read_notes d sound s u r x b room) ∙ answers behind

      pub read_given_back : exact_output d s (notes_after d s b) out ≡ lay (take u s) out
      read_given_back = ap (λ (l : List ℕ). exact_output d s l out) (read_notes d sound s u r x b room) ∙ given_back behind

  -- And they are, where the input is bytes.
  module _ (bytes : all is_byte s ≡ true) where
    maps_bytes : all is_byte x.is.maps ≡ true
    maps_bytes =
        let a : all is_byte ((r.mti ++ x.is.maps) ++ (x.is.body ++ x.after)) ≡ true = sym (ap (all is_byte) (parts d sound s u r x)) ∙ bytes in
        all_right is_byte r.mti x.is.maps (all_left is_byte (r.mti ++ x.is.maps) (x.is.body ++ x.after) a)

    pub bitmaps_back : bitmaps_with r.count (numbers_of r.entries) ≡ x.is.maps
    bitmaps_back =
        ap (bitmaps_with r.count) (sym (contents_numbers s r.entries) ∙ (noted d sound s u r x []).fields.numbers)
        ∙ maps_back x.is.maps r.count x.is.chained x.is.whole (three d sound s u r x) maps_bytes

pub gives_back : (d : Dialect) → Sound d → GivesBack d
gives_back d sound =
    record {
      answers_used = λ s rest out u r bytes x enough. answers d sound s u r x (bitmaps_back d sound s u r x bytes) out enough rest;
      gives_back = λ s rest out u r bytes x enough. given_back d sound s u r x (bitmaps_back d sound s u r x bytes) out enough rest;
      read_answers_used = λ s b out u r bytes room x enough. read_answers d sound s u r x (bitmaps_back d sound s u r x bytes) out enough b room;
      read_gives_back = λ s b out u r bytes room x enough. read_given_back d sound s u r x (bitmaps_back d sound s u r x bytes) out enough b room;
    }
