-- Bytes behind the notes of a message change nothing of what lookup and both writers do. Assumes nothing.
use Prim.Native.Nat.{ℕ}
use mathlib.Core.Path.{◌≡◌, sym, ap, ◌∙◌}
use mathlib.Core.List.{List, [], ◌++◌, append-nil}
use Rattle.message_language.specs.Language.{Reading, Begins}
use Rattle.message_notes.specs.Dialect.{Dialect, Sound}
use Rattle.message_notes.specs.Notes.{notes_of, mti_in, count_in}
use Rattle.message_walk.specs.Walk.{Fault, walked, entries_in}
use Rattle.message_walk.specs.Faults.{any, within}
use Rattle.message_walk.proofs.Behind.{behind_walked, behind_entries}
use Rattle.message_lookup.specs.Lookup.{looked_up}
use Rattle.message_write.specs.Written.{exactly, cleanly, exact_message, clean_message, exact_answer, exact_output, clean_answer, clean_output, clean_padded}
use Rattle.round_trip.specs.RoundTrip.{IgnoresBehind}
use Rattle.round_trip.proofs.Noted.{noted, least, three, used_fits, all_fit}

module _ (d : Dialect) (sound : Sound d) (s v rest : List ℕ) (u : ℕ) (r : Reading) (x : Begins d.table d.most s u r) where
  abbrev bare : List ℕ
  bare = notes_of d.form r u

  abbrev notes : List ℕ
  notes = notes_of d.form r u ++ rest

  module _ (p : Fault) where
    walks : walked d p notes ≡ walked d p bare
    walks =
        behind_walked d sound.apart sound.spelt p r u x.is.four x.is.digits (least d sound s u r x) (three d sound s u r x) x.is.few
        (used_fits d sound s u r x) (all_fit d sound s u r x) rest []
        ∙ ap (walked d p) (append-nil bare)

    entries : entries_in d p notes ≡ entries_in d p bare
    entries =
        behind_entries d sound.apart sound.spelt p r u x.is.four x.is.digits (least d sound s u r x) (three d sound s u r x) x.is.few
        (used_fits d sound s u r x) (all_fit d sound s u r x) rest []
        ∙ ap (entries_in d p) (append-nil bare)

  mti : mti_in notes ≡ mti_in bare
  mti = (noted d sound s u r x rest).mti ∙ sym (noted d sound s u r x []).mti ∙ ap mti_in (append-nil bare)

  count : count_in notes ≡ count_in bare
  count = (noted d sound s u r x rest).count ∙ sym (noted d sound s u r x []).count ∙ ap count_in (append-nil bare)

  exact_message_lem : exact_message d v notes ≡ exact_message d v bare
  unfolding exact_message
  exact_message_lem = rw (mti, count, entries (exactly d v))

  clean_message_lem : clean_message d v notes ≡ clean_message d v bare
  unfolding clean_message
  clean_message_lem = rw (mti, count, entries (cleanly d v))

  found : (f : ℕ) → looked_up d v (notes_of d.form r u ++ rest) f ≡ looked_up d v (notes_of d.form r u) f
  unfolding looked_up
  found f = rw (walks (within v any), entries (within v any))

  module _ (out : List ℕ) where
    exact_answer_lem : exact_answer d v (notes_of d.form r u ++ rest) out ≡ exact_answer d v (notes_of d.form r u) out
    unfolding exact_answer
    exact_answer_lem = rw (walks (exactly d v), exact_message_lem)

    exact_output_lem : exact_output d v (notes_of d.form r u ++ rest) out ≡ exact_output d v (notes_of d.form r u) out
    unfolding exact_output
    exact_output_lem = rw (walks (exactly d v), exact_message_lem)

    clean_answer_lem : clean_answer d v (notes_of d.form r u ++ rest) out ≡ clean_answer d v (notes_of d.form r u) out
    unfolding clean_answer
    clean_answer_lem = rw (walks (cleanly d v), clean_message_lem)

    clean_output_lem : clean_output d v (notes_of d.form r u ++ rest) out ≡ clean_output d v (notes_of d.form r u) out
    unfolding clean_output
    clean_output_lem = rw (walks (cleanly d v), clean_message_lem)

    clean_padded_lem : clean_padded d v (notes_of d.form r u ++ rest) out ≡ clean_padded d v (notes_of d.form r u) out
    unfolding clean_padded
    clean_padded_lem = rw (clean_answer_lem, entries (cleanly d v))

pub ignores_behind : (d : Dialect) → Sound d → IgnoresBehind d
ignores_behind d sound =
    record {
      found = found d sound;
      exact_answer_lem = λ s v rest out u r x. exact_answer_lem d sound s v rest u r x out;
      exact_output_lem = λ s v rest out u r x. exact_output_lem d sound s v rest u r x out;
      clean_answer_lem = λ s v rest out u r x. clean_answer_lem d sound s v rest u r x out;
      clean_output_lem = λ s v rest out u r x. clean_output_lem d sound s v rest u r x out;
      clean_padded_lem = λ s v rest out u r x. clean_padded_lem d sound s v rest u r x out;
    }
