-- Bytes behind the notes of a message change nothing of what the required check answers (specs/Behind.antt): neither how the walk ends, nor
-- the entries that it passes, nor the MTI. Assumes nothing.
use Prim.Native.Nat.{ℕ, ◌≤◌, ◌<◌}
use mathlib.Core.Path.{◌≡◌, sym, ap, ◌∙◌}
use mathlib.Core.List.{List, [], ◌++◌, append-nil}
use native.Mathlib.Omega.{arith}
use Rattle.field_table.specs.House.{house}
use Rattle.bitmap.proofs.Maps.{count_least}
use Rattle.message_language.specs.Language.{Reading, Begins}
use Rattle.message_notes.specs.Dialect.{Dialect, dialect, Sound}
use Rattle.message_notes.specs.Notes.{notes_of, mti_in}
use Rattle.message_notes.proofs.Sound.{house_sound}
use Rattle.message_reader.proofs.Small.{entries_fit, used_small}
use Rattle.message_walk.specs.Walk.{walked, entries_in}
use Rattle.message_walk.specs.Faults.{any, within}
use Rattle.message_walk.proofs.Written.{mti_in_lem}
use Rattle.message_walk.proofs.Behind.{behind_walked, behind_entries}
use Rattle.message_lookup.specs.Lookup.{looked_up}
use Rattle.validation_required.specs.Required.{is_present, required_by, required_in}
use Rattle.validation_required.specs.Behind.{ChecksNotesAlone, HouseChecks}
use Rattle.validation_required.proofs.Present.{same_missing}
use Rattle.validation_required.proofs.Required.{required_fields}

module _ (d : Dialect) (sound : Sound d) (s v rest : List ℕ) (u : ℕ) (r : Reading) (x : Begins d.table d.most s u r) where
  abbrev bare : List ℕ
  bare = notes_of d.form r u

  abbrev notes : List ℕ
  notes = notes_of d.form r u ++ rest

  -- the notes can be spelt
  least : 1 ≤ r.count
  least = omega (arith, x.is.chained, count_least x.is.maps)

  three : r.count ≤ 3
  three = omega (arith, x.is.few, sound.greatest)

  used_fits : u < 4294967296
  used_fits = omega (arith, x.long, used_small d sound x.message r x.is)

  walks : walked d (within v any) notes ≡ walked d (within v any) bare
  walks =
      behind_walked d sound.apart sound.spelt (within v any) r u x.is.four x.is.digits least three x.is.few used_fits
      (entries_fit d sound x.message r x.is) rest []
      ∙ ap (walked d (within v any)) (append-nil bare)

  entries : entries_in d (within v any) notes ≡ entries_in d (within v any) bare
  entries =
      behind_entries d sound.apart sound.spelt (within v any) r u x.is.four x.is.digits least three x.is.few used_fits
      (entries_fit d sound x.message r x.is) rest []
      ∙ ap (entries_in d (within v any)) (append-nil bare)

  mti : mti_in notes ≡ mti_in bare
  mti =
      mti_in_lem d.form r u rest x.is.four x.is.digits least three
      ∙ sym (mti_in_lem d.form r u [] x.is.four x.is.digits least three)
      ∙ ap mti_in (append-nil bare)

  present : (f : ℕ) → is_present d v notes f ≡ is_present d v bare f
  unfolding is_present looked_up
  present f = rw (walks, entries)

  same_answer : required_in d v (notes_of d.form r u ++ rest) ≡ required_in d v (notes_of d.form r u)
  unfolding required_in
  same_answer =
      rw (walks, mti, same_missing (is_present d v notes) (is_present d v bare) (λ f z. present f) (required_by (mti_in bare)) (required_fields (mti_in bare)))

pub checks_notes_alone : (d : Dialect) → Sound d → ChecksNotesAlone d
checks_notes_alone d sound = record { same_answer = same_answer d sound }

pub house_checks : HouseChecks
house_checks = record { notes_alone = checks_notes_alone (dialect house) house_sound }
