-- How far the fields of a message reach, over a table of small lengths: every number in a note fits, and the notes fit in their room.
-- Assumes nothing.
use Prim.Native.Nat.{ℕ, suc, ◌+◌, ◌-◌, ◌*◌, ◌≤◌, ◌<◌}
use mathlib.Core.Path.{◌≡◌, refl, ap}
use mathlib.Core.Bool.{true}
use mathlib.Core.List.{List, ◌++◌}
use native.Mathlib.Nat.{mul-le-mul_left}
use native.Mathlib.Omega.{arith}
use lib.ListN.{length, length-append}
use Rattle.octets.specs.Lists.{all}
use Rattle.octets.proofs.Cases.{both_left, both_right}
use Rattle.bitmap.specs.Bitmaps.{is_field, fields_of}
use Rattle.bitmap.proofs.Fields.{fields_are, fields_few}
use Rattle.bitmap.proofs.Maps.{field_high}
use Rattle.field_table.specs.Table.{Table, Small}
use Rattle.message_language.specs.Language.{Entry, Fields, none, more, Reading, Message}
use Rattle.message_notes.specs.Dialect.{Dialect, note_size, notes_room, Sound}
use Rattle.message_notes.specs.Notes.{notes_of}
use Rattle.message_notes.proofs.Sizes.{notes_long}
use Rattle.message_notes.proofs.Spelling.{AllFit}

-- as many entries as fields
entries_long : (t : Table) {at : ℕ} {fs bs : List ℕ} {es : List Entry} → Fields t at fs bs es → length es ≡ length fs
entries_long t none = refl
entries_long t (more ds c rest i b g) = ap suc (entries_long t g)

module _ (t : Table) (small : Small t) where
  fit : {at : ℕ} {fs bs : List ℕ} {es : List Entry} → Fields t at fs bs es → all is_field fs ≡ true → at + 1002 * length fs ≤ 4294967295 → AllFit es
  unfolding AllFit
  fit none a h = tt
  fit (more {at = at} {f = f} {fs = fs} ds c rest i b g) a h =
      let w = small.width_small f in
      let m = small.most_small f in
      let n = field_high f (both_left (is_field f) (all is_field fs) a) in
      let dw = i.width in
      let cm = i.allowed in (
        record { number = omega arith; offset = omega arith; size = omega arith },
        fit g (both_right (is_field f) (all is_field fs) a) (omega arith),
      )

  reach : {at : ℕ} {fs bs : List ℕ} {es : List Entry} → Fields t at fs bs es → length bs ≤ 1002 * length fs
  reach none = omega arith
  reach (more {f = f} ds c rest i b g) =
      omega (
        arith,
        ap length b,
        length-append ds (c ++ rest),
        length-append c rest,
        small.width_small f,
        small.most_small f,
        i.width,
        i.allowed,
        reach g,
      )

-- a message that the dialect takes
module _ (d : Dialect) (sound : Sound d) (bs : List ℕ) (r : Reading) (M : Message d.table d.most bs r) where
  listed : length (fields_of M.maps r.count) ≤ 64 * d.most - 2
  listed = fields_few M.maps r.count d.most sound.least M.few

  few : length r.entries ≤ 64 * d.most - 2
  few = omega (arith, entries_long d.table M.fields, listed)

  pub entries_fit : AllFit r.entries
  unfolding fields_of
  entries_fit =
      fit d.table sound.small M.fields (fields_are M.maps (64 * r.count) 1)
      (omega (arith, listed, M.few, sound.greatest))

  pub used_small : length bs < 4294967296
  used_small =
      omega (
        arith,
        ap length M.spelt,
        length-append r.mti (M.maps ++ M.body),
        length-append M.maps M.body,
        M.four,
        M.whole,
        reach d.table sound.small M.fields,
        listed,
        M.few,
        sound.greatest,
      )

  pub room_enough : (u : ℕ) → length (notes_of d.form r u) ≤ notes_room d
  room_enough u = omega (arith, notes_long d.form r u M.four, mul-le-mul_left (note_size d.form) few)
