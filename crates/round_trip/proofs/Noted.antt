-- The notes of a message, with any bytes behind them: the exact writer's walk over them comes to their end and passes the entries of the
-- reading. Assumes nothing.
use Prim.Native.Nat.{ℕ, ◌*◌, ◌≤◌, ◌<◌}
use mathlib.Core.Path.{◌≡◌, refl, ap, ◌∙◌}
use mathlib.Core.List.{List, ◌++◌, append_assoc}
use native.Mathlib.Omega.{arith}
use lib.ListN.{length, drop, length-append}
use Rattle.std.specs.Prelude.{Ok}
use Rattle.octets.specs.Lists.{lay}
use Rattle.bitmap.specs.Bitmaps.{fields_of}
use Rattle.bitmap.proofs.Maps.{count_least}
use Rattle.message_language.specs.Language.{Reading, Message, Begins}
use Rattle.message_contents.proofs.Made.{rising}
use Rattle.message_notes.specs.Dialect.{Dialect, notes_room, Sound}
use Rattle.message_notes.specs.Notes.{notes_of, mti_in, count_in}
use Rattle.message_notes.proofs.Spelling.{AllFit}
use Rattle.message_reader.specs.Reader.{notes_after}
use Rattle.message_reader.proofs.Demand3.{reads}
use Rattle.message_reader.proofs.Small.{entries_fit, used_small}
use Rattle.message_walk.specs.Walk.{ended as ended_at, walked, entries_in}
use Rattle.message_walk.proofs.Written.{mti_in_lem, count_in_lem, written_walked, written_entries}
use Rattle.message_write.specs.Written.{exactly}
use Rattle.round_trip.specs.RoundTrip.{end_place}
use Rattle.round_trip.proofs.Fields.{Back, back}

pub record Noted (d : Dialect) (s rest : List ℕ) (u : ℕ) (r : Reading) (x : Begins d.table d.most s u r) : Type 0 where
  pub fields : Back d.table s r.count 0 (fields_of x.is.maps r.count) x.is.body r.entries
  pub mti : mti_in (notes_of d.form r u ++ rest) ≡ r.mti
  pub count : count_in (notes_of d.form r u ++ rest) ≡ r.count
  pub ended : walked d (exactly d s) (notes_of d.form r u ++ rest) ≡ Ok (ended_at (end_place d.form r) u)
  pub entries : entries_in d (exactly d s) (notes_of d.form r u ++ rest) ≡ r.entries

module _ (d : Dialect) (sound : Sound d) (s : List ℕ) (u : ℕ) (r : Reading) (x : Begins d.table d.most s u r) where
  abbrev M : Message d.table d.most x.message r
  M = x.is

  -- the notes can be spelt
  pub least : 1 ≤ r.count
  least = omega (arith, M.chained, count_least M.maps)

  pub three : r.count ≤ 3
  three = omega (arith, M.few, sound.greatest)

  pub used_fits : u < 4294967296
  used_fits = omega (arith, x.long, used_small d sound x.message r M)

  pub all_fit : AllFit r.entries
  all_fit = entries_fit d sound x.message r M

  -- those that the reader leaves stand at the front of its buffer
  pub read_notes : (b : List ℕ) → notes_room d ≤ length b → notes_after d s b ≡ notes_of d.form r u ++ drop (length (notes_of d.form r u)) b
  unfolding lay
  read_notes b room = (reads d sound).notes_are s b u r room x

  pub parts : s ≡ (r.mti ++ M.maps) ++ (M.body ++ x.after)
  parts = x.joined ∙ ap (λ (l : List ℕ). l ++ x.after) M.spelt ∙ simp append_assoc

  is_back : Back d.table s r.count 0 (fields_of M.maps r.count) M.body r.entries
  unfolding fields_of
  is_back =
      back d.table s r.count M.fields 0 (rising M.maps r.count (64 * r.count) 1 0 (omega arith) (omega arith)) (r.mti ++ M.maps) x.after
      (length-append r.mti M.maps ∙ omega (arith, M.four, M.whole)) parts

  pub noted : (rest : List ℕ) → Noted d s rest u r x
  unfolding exactly
  noted rest =
      let F = d.form in
      let p = exactly d s in
      record {
        fields = is_back;
        mti = mti_in_lem F r u rest M.four M.digits least three;
        count = count_in_lem F r u rest M.four M.digits least three;
        ended = written_walked F r u rest M.four M.digits least three d refl M.few sound.apart sound.spelt p used_fits all_fit is_back.walk;
        entries = written_entries F r u rest M.four M.digits least three d refl M.few sound.apart sound.spelt p used_fits all_fit is_back.walk;
      }
