-- Lookup in the notes of a message finds exactly the fields of its reading. Assumes nothing.
use Prim.Native.Nat.{ℕ, ◌≤◌, ◌<◌}
use mathlib.Core.Path.{◌≡◌, refl, ap, ◌∙◌}
use mathlib.Core.List.{List, [], ◌∷◌, ◌++◌}
use native.Mathlib.Omega.{arith}
use lib.ListN.{length, drop, length-append}
use Rattle.std.proofs.lemmas.Bool.Decides.{nat_tests}
use Rattle.std.specs.Prelude.{Ok, Err}
use Rattle.refusal.specs.Numbers.{field_absent}
use Rattle.refusal.specs.Refusals.{refusal}
use Rattle.field_write.specs.Fields.{exact_fault}
use Rattle.message_language.specs.Language.{Entry, entry, Reading, Begins}
use Rattle.message_contents.proofs.Made.{is_low}
use Rattle.message_notes.specs.Dialect.{Dialect, notes_room, Sound}
use Rattle.message_notes.specs.Notes.{notes_of}
use Rattle.message_reader.specs.Reader.{notes_after}
use Rattle.message_walk.specs.Walk.{ended as ended_at, Fault, walked, entries_in}
use Rattle.message_walk.specs.Faults.{any, within}
use Rattle.message_walk.proofs.Weaker.{weaker_walked, weaker_entries}
use Rattle.message_walk.proofs.Written.{Walkable, none, more}
use Rattle.message_lookup.specs.Lookup.{place, found_in, found_by, looked_up}
use Rattle.message_write.specs.Written.{exactly}
use Rattle.round_trip.specs.RoundTrip.{end_place, LooksUp}
use Rattle.round_trip.proofs.Noted.{Noted, noted, read_notes}
use Rattle.round_trip.proofs.Rereading.{exact_inside}

module _ (p : Fault) (m : ℕ) where
  -- numbers rise
  above : {last : ℕ} {es : List Entry} → Walkable p m last es → (before : List Entry) (e : Entry) (after : List Entry) → es ≡ before ++ (e ∷ after) → last < e.number
  above none before e after h = absurd (omega (arith, simp length-append at (ap length h)))
  above {last} (more {f = f} {a = a} {n = n} g w) [] e after h =
      let q : entry f a n ≡ e = cc in
      omega (arith, ap (λ (x : Entry). x.number) q, is_low m last f g.allowed)
  above {last} (more {f = f} {es = es} g w) (c ∷ before) e after h =
      let q : es ≡ before ++ (e ∷ after) = cc in
      omega (arith, is_low m last f g.allowed, above w before e after q)

  -- so an entry is the first of its number
  found : (at : ℕ) {last : ℕ} {es : List Entry} → Walkable p m last es → (before : List Entry) (e : Entry) (after : List Entry) → es ≡ before ++ (e ∷ after)
      → found_in e.number at es ≡ Ok (place e.offset e.size)
  unfolding found_in
  found at none before e after h = absurd (omega (arith, simp length-append at (ap length h)))
  found at (more {f = f} {a = a} {n = n} g w) [] e after h =
      let q : entry f a n ≡ e = cc in
      rw (← q) (grind (arith, nat_tests))
  found at (more {f = f} {es = es} g w) (c ∷ before) e after h =
      let q : es ≡ before ++ (e ∷ after) = cc in
      let b : f < e.number = above w before e after q in
      grind (arith, nat_tests, b, found at w before e after q)

missed : (f at : ℕ) (es : List Entry) → ((before : List Entry) (e : Entry) (after : List Entry) → es ≡ before ++ (e ∷ after) → e.number ≡ f → ⊥)
    → found_in f at es ≡ Err (refusal field_absent f at)
unfolding found_in
missed f at [] no_one = refl
missed f at (c ∷ es) no_one =
    let r = missed f at es (λ before e after h. no_one (c ∷ before) e after (ap (λ (l : List Entry). c ∷ l) h)) in
    grind (arith, nat_tests, no_one [] c es refl, r)

module _ (d : Dialect) (sound : Sound d) (s : List ℕ) (u : ℕ) (r : Reading) (x : Begins d.table d.most s u r) where
  -- Lookup asks less of a field than the exact writer, whose walk over the notes of a message comes to their end.
  module _ (rest : List ℕ) where
    abbrev n : Noted d s rest u r x
    n = noted d sound s u r x rest

    abbrev notes : List ℕ
    notes = notes_of d.form r u ++ rest

    ended : walked d (within s any) notes ≡ Ok (ended_at (end_place d.form r) u)
    ended = weaker_walked d (exactly d s) notes (ended_at (end_place d.form r) u) n.ended (within s any) (exact_inside d s)

    entries : entries_in d (within s any) notes ≡ r.entries
    entries = weaker_entries d (exactly d s) notes (ended_at (end_place d.form r) u) n.ended (within s any) (exact_inside d s) ∙ n.entries

    looked_up_lem : (f : ℕ) → looked_up d s (notes_of d.form r u ++ rest) f ≡ found_in f (end_place d.form r) r.entries
    unfolding looked_up found_by
    looked_up_lem f = rw (looked_up, ended, entries)

  is_found_lem : (before : List Entry) (e : Entry) (after : List Entry) → r.entries ≡ before ++ (e ∷ after)
      → found_in e.number (end_place d.form r) r.entries ≡ Ok (place e.offset e.size)
  is_found_lem before e after h =
      found (within s (exact_fault d.table)) r.count (end_place d.form r) (noted d sound s u r x []).fields.walk before e after h

  read_looked_up : (b : List ℕ) → notes_room d ≤ length b → (f : ℕ) → looked_up d s (notes_after d s b) f ≡ found_in f (end_place d.form r) r.entries
  read_looked_up b room f = ap (λ (l : List ℕ). looked_up d s l f) (read_notes d sound s u r x b room) ∙ looked_up_lem (drop (length (notes_of d.form r u)) b) f

pub looks_up : (d : Dialect) → Sound d → LooksUp d
looks_up d sound =
    record {
      finds = λ s rest u r x before e after h. looked_up_lem d sound s u r x rest e.number ∙ is_found_lem d sound s u r x before e after h;
      misses = λ s rest u r x f h. looked_up_lem d sound s u r x rest f ∙ missed f (end_place d.form r) r.entries h;
      read_finds = λ s b u r room x before e after h. read_looked_up d sound s u r x b room e.number ∙ is_found_lem d sound s u r x before e after h;
      read_misses = λ s b u r room x f h. read_looked_up d sound s u r x b room f ∙ missed f (end_place d.form r) r.entries h;
    }
