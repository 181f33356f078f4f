-- Loops over notes, a note at a time, on plain values: n the notes. Assumes nothing.
use Prim.Native.Nat.{ℕ, suc, ◌+◌, ◌-◌, ◌≤◌, ◌<◌}
use mathlib.Core.Path.{◌≡◌, refl, sym, ap, subst, ◌∙◌}
use mathlib.Core.List.{List, [], ◌∷◌}
use native.Mathlib.Omega.{arith}
use lib.ListN.{length, take, drop, length-drop}
use lib.Seq.{drop-drop}
use Rattle.std.specs.Prelude.{Result, Ok, Err}
use Rattle.octets.proofs.Parts.{to_end}
use Rattle.refusal.specs.Refusals.{refusal}
use Rattle.refusal.specs.declared.Refusal.{Refusal}
use Rattle.message_language.specs.Language.{Entry, entry}
use Rattle.message_notes.specs.Dialect.{Form, note_size, head_size}
use Rattle.message_notes.specs.Notes.{count_in, note_at}
use Rattle.message_notes.specs.declared.Note.{Note}
use Rattle.message_notes.specs.declared.Note.TheVariants.{Field as FieldNote}
use Rattle.message_walk.specs.declared.Judged.{Judged}
use Rattle.message_walk.specs.declared.Judged.TheVariants.{Passed, End}
use Rattle.message_walk.specs.declared.Flaw.{Flaw}
use Rattle.message_walk.specs.declared.Ended.{Ended}
use Rattle.message_walk.specs.Walk.{ended, Fault, judged, passed, ending, listed_from, listed_in}
use Rattle.message_walk.proofs.Steps.{by_note, Good, passing, note_whole, ending_bad, ending_end, ending_more, passed_end, passed_more, listed_malformed, listed_end, listed_more}

-- A loop that judges: it has come to the place `at` and the number `last`, the whole walk ends as the rest of it does, and P holds of the
-- entries still to come.
pub record Walking (F : Form) (p : Fault) (n : List ℕ) (w : Result Ended Refusal) (P : List Entry → Type 0) (at last : ℕ) : Type 0 where
  pub fuel : ℕ
  pub inside : at ≤ length n
  pub left : length n < fuel + at
  pub ends : w ≡ ending F p (count_in n) fuel last at (drop at n)
  pub holds : P (passed F p (count_in n) fuel last (drop at n))

pub walking_first : {F : Form} {p : Fault} {n : List ℕ} {P : List Entry → Type 0} → head_size ≤ length n
    → P (passed F p (count_in n) (length n) 0 (drop head_size n))
    → Walking F p n (ending F p (count_in n) (length n) 0 head_size (drop head_size n)) P head_size 0
walking_first {F} {p} {n} h x = record { fuel = length n; inside = h; left = omega arith; ends = refl; holds = x }

-- A turn of it: the note there was judged to be o.
pub record Turn (F : Form) (p : Fault) (n : List ℕ) (w : Result Ended Refusal) (P : List Entry → Type 0) (at last : ℕ) (o : Result Judged Flaw) : Type 0 where
  pub loop : Walking F p n w P at last
  pub judging : o ≡ judged F p (count_in n) last (take (length n - at) (drop at n))

pub turn_of :
    {F : Form} {p : Fault} {n : List ℕ} {w : Result Ended Refusal} {P : List Entry → Type 0} {at last : ℕ} {o : Result Judged Flaw} →
    Walking F p n w P at last →
    o ≡ judged F p (count_in n) last (take (length n - at) (drop at n)) →
    Turn F p n w P at last o
turn_of loop judging = record { loop = loop; judging = judging }

module _ {F : Form} {p : Fault} {n : List ℕ} {w : Result Ended Refusal} {P : List Entry → Type 0} {at last : ℕ} {o : Result Judged Flaw} (c : Turn F p n w P at last o) where
  abbrev k : ℕ
  k = c.loop.fuel - 1

  abbrev m : ℕ
  m = count_in n

  here : judged F p m last (drop at n) ≡ o
  here = sym (c.judging ∙ ap (judged F p m last) (to_end at n))

  some : c.loop.fuel ≡ suc k
  some = omega (arith, c.loop.inside, c.loop.left)

  ends_here : w ≡ ending F p m (suc k) last at (drop at n)
  ends_here = c.loop.ends ∙ ap (λ (q : ℕ). ending F p m q last at (drop at n)) some

  holds_here : P (passed F p m (suc k) last (drop at n))
  holds_here = subst (λ (q : ℕ). P (passed F p m q last (drop at n))) some c.loop.holds

  pub turn_refused : {x : Flaw} → o ≡ Err x → Err (refusal x.cause x.field at) ≡ w
  turn_refused {x} is = sym (ends_here ∙ ending_bad F p m k last at (drop at n) x (here ∙ is))

  pub turn_end : {u : ℕ} → o ≡ Ok (End u) → Ok (ended at u) ≡ w
  turn_end {u} is = sym (ends_here ∙ ending_end F p m k last at (drop at n) u (here ∙ is))

  pub turn_done : {u : ℕ} → o ≡ Ok (End u) → P []
  turn_done {u} is = subst P (passed_end F p m k last (drop at n) u (here ∙ is)) holds_here

  module _ {f a z : ℕ} (is : o ≡ Ok (Passed f a z)) where
    pub turn_room : at + note_size F ≤ length n
    turn_room = omega (arith, note_whole F (drop at n) f a z (passing F p m last (drop at n) f a z (here ∙ is)).note, length-drop at n, c.loop.inside)

    pub turn_good : Good p m last f a z
    turn_good = (passing F p m last (drop at n) f a z (here ∙ is)).good

    pub turn_here : P (entry f a z ∷ passed F p m k f (drop (at + note_size F) n))
    turn_here =
        subst P
        (passed_more F p m k last (drop at n) f a z (here ∙ is) ∙ ap (λ (q : List ℕ). entry f a z ∷ passed F p m k f q) (drop-drop (note_size F) at n))
        holds_here

    pub turn_next : {Q : List Entry → Type 0} → Q (passed F p m k f (drop (at + note_size F) n)) → Walking F p n w Q (at + note_size F) f
    turn_next q =
        record {
          fuel = k;
          inside = turn_room;
          left = omega (arith, turn_room, c.loop.left);
          ends =
              ends_here
              ∙ ending_more F p m k last at (drop at n) f a z (here ∙ is)
              ∙ ap (ending F p m k f (at + note_size F)) (drop-drop (note_size F) at n);
          holds = q;
        }

-- A loop that only reads the notes of fields, up to the first note that is none.
pub record Reading (F : Form) (n : List ℕ) (P : List Entry → Type 0) (at : ℕ) : Type 0 where
  pub fuel : ℕ
  pub inside : at ≤ length n
  pub left : length n < fuel + at
  pub holds : P (listed_from F fuel (drop at n))

pub reading_first : {F : Form} {n : List ℕ} {P : List Entry → Type 0} → head_size ≤ length n → P (listed_in F n) → Reading F n P head_size
unfolding listed_in
reading_first {F} {n} h x = record { fuel = length n; inside = h; left = omega arith; holds = x }

-- A turn of it: the note there was read as o.
pub record Read (F : Form) (n : List ℕ) (P : List Entry → Type 0) (at : ℕ) (o : Note) : Type 0 where
  pub loop : Reading F n P at
  pub note : o ≡ note_at F (take (length n - at) (drop at n))

pub read_of :
    {F : Form} {n : List ℕ} {P : List Entry → Type 0} {at : ℕ} {o : Note} →
    Reading F n P at →
    o ≡ note_at F (take (length n - at) (drop at n)) →
    Read F n P at o
read_of loop note = record { loop = loop; note = note }

module _ {F : Form} {n : List ℕ} {P : List Entry → Type 0} {at : ℕ} {o : Note} (c : Read F n P at o) where
  abbrev j : ℕ
  j = c.loop.fuel - 1

  is_note : note_at F (drop at n) ≡ o
  is_note = sym (c.note ∙ ap (note_at F) (to_end at n))

  holds_there : P (listed_from F (suc j) (drop at n))
  holds_there = subst (λ (q : ℕ). P (listed_from F q (drop at n))) (omega (arith, c.loop.inside, c.loop.left)) c.loop.holds

  -- a note that is no field's ends it
  pub read_done : ((f a z : ℕ) → o ≡ FieldNote f a z → ⊥) → P []
  read_done not =
      by_note o
      (λ is. subst P (listed_malformed F j (drop at n) (is_note ∙ is)) holds_there)
      (λ u is. subst P (listed_end F j (drop at n) u (is_note ∙ is)) holds_there)
      (λ f a z is. absurd (not f a z is))

  module _ {f a z : ℕ} (is : o ≡ FieldNote f a z) where
    pub read_room : at + note_size F ≤ length n
    read_room = omega (arith, note_whole F (drop at n) f a z (is_note ∙ is), length-drop at n, c.loop.inside)

    pub read_here : P (entry f a z ∷ listed_from F j (drop (at + note_size F) n))
    read_here =
        subst P
        (listed_more F j (drop at n) f a z (is_note ∙ is) ∙ ap (λ (q : List ℕ). entry f a z ∷ listed_from F j q) (drop-drop (note_size F) at n))
        holds_there

    pub read_next : {Q : List Entry → Type 0} → Q (listed_from F j (drop (at + note_size F) n)) → Reading F n Q (at + note_size F)
    read_next q = record { fuel = j; inside = read_room; left = omega (arith, read_room, c.loop.left); holds = q }
