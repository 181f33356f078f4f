-- A walk that asks no more ends alike, and passes the same entries, where the first comes to the end note. Assumes nothing.
use Prim.Native.Nat.{ℕ, zero, suc, ◌+◌}
use mathlib.Core.Path.{◌≡◌, refl, sym, ap, ◌∙◌}
use mathlib.Core.List.{List, ◌∷◌}
use native.Mathlib.Omega.{arith}
use lib.ListN.{length, drop}
use Rattle.std.specs.Prelude.{Result, Ok, Err}
use Rattle.refusal.specs.Refusals.{good}
use Rattle.refusal.specs.declared.Refusal.{Refusal}
use Rattle.message_language.specs.Language.{Entry, entry}
use Rattle.message_notes.specs.Dialect.{Form, note_size, head_size, Dialect}
use Rattle.message_notes.specs.Notes.{count_in}
use Rattle.message_walk.specs.declared.Judged.TheVariants.{Passed}
use Rattle.message_walk.specs.declared.Ended.{Ended}
use Rattle.message_walk.specs.Walk.{Fault, head_number, judged, passed, ending, walked, entries_in, listed_from, listed_in}
use Rattle.message_walk.proofs.Steps.{by_judged, judged_end, ends_note, passing, is_passing, ending_bad, ending_end, ending_more, passed_end, passed_more, listed_end, listed_more}
use Rattle.message_walk.proofs.Heads.{ended_head}

never : (w : Result Ended Refusal) (r : Refusal) (x : Ended) → w ≡ Err r → w ≡ Ok x → ⊥
never w r x a b = let z : ◌≡◌ {A = ℕ} 0 1 = cc in omega arith

module _ (F : Form) (p q : Fault) (weaker : (e : Entry) → p e ≡ good → q e ≡ good) (m : ℕ) where
  pub record Alike (k last at : ℕ) (s : List ℕ) (x : Ended) : Type 0 where
    pub end : ending F q m k last at s ≡ Ok x
    pub same : passed F q m k last s ≡ passed F p m k last s
    pub listed : listed_from F k s ≡ passed F p m k last s

  alike : (k last at : ℕ) (s : List ℕ) (x : Ended) → ending F p m k last at s ≡ Ok x → Alike k last at s x
  unfolding ending
  alike zero last at s x e = absurd (never _ _ x refl e)
  alike (suc k) last at s x e =
      by_judged (judged F p m last s)
      (λ w j. absurd (never _ _ x (ending_bad F p m k last at s w j) e))
      (λ w j.
      let o = ends_note F p m last s w j in
      let h = judged_end F q m last s w o in
      record {
        end = ending_end F q m k last at s w h ∙ sym (ending_end F p m k last at s w j) ∙ e;
        same = passed_end F q m k last s w h ∙ sym (passed_end F p m k last s w j);
        listed = listed_end F k s w o ∙ sym (passed_end F p m k last s w j);
      })
      (λ f a n j.
      let g = passing F p m last s f a n j in
      let h : judged F q m last s ≡ Ok (Passed f a n) =
      is_passing F q m last s f a n
      (record { note = g.note; marked = g.marked; good = record { allowed = g.good.allowed; ruled = weaker (entry f a n) g.good.ruled } }) in
      let r = alike k f (at + note_size F) (drop (note_size F) s) x (sym (ending_more F p m k last at s f a n j) ∙ e) in
      record {
        end = ending_more F q m k last at s f a n h ∙ r.end;
        same = passed_more F q m k last s f a n h ∙ ap (λ (es : List Entry). entry f a n ∷ es) r.same ∙ sym (passed_more F p m k last s f a n j);
        listed = listed_more F k s f a n g.note ∙ ap (λ (es : List Entry). entry f a n ∷ es) r.listed ∙ sym (passed_more F p m k last s f a n j);
      })

module _ (d : Dialect) (p : Fault) (n : List ℕ) (x : Ended) (e : walked d p n ≡ Ok x) where
  clean : head_number d.most n ≡ good
  clean = ended_head d p n x e

  rest : ending d.form p (count_in n) (length n) 0 head_size (drop head_size n) ≡ Ok x
  unfolding walked
  rest = rw (walked, clean) at e

  -- what a walk passes that comes to the end note are the notes of fields up to it
  pub walked_listed : listed_in d.form n ≡ entries_in d p n
  unfolding listed_in entries_in
  walked_listed = (alike d.form p p (λ y z. z) (count_in n) (length n) 0 head_size (drop head_size n) x rest).listed

  module _ (q : Fault) (weaker : (y : Entry) → p y ≡ good → q y ≡ good) where
    pub weaker_walked : walked d q n ≡ Ok x
    unfolding walked
    weaker_walked = rw (walked, clean) (alike d.form p q weaker (count_in n) (length n) 0 head_size (drop head_size n) x rest).end

    pub weaker_entries : entries_in d q n ≡ entries_in d p n
    unfolding entries_in
    weaker_entries = (alike d.form p q weaker (count_in n) (length n) 0 head_size (drop head_size n) x rest).same
