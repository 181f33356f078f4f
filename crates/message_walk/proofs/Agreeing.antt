-- Walks that find the same in every field that notes name end alike and pass the same entries. Assumes nothing.
use Prim.Native.Nat.{ℕ, zero, suc, ◌+◌}
use mathlib.Core.Path.{◌≡◌, refl, sym, ap, ◌∙◌}
use mathlib.Core.Bool.{Bool, true, false}
use mathlib.Core.List.{List, [], ◌∷◌}
use lib.ListN.{length, drop}
use Rattle.octets.proofs.Cases.{by_bool}
use Rattle.std.specs.Prelude.{Ok, Err}
use Rattle.refusal.specs.Numbers.{note_malformed, number_not_allowed}
use Rattle.refusal.specs.Refusals.{good, bad}
use Rattle.refusal.specs.declared.Cause.{Cause}
use Rattle.refusal.proofs.Tests.{bad_good, by_test}
use Rattle.message_language.specs.Language.{Entry, entry}
use Rattle.message_contents.specs.Contents.{number_allowed}
use Rattle.message_notes.specs.Dialect.{Form, note_size, head_size, Dialect}
use Rattle.message_notes.specs.Notes.{count_in, is_marked, note_at}
use Rattle.message_notes.specs.declared.Note.TheVariants.{Field as FieldNote}
use Rattle.message_walk.specs.declared.Judged.TheVariants.{Passed, End}
use Rattle.message_walk.specs.declared.Flaw.{Flaw}
use Rattle.message_walk.specs.Walk.{flaw, Fault, head_number, judged_field, judged, passed, ending, walked, entries_in}
use Rattle.message_walk.proofs.Steps.{by_note, passes, unnumbered, judged_malformed, judged_end, judged_note, ending_bad, ending_end, ending_more, passed_bad, passed_end, passed_more}

-- p and q find the same in the entries es
unfoldable pub Agree : Fault → Fault → List Entry → Type 0
Agree p q [] = Unit {0}
Agree p q (e ∷ es) = (q e ≡ p e) × Agree p q es

-- a note's judgement, where its number is allowed
module _ (b : Bool) (p : Fault) (m last f a n : ℕ) where
  unmarked : number_allowed m last f ≡ true → b ≡ false → judged_field b p m last f a n ≡ Err (flaw note_malformed 0)
  unfolding judged_field
  unmarked al y = rw (al, y)

  found : (c : Cause) → number_allowed m last f ≡ true → b ≡ true → p (entry f a n) ≡ bad c → judged_field b p m last f a n ≡ Err (flaw c f)
  unfolding judged_field
  found c al y z = rw (al, y, z)

-- p finds something wherever r does, and there q finds the same; so where p and q agree on the entries that a walk by r passes, they agree.
module _ (F : Form) (p q r : Fault) (else : (e : Entry) → (r e ≡ good → ⊥) → q e ≡ p e) (weaker : (e : Entry) → p e ≡ good → r e ≡ good) where
  record Same (m k last at : ℕ) (s : List ℕ) : Type 0 where
    pub end : ending F q m k last at s ≡ ending F p m k last at s
    pub entries : passed F q m k last s ≡ passed F p m k last s

  module _ (m k last at : ℕ) (s : List ℕ) where
    same_bad : (x : Flaw) → judged F p m last s ≡ Err x → judged F q m last s ≡ Err x → Same m (suc k) last at s
    same_bad x i j =
        record {
          end = ending_bad F q m k last at s x j ∙ sym (ending_bad F p m k last at s x i);
          entries = passed_bad F q m k last s x j ∙ sym (passed_bad F p m k last s x i);
        }

    same_end : (u : ℕ) → judged F p m last s ≡ Ok (End u) → judged F q m last s ≡ Ok (End u) → Same m (suc k) last at s
    same_end u i j =
        record {
          end = ending_end F q m k last at s u j ∙ sym (ending_end F p m k last at s u i);
          entries = passed_end F q m k last s u j ∙ sym (passed_end F p m k last s u i);
        }

    same_more : (f a n : ℕ) → judged F p m last s ≡ Ok (Passed f a n) → judged F q m last s ≡ Ok (Passed f a n)
        → Same m k f (at + note_size F) (drop (note_size F) s) → Same m (suc k) last at s
    same_more f a n i j w =
        record {
          end = ending_more F q m k last at s f a n j ∙ w.end ∙ sym (ending_more F p m k last at s f a n i);
          entries = passed_more F q m k last s f a n j ∙ ap (λ (es : List Entry). entry f a n ∷ es) w.entries ∙ sym (passed_more F p m k last s f a n i);
        }

    -- a fault that both find
    same_fault : (f a n : ℕ) (c : Cause) → note_at F s ≡ FieldNote f a n → number_allowed m last f ≡ true → is_marked F f s ≡ true → q (entry f a n) ≡ p (entry f a n)
        → p (entry f a n) ≡ bad c → Same m (suc k) last at s
    same_fault f a n c e al y h z =
        same_bad (flaw c f)
        (judged_note F p m last s f a n e ∙ found (is_marked F f s) p m last f a n c al y z)
        (judged_note F q m last s f a n e ∙ found (is_marked F f s) q m last f a n c al y (h ∙ z))

  same_walk : (m k last at : ℕ) (s : List ℕ) → Agree p q (passed F r m k last s) → Same m k last at s
  unfolding ending passed Agree
  same_walk m zero last at s agree = record { end = refl; entries = refl }
  same_walk m (suc k) last at s agree =
      by_note (note_at F s)
      (λ e. same_bad m k last at s (flaw note_malformed 0) (judged_malformed F p m last s e) (judged_malformed F q m last s e))
      (λ u e. same_end m k last at s u (judged_end F p m last s u e) (judged_end F q m last s u e))
      (λ f a n e.
      let b = is_marked F f s in
      let i = judged_note F p m last s f a n e in
      let j = judged_note F q m last s f a n e in
      by_bool (number_allowed m last f)
      (λ al. by_bool b
      (λ y. by_test (r (entry f a n))
      (λ z.
      let all = judged_note F r m last s f a n e ∙ passes b r m last f a n y (record { allowed = al; ruled = z }) in
      let both : Agree p q (entry f a n ∷ passed F r m k f (drop (note_size F) s)) = rw (passed_more F r m k last s f a n all) at agree in
      by_test (p (entry f a n))
      (λ o. same_more m k last at s f a n
      (i ∙ passes b p m last f a n y (record { allowed = al; ruled = o }))
      (j ∙ passes b q m last f a n y (record { allowed = al; ruled = both.0 ∙ o }))
      (same_walk m k f (at + note_size F) (drop (note_size F) s) both.1))
      (λ c o. same_fault m k last at s f a n c e al y both.0 o))
      (λ x z. by_test (p (entry f a n))
      (λ o. bad_good x (sym z ∙ weaker (entry f a n) o))
      (λ c o. same_fault m k last at s f a n c e al y (else (entry f a n) (λ w. bad_good x (sym z ∙ w))) o)))
      (λ y. same_bad m k last at s (flaw note_malformed 0) (i ∙ unmarked b p m last f a n al y) (j ∙ unmarked b q m last f a n al y)))
      (λ al. same_bad m k last at s (flaw number_not_allowed f) (i ∙ unnumbered b p m last f a n al) (j ∙ unnumbered b q m last f a n al)))

module _ (d : Dialect) (p q r : Fault) (else : (e : Entry) → (r e ≡ good → ⊥) → q e ≡ p e) (weaker : (e : Entry) → p e ≡ good → r e ≡ good) (n : List ℕ)
    (agree : Agree p q (entries_in d r n)) where
  same : Same d.form p q r else weaker (count_in n) (length n) 0 head_size (drop head_size n)
  unfolding entries_in
  same = same_walk d.form p q r else weaker (count_in n) (length n) 0 head_size (drop head_size n) agree

  pub same_walked : walked d q n ≡ walked d p n
  unfolding walked
  same_walked =
      by_test (head_number d.most n)
      (λ z. rw (walked, walked, z) same.end)
      (λ c z. rw (walked, walked, z))

  pub same_entries : entries_in d q n ≡ entries_in d p n
  unfolding entries_in
  same_entries = same.entries
