-- A walk, a note at a time: over any rule, values and count of bitmaps. Assumes nothing.
use Prim.Native.Nat.{ℕ, suc, ◌+◌, ◌≤◌}
use mathlib.Core.Path.{◌≡◌, refl, sym, ap, ◌∙◌}
use mathlib.Core.Bool.{Bool, true, false}
use mathlib.Core.List.{List, [], ◌∷◌}
use native.Mathlib.Omega.{arith}
use lib.ListN.{length, take, drop, get_or}
use borrow.Author.Tests.{eq-eqb, ne_eqb, lt-ltb, le-ltb}
use Rattle.std.specs.Prelude.{Result, Ok, Err}
use Rattle.octets.proofs.Cases.{by_bool, by_lt, by_eq}
use Rattle.octets.specs.Numbers.{big_endian_of}
use Rattle.refusal.specs.Numbers.{note_malformed, number_not_allowed}
use Rattle.refusal.specs.Refusals.{refusal, good}
use Rattle.refusal.proofs.Tests.{by_test}
use Rattle.message_language.specs.Language.{entry}
use Rattle.message_contents.specs.Contents.{number_allowed}
use Rattle.message_notes.specs.Dialect.{Form, note_size, end_kind, end_size}
use Rattle.message_notes.specs.Notes.{is_marked, field_note_at, end_note_at, note_at}
use Rattle.message_notes.specs.declared.Note.{Note}
use Rattle.message_notes.specs.declared.Note.TheVariants.{Field as FieldNote, End as EndNote, Malformed}
use Rattle.message_walk.specs.declared.Judged.{Judged}
use Rattle.message_walk.specs.declared.Judged.TheVariants.{Passed, End}
use Rattle.message_walk.specs.declared.Flaw.{Flaw}
use Rattle.message_walk.specs.Walk.{flaw, ended, Fault, judged_field, judged, passed, ending, listed_from}

-- what stands at the front of the notes
pub by_note : {P : Type 0} (o : Note) → (o ≡ Malformed → P) → ((u : ℕ) → o ≡ EndNote u → P) → ((f a n : ℕ) → o ≡ FieldNote f a n → P) → P
by_note Malformed x y z = x refl
by_note (EndNote u) x y z = y u refl
by_note (FieldNote f a n) x y z = z f a n refl

pub by_judged : {P : Type 0} (o : Result Judged Flaw) → ((w : Flaw) → o ≡ Err w → P) → ((u : ℕ) → o ≡ Ok (End u) → P) → ((f a n : ℕ) → o ≡ Ok (Passed f a n) → P) → P
by_judged (Err w) x y z = x w refl
by_judged (Ok (End u)) x y z = y u refl
by_judged (Ok (Passed f a n)) x y z = z f a n refl

no_field : (o : Note) (f a n : ℕ) → o ≡ Malformed → o ≡ FieldNote f a n → ⊥
no_field o f a n p q = let z : ◌≡◌ {A = ℕ} 0 1 = cc in omega arith

end_no_field : (o : Note) (u f a n : ℕ) → o ≡ EndNote u → o ≡ FieldNote f a n → ⊥
end_no_field o u f a n p q = let z : ◌≡◌ {A = ℕ} 0 1 = cc in omega arith

-- the judge, by what it finds
module _ (F : Form) (p : Fault) (m last : ℕ) (s : List ℕ) where
  pub judged_malformed : note_at F s ≡ Malformed → judged F p m last s ≡ Err (flaw note_malformed 0)
  unfolding judged
  judged_malformed e = rw (judged, e)

  pub judged_end : (u : ℕ) → note_at F s ≡ EndNote u → judged F p m last s ≡ Ok (End u)
  unfolding judged
  judged_end u e = rw (judged, e)

  pub judged_note : (f a n : ℕ) → note_at F s ≡ FieldNote f a n → judged F p m last s ≡ judged_field (is_marked F f s) p m last f a n
  unfolding judged
  judged_note f a n e = rw (judged, e)

-- What it means that a field's note passes.
pub record Good (p : Fault) (m last f a n : ℕ) : Type 0 where
  pub allowed : number_allowed m last f ≡ true
  pub ruled : p (entry f a n) ≡ good

never : (o : Result Judged Flaw) (w : Flaw) (f a n : ℕ) → o ≡ Err w → o ≡ Ok (Passed f a n) → ⊥
never o w f a n p q = let z : ◌≡◌ {A = ℕ} 0 1 = cc in omega arith

never_end : (o : Result Judged Flaw) (u f a n : ℕ) → o ≡ Ok (End u) → o ≡ Ok (Passed f a n) → ⊥
never_end o u f a n p q = let z : ◌≡◌ {A = ℕ} 0 1 = cc in omega arith

no_end : (o : Result Judged Flaw) (w : Flaw) (u : ℕ) → o ≡ Err w → o ≡ Ok (End u) → ⊥
no_end o w u p q = let z : ◌≡◌ {A = ℕ} 0 1 = cc in omega arith

module _ (b : Bool) (p : Fault) (m last f a n : ℕ) where
  pub passes : b ≡ true → Good p m last f a n → judged_field b p m last f a n ≡ Ok (Passed f a n)
  unfolding judged_field
  passes y g = rw (g.allowed, y, g.ruled)

  -- a number that is not allowed is refused before anything else is asked
  pub unnumbered : number_allowed m last f ≡ false → judged_field b p m last f a n ≡ Err (flaw number_not_allowed f)
  unfolding judged_field
  unnumbered al = rw al

  -- by what it finds: a number that is not allowed, a mark that is not the field's, a fault, or nothing
  pub by_field : {P : Type 0} → ((w : Flaw) → judged_field b p m last f a n ≡ Err w → P) → (b ≡ true → Good p m last f a n → P) → P
  unfolding judged_field
  by_field x y =
      by_bool (number_allowed m last f)
      (λ al. by_bool b
      (λ k. by_test (p (entry f a n))
      (λ z. y k (record { allowed = al; ruled = z }))
      (λ c z. x (flaw c f) (rw (al, k, z))))
      (λ k. x (flaw note_malformed 0) (rw (al, k))))
      (λ al. x (flaw number_not_allowed f) (unnumbered al))

-- A note that passes is a field's, whole, with the mark of its field.
pub record Passing (F : Form) (p : Fault) (m last : ℕ) (s : List ℕ) (f a n : ℕ) : Type 0 where
  pub note : note_at F s ≡ FieldNote f a n
  pub marked : is_marked F f s ≡ true
  pub good : Good p m last f a n

pub passing : (F : Form) (p : Fault) (m last : ℕ) (s : List ℕ) (f a n : ℕ) → judged F p m last s ≡ Ok (Passed f a n) → Passing F p m last s f a n
passing F p m last s f a n e =
    by_note (note_at F s)
    (λ h. absurd (never _ (flaw note_malformed 0) f a n (judged_malformed F p m last s h) e))
    (λ u h. absurd (never_end _ u f a n (judged_end F p m last s u h) e))
    (λ f' a' n' h.
    let i = judged_note F p m last s f' a' n' h in
    by_field (is_marked F f' s) p m last f' a' n'
    (λ w j. absurd (never _ w f a n (i ∙ j) e))
    (λ k g.
    let q : ◌≡◌ {A = Result Judged Flaw} (Ok (Passed f' a' n')) (Ok (Passed f a n)) = sym (i ∙ passes (is_marked F f' s) p m last f' a' n' k g) ∙ e in
    let x : f' ≡ f = cc in
    let y : a' ≡ a = cc in
    let z : n' ≡ n = cc in
    record { note = h ∙ rw (x, y, z); marked = rw (← x) k; good = rw (← x, ← y, ← z) g }))

pub is_passing : (F : Form) (p : Fault) (m last : ℕ) (s : List ℕ) (f a n : ℕ) → Passing F p m last s f a n → judged F p m last s ≡ Ok (Passed f a n)
is_passing F p m last s f a n g = judged_note F p m last s f a n g.note ∙ passes (is_marked F f s) p m last f a n g.marked g.good

-- A walk that ends does so at an end note.
pub ends_note : (F : Form) (p : Fault) (m last : ℕ) (s : List ℕ) (u : ℕ) → judged F p m last s ≡ Ok (End u) → note_at F s ≡ EndNote u
ends_note F p m last s u e =
    by_note (note_at F s)
    (λ h. absurd (no_end _ (flaw note_malformed 0) u (judged_malformed F p m last s h) e))
    (λ w h. let i : ◌≡◌ {A = Result Judged Flaw} (Ok (End w)) (Ok (End u)) = sym (judged_end F p m last s w h) ∙ e in let j : w ≡ u = cc in h ∙ ap EndNote j)
    (λ f a n h.
    let i = judged_note F p m last s f a n h in
    by_field (is_marked F f s) p m last f a n
    (λ w j. absurd (no_end _ w u (i ∙ j) e))
    (λ k g. absurd (never_end _ u f a n e (i ∙ passes (is_marked F f s) p m last f a n k g))))

-- a field note is whole
field_whole : (F : Form) (s : List ℕ) (f a n : ℕ) → field_note_at F s ≡ FieldNote f a n → note_size F ≤ length s
unfolding field_note_at
field_whole F s f a n e =
    by_lt (length s) (note_size F)
    (λ h. absurd (no_field _ f a n (rw (lt-ltb (length s) (note_size F) h)) e))
    (λ h. h)

end_no_note : (s : List ℕ) (f a n : ℕ) → end_note_at s ≡ FieldNote f a n → ⊥
unfolding end_note_at
end_no_note s f a n e =
    by_lt (length s) end_size
    (λ h. no_field _ f a n (rw (lt-ltb (length s) end_size h)) e)
    (λ h. end_no_field _ (big_endian_of (take 4 (drop 1 s))) f a n (rw (le-ltb (length s) end_size h)) e)

pub note_whole : (F : Form) (s : List ℕ) (f a n : ℕ) → note_at F s ≡ FieldNote f a n → note_size F ≤ length s
unfolding note_at
note_whole F s f a n e =
    by_eq (get_or s 0 0) F.kind
    (λ h. field_whole F s f a n (rw (eq-eqb (get_or s 0 0) F.kind h) at e))
    (λ h. by_eq (get_or s 0 0) end_kind
    (λ k. absurd (end_no_note s f a n (rw (ne_eqb (get_or s 0 0) F.kind h, eq-eqb (get_or s 0 0) end_kind k) at e)))
    (λ k. absurd (no_field _ f a n (rw (ne_eqb (get_or s 0 0) F.kind h, ne_eqb (get_or s 0 0) end_kind k)) e)))

-- One note more: how a walk ends, and what it passes, where k bytes may be left and some are.
module _ (F : Form) (p : Fault) (m k last at : ℕ) (s : List ℕ) where
  pub ending_bad : (w : Flaw) → judged F p m last s ≡ Err w → ending F p m (suc k) last at s ≡ Err (refusal w.cause w.field at)
  unfolding ending
  ending_bad w e = rw (ending, e)

  pub ending_end : (u : ℕ) → judged F p m last s ≡ Ok (End u) → ending F p m (suc k) last at s ≡ Ok (ended at u)
  unfolding ending
  ending_end u e = rw (ending, e)

  pub ending_more : (f a n : ℕ) → judged F p m last s ≡ Ok (Passed f a n) → ending F p m (suc k) last at s ≡ ending F p m k f (at + note_size F) (drop (note_size F) s)
  unfolding ending
  ending_more f a n e = rw (ending, e)

module _ (F : Form) (p : Fault) (m k last : ℕ) (s : List ℕ) where
  pub passed_bad : (w : Flaw) → judged F p m last s ≡ Err w → passed F p m (suc k) last s ≡ []
  unfolding passed
  passed_bad w e = rw (passed, e)

  pub passed_end : (u : ℕ) → judged F p m last s ≡ Ok (End u) → passed F p m (suc k) last s ≡ []
  unfolding passed
  passed_end u e = rw (passed, e)

  pub passed_more : (f a n : ℕ) → judged F p m last s ≡ Ok (Passed f a n) → passed F p m (suc k) last s ≡ entry f a n ∷ passed F p m k f (drop (note_size F) s)
  unfolding passed
  passed_more f a n e = rw (passed, e)

-- The same of notes that are not judged.
module _ (F : Form) (k : ℕ) (s : List ℕ) where
  pub listed_malformed : note_at F s ≡ Malformed → listed_from F (suc k) s ≡ []
  unfolding listed_from
  listed_malformed e = rw (listed_from, e)

  pub listed_end : (u : ℕ) → note_at F s ≡ EndNote u → listed_from F (suc k) s ≡ []
  unfolding listed_from
  listed_end u e = rw (listed_from, e)

  pub listed_more : (f a n : ℕ) → note_at F s ≡ FieldNote f a n → listed_from F (suc k) s ≡ entry f a n ∷ listed_from F k (drop (note_size F) s)
  unfolding listed_from
  listed_more f a n e = rw (listed_from, e)
