-- The entries that a walk passes: what each has, and the set of their fields, gathered one by one. Assumes nothing.
use Prim.Native.Nat.{ℕ, zero, suc}
use mathlib.Core.Path.{◌≡◌, refl, sym, ◌∙◌}
use mathlib.Core.Bool.{true}
use mathlib.Core.List.{List, [], ◌∷◌}
use lib.ListN.{length, drop}
use Rattle.octets.specs.Lists.{all}
use Rattle.bitmap.specs.Bitmaps.{is_field, no_fields, with_field, set_of, set_from}
use Rattle.bitmap.proofs.Sets.{set_is}
use Rattle.message_language.specs.Language.{Entry, entry}
use Rattle.message_contents.specs.Contents.{numbers_of}
use Rattle.message_contents.proofs.Made.{is_field_lem}
use Rattle.message_notes.specs.Dialect.{Form, note_size, head_size, Dialect}
use Rattle.message_notes.specs.Notes.{count_in}
use Rattle.message_walk.specs.Walk.{Fault, judged, passed, entries_in}
use Rattle.message_walk.proofs.Steps.{by_judged, Good, passing, passed_bad, passed_end, passed_more}

unfoldable pub AllGood : Fault → ℕ → List Entry → Type 0
AllGood p m [] = Unit {0}
AllGood p m (e ∷ es) = ((last : ℕ) × Good p m last e.number e.offset e.size) × AllGood p m es

pub all_good : (F : Form) (p : Fault) (m k last : ℕ) (s : List ℕ) → AllGood p m (passed F p m k last s)
unfolding AllGood passed
all_good F p m zero last s = tt
all_good F p m (suc k) last s =
    by_judged (judged F p m last s)
    (λ x e. rw (passed_bad F p m k last s x e) tt)
    (λ u e. rw (passed_end F p m k last s u e) tt)
    (λ f a c e. rw (passed_more F p m k last s f a c e) ((last, (passing F p m last s f a c e).good), all_good F p m k f (drop (note_size F) s)))

pub entries_good : (d : Dialect) (p : Fault) (n : List ℕ) → AllGood p (count_in n) (entries_in d p n)
unfolding entries_in
entries_good d p n = all_good d.form p (count_in n) (length n) 0 (drop head_size n)

-- their numbers are fields, and so they make a set
pub numbers_are : (p : Fault) (m : ℕ) (es : List Entry) → AllGood p m es → all is_field (numbers_of es) ≡ true
unfolding AllGood numbers_of
numbers_are p m [] a = refl
numbers_are p m (e ∷ es) a = rw (is_field_lem m a.0.0 e.number a.0.1.allowed) (numbers_are p m es a.1)

-- The fields put into the set s and those of the entries still to come make the whole set.
pub record Naming (whole : List Entry) (s : List ℕ) (es : List Entry) : Type 0 where
  pub same : set_from no_fields (numbers_of whole) ≡ set_from s (numbers_of es)

module _ {whole : List Entry} {s : List ℕ} where
  pub naming_first : s ≡ no_fields → Naming whole s whole
  naming_first e = record { same = rw e }

  pub naming_next : {f a z : ℕ} {es : List Entry} {s' : List ℕ} → Naming whole s (entry f a z ∷ es) → s' ≡ with_field s f → Naming whole s' es
  unfolding set_from numbers_of
  naming_next c e = record { same = c.same ∙ rw e }

  pub naming_done : all is_field (numbers_of whole) ≡ true → Naming whole s [] → s ≡ set_of (numbers_of whole)
  unfolding set_from numbers_of
  naming_done a c = sym (sym (set_is (numbers_of whole) a) ∙ c.same)
