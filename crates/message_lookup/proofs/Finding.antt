-- The ends of lookup and a turn of its loop, with the facts as the code has them. Assumes nothing.
use Prim.Native.Nat.{ℕ, ◌+◌, ◌≤◌}
use mathlib.Core.Path.{◌≡◌, refl, sym, ap, ◌∙◌}
use mathlib.Core.List.{List, [], ◌∷◌}
use native.Mathlib.Omega.{arith}
use lib.ListN.{length}
use borrow.Author.Tests.{eq-eqb, ne_eqb}
use Rattle.std.specs.Prelude.{Result, Ok, Err}
use Rattle.octets.proofs.Cases.{by_eq}
use Rattle.refusal.specs.declared.Refusal.{Refusal}
use Rattle.message_language.specs.Language.{Entry, entry}
use Rattle.message_notes.specs.Dialect.{head_size, Dialect}
use Rattle.message_notes.specs.Notes.{count_in}
use Rattle.message_walk.specs.declared.Ended.{Ended}
use Rattle.message_walk.specs.Walk.{walked, entries_in, listed_in}
use Rattle.message_walk.specs.Faults.{any, within}
use Rattle.message_walk.proofs.Heads.{good_head, ended_head}
use Rattle.message_walk.proofs.Naming.{AllGood, entries_good}
use Rattle.message_walk.proofs.Weaker.{walked_listed}
use Rattle.message_walk.proofs.Within.{is_inside}
use Rattle.message_lookup.specs.declared.Place.{Place}
use Rattle.message_lookup.specs.Lookup.{place, found_in, found_by, looked_up}

-- `find`: looking through the whole is looking through what is still to come.
pub record Finding (f end : ℕ) (whole es : List Entry) : Type 0 where
  pub same : found_in f end whole ≡ found_in f end es

module _ {f end : ℕ} {whole : List Entry} where
  pub finding_first : Finding f end whole whole
  finding_first = record { same = refl }

  pub finding_none : {r : Result Place Refusal} → Finding f end whole [] → r ≡ found_in f end [] → r ≡ found_in f end whole
  finding_none c e = e ∙ sym c.same

  module _ {g a z : ℕ} {es : List Entry} (c : Finding f end whole (entry g a z ∷ es)) where
    pub finding_here : g ≡ f → Ok (place a z) ≡ found_in f end whole
    unfolding found_in
    finding_here e = sym (c.same ∙ rw (found_in, eq-eqb g f e))

    pub finding_next : (g ≡ f → ⊥) → Finding f end whole es
    unfolding found_in
    finding_next ne = record { same = c.same ∙ rw (found_in, ne_eqb g f ne) }

-- `look_up`
module _ (d : Dialect) (v n : List ℕ) where
  pub looked_refused : (f : ℕ) {r : Refusal} → Err r ≡ walked d (within v any) n → Err r ≡ looked_up d v n f
  unfolding looked_up found_by
  looked_refused f e = rw (looked_up, ← e)

  module _ {x : Ended} (e : Ok x ≡ walked d (within v any) n) where
    pub looked_head : head_size ≤ length n
    looked_head = (good_head d.most n (ended_head d (within v any) n x (sym e))).whole

    pub looked_found : (f : ℕ) {r : Result Place Refusal} → r ≡ found_in f x.at (listed_in d.form n) → r ≡ looked_up d v n f
    unfolding looked_up found_by
    looked_found f {r} i = rw (looked_up, ← e) (i ∙ ap (found_in f x.at) (walked_listed d (within v any) n x (sym e)))

-- A content that is found lies within the values.
found_inside : (v : List ℕ) (m f end : ℕ) (es : List Entry) → AllGood (within v any) m es → (p : Place) → found_in f end es ≡ Ok p → p.offset + p.length ≤ length v
unfolding AllGood found_in
found_inside v m f end [] a p e = let y : ◌≡◌ {A = ℕ} 0 1 = cc in absurd (omega arith)
found_inside v m f end (x ∷ es) a p e =
    by_eq x.number f
    (λ h.
    let s : Ok (place x.offset x.size) ≡ Ok p = rw (eq-eqb x.number f h) at e in
    let q : place x.offset x.size ≡ p = cc in
    omega (arith, (is_inside v any x a.0.1.ruled).place, ap (λ (k : Place). k.offset) q, ap (λ (k : Place). k.length) q))
    (λ h. found_inside v m f end es a.1 p (rw (ne_eqb x.number f h) at e))

by_found : (d : Dialect) (v n : List ℕ) (f : ℕ) (p : Place) (w : Result Ended Refusal) → found_by w f (entries_in d (within v any) n) ≡ Ok p → p.offset + p.length ≤ length v
unfolding found_by
by_found d v n f p (Err r) h = let y : ◌≡◌ {A = ℕ} 0 1 = cc in absurd (omega arith)
by_found d v n f p (Ok x) h = found_inside v (count_in n) f x.at (entries_in d (within v any) n) (entries_good d (within v any) n) p h

pub looked_inside : (d : Dialect) (v n : List ℕ) (f : ℕ) (p : Place) → looked_up d v n f ≡ Ok p → p.offset + p.length ≤ length v
unfolding looked_up
looked_inside d v n f p e = by_found d v n f p (walked d (within v any) n) e
