-- Judging and carrying the fields one after the other: a field at a time. Assumes nothing.
use Prim.Native.Nat.{ℕ, ◌+◌}
use mathlib.Core.Path.{◌≡◌, refl, sym, ap, ◌∙◌}
use mathlib.Core.List.{List, [], ◌∷◌, ◌++◌}
use native.Mathlib.Omega.{arith}
use lib.ListN.{length, drop, length-append}
use Rattle.std.specs.Prelude.{Result, Ok, Err}
use Rattle.refusal.specs.Refusals.{refusal}
use Rattle.refusal.specs.declared.Cause.{Cause}
use Rattle.refusal.specs.declared.Refusal.{Refusal}
use Rattle.field_table.specs.Table.{Table}
use Rattle.packed_field.specs.declared.Script.{Script}
use Rattle.packed_field.specs.declared.Item.{Item}
use Rattle.packed_field.specs.Items.{place_item, judge_item}
use Rattle.packed_field.proofs.Found.{judged_placed}
use Rattle.packed_link.specs.declared.Translated.{Translated}
use Rattle.packed_link.specs.Link.{translated, item_carried, fields_judged, fields_carried}
use Rattle.packed_link.proofs.Items.{item_long}

-- one field more
module _ (S : Script) (t : Table) (f : ℕ) (fs s : List ℕ) where
  pub fields_refused : (at w : ℕ) (c : Cause) → judge_item S t f s ≡ Err c → fields_judged S t at w (f ∷ fs) s ≡ Err (refusal c f at)
  unfolding fields_judged
  fields_refused at w c e = rw (fields_judged, e)

  pub carried_refused : (c : Cause) → judge_item S t f s ≡ Err c → fields_carried S t (f ∷ fs) s ≡ []
  unfolding fields_carried
  carried_refused c e = rw (fields_carried, e)

  module _ (i : Item) (e : judge_item S t f s ≡ Ok i) where
    pub fields_good : (at w : ℕ) → fields_judged S t at w (f ∷ fs) s ≡ fields_judged S t (at + (i.start + i.size)) (w + i.carried) fs (drop (i.start + i.size) s)
    unfolding fields_judged
    fields_good at w = rw (fields_judged, e)

    pub carried_good : fields_carried S t (f ∷ fs) s ≡ item_carried S t f i.start i.count i.size s ++ fields_carried S t fs (drop (i.start + i.size) s)
    unfolding fields_carried
    carried_good = rw (fields_carried, e)

pub never : (o : Result Translated Refusal) (d : Translated) (r : Refusal) → o ≡ Err r → o ≡ Ok d → ⊥
never o d r x y = let z : ◌≡◌ {A = ℕ} 0 1 = cc in omega arith

pub by_item : {P : Type 0} (o : Result Item Cause) → ((c : Cause) → o ≡ Err c → P) → ((i : Item) → o ≡ Ok i → P) → P
by_item (Err c) x y = x c refl
by_item (Ok i) x y = y i refl

-- where all fields are good, placing the first gives what judging it gives
pub first_placed : (S : Script) (t : Table) (at w f : ℕ) (fs s : List ℕ) (d : Translated) → fields_judged S t at w (f ∷ fs) s ≡ Ok d → place_item S t f s ≡ judge_item S t f s
first_placed S t at w f fs s d e =
    by_item (judge_item S t f s)
    (λ c r. absurd (never _ d (refusal c f at) (fields_refused S t f fs s at w c r) e))
    (λ i r. judged_placed S t f s i.start i.count i.size i.carried r ∙ sym r)

-- what is to be written is what was counted
pub carried_counted : (S : Script) (t : Table) (at w : ℕ) (fs s : List ℕ) (d : Translated) → fields_judged S t at w fs s ≡ Ok d → d.written ≡ w + length (fields_carried S t fs s)
unfolding fields_judged fields_carried
carried_counted S t at w [] s d e = let z : translated at w ≡ d = cc in omega (arith, ap (λ (x : Translated). x.written) z)
carried_counted S t at w (f ∷ fs) s d e =
    by_item (judge_item S t f s)
    (λ c r. absurd (never _ d (refusal c f at) (fields_refused S t f fs s at w c r) e))
    (λ i r.
    let h = carried_counted S t (at + (i.start + i.size)) (w + i.carried) fs (drop (i.start + i.size) s) d (sym (fields_good S t f fs s i r at w) ∙ e) in
    let l = ap length (carried_good S t f fs s i r) ∙ length-append (item_carried S t f i.start i.count i.size s) (fields_carried S t fs (drop (i.start + i.size) s)) in
    omega (arith, h, l, item_long S t f s i r))
