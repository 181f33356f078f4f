-- What holds of every row holds of the row that any number finds. Assumes nothing.
use Prim.Native.Nat.{ℕ, ◌^◌, ◌≤◌, ◌<◌}
use mathlib.Core.Path.{◌≡◌, refl, sym}
use mathlib.Core.List.{List, [], ◌∷◌}
use mathlib.Core.Bool.{Bool, true, false}
use native.Mathlib.Omega.{arith}
use lib.Dec.{T, eqb, leb, ltb, leb→le, ltb→lt}
use borrow.Author.Tests.{lt-leb, ne_eqb}
use Rattle.octets.specs.Lists.{both, either}
use Rattle.octets.proofs.Cases.{false_true}
use Rattle.octets.proofs.Tables.{passed_left, passed_right}
use Rattle.field_table.specs.Table.{Row, Table, none, find, table_of, Small}
use Rattle.field_table.specs.House.{house_rows, house}

-- the test p passes at `none` and at each row
abbrev pub all_rows : (Row → Bool) → List Row → Bool
all_rows p [] = p none
all_rows p (r ∷ rs) = both (p r) (all_rows p rs)

pub found : (p : Row → Bool) (rs : List Row) (f : ℕ) → T (all_rows p rs) → T (p (find rs f))
found p [] f t = t
found p (r ∷ rs) f t = go (both (leb r.first f) (leb f r.last)) (found p rs f (passed_right (p r) (all_rows p rs) t))
  where
    go : (q : Bool) → T (p (find rs f)) → T (p (elim q [ true ↦ r | false ↦ find rs f ]))
    go true h = passed_left (p r) (all_rows p rs) t
    go false h = h

-- no row goes beyond m, so no number beyond m finds one
abbrev pub ends_by : ℕ → Row → Bool
ends_by m r = leb r.last m

pub found_none : (m : ℕ) (rs : List Row) (f : ℕ) → T (all_rows (ends_by m) rs) → m < f → find rs f ≡ none
found_none m [] f t h = refl
found_none m (r ∷ rs) f t h =
    let l : r.last ≤ m = leb→le r.last m (passed_left (ends_by m r) (all_rows (ends_by m) rs) t) in
    go (leb r.first f) (leb f r.last) (lt-leb f r.last (omega arith)) (found_none m rs f (passed_right (ends_by m r) (all_rows (ends_by m) rs) t) h)
  where
    go : (p q : Bool) → q ≡ false → find rs f ≡ none → elim (both p q) [ true ↦ r | false ↦ find rs f ] ≡ none
    go true q z e = rw z e
    go false q z e = e

-- what bounds the sizes that are written: every table that codes stand for has it
pub record Bounded (t : Table) : Type 0 where
  pub width_small : (f : ℕ) → t.width f ≤ 3
  pub most_small : (f : ℕ) → t.most f ≤ 1023

pub small_bounded : (t : Table) → Small t → Bounded t
small_bounded t s = record { width_small = s.width_small; most_small = λ f. omega (arith, s.most_small f) }

abbrev spells : Row → Bool
spells r = either (eqb r.width 0) (ltb r.most (10 ^ r.width))

spelt : (r : Row) → T (spells r) → (r.width ≡ 0 → ⊥) → r.most < 10 ^ r.width
spelt r t h = go (eqb r.width 0) (ne_eqb r.width 0 h) t
  where
    go : (q : Bool) → q ≡ false → T (either q (ltb r.most (10 ^ r.width))) → r.most < 10 ^ r.width
    go true e u = absurd (false_true (sym e))
    go false e u = ltb→lt r.most (10 ^ r.width) u

pub house_small : Small house
unfolding house table_of house_rows
house_small =
    record {
      width_small = λ f. leb→le (find house_rows f).width 3 (found (λ (r : Row). leb r.width 3) house_rows f tt);
      most_small = λ f. leb→le (find house_rows f).most 999 (found (λ (r : Row). leb r.most 999) house_rows f tt);
      most_spelt = λ f. spelt (find house_rows f) (found spells house_rows f tt);
    }
