-- Padding, and the bytes of a field: the ends of the functions that write one, with the facts as the code has them. Assumes nothing.
use Prim.Native.Nat.{ℕ, ◌-◌, ◌≤◌, ◌<◌}
use mathlib.Core.Path.{◌≡◌, sym, ◌∙◌}
use mathlib.Core.Bool.{Bool, true, false}
use mathlib.Core.List.{List, ◌++◌, append-nil}
use native.Mathlib.Omega.{arith}
use lib.Dec.{eqb}
use lib.ListN.{length, replicate}
use borrow.Author.Tests.{eq-eqb, ne_eqb, le-leb, lt-leb}
use Rattle.octets.specs.Lists.{placed}
use Rattle.octets.specs.Numbers.{digits, decimal}
use Rattle.octets.proofs.Cases.{by_bool}
use Rattle.field_table.specs.Table.{Table}
use Rattle.field_table.specs.declared.Class.{Class}
use Rattle.field_write.specs.Fields.{missing, pad_byte, pads_left, padded, cleaned, field_bytes, field_into}

-- what is missing: nothing of a variable content, and of a fixed one what the table has more
pub missing_variable : (t : Table) (f n : ℕ) → (t.width f ≡ 0 → ⊥) → missing t f n ≡ 0
unfolding missing
missing_variable t f n h = rw (ne_eqb (t.width f) 0 h)

pub missing_fixed : (t : Table) (f n : ℕ) → t.width f ≡ 0 → missing t f n ≡ t.most f - n
unfolding missing
missing_fixed t f n z = rw (eq-eqb (t.width f) 0 z)

pub missing_most : (t : Table) (f n : ℕ) → missing t f n ≤ t.most f
unfolding missing
missing_most t f n = by_bool (eqb (t.width f) 0) (λ e. rw e (omega arith)) (λ e. rw e (omega arith))

pub padded_none : (c : Class) (s : List ℕ) → padded c 0 s ≡ s
unfolding padded
padded_none c s = by_bool (pads_left c) (λ e. rw e) (λ e. rw e (append-nil s))

-- the ends of `put_padded`: e is the output d once the padding and the content are placed
module _ (c : Class) (k x : ℕ) (s d e : List ℕ) (flag : Bool) (byte : x ≡ pad_byte c) (side : flag ≡ pads_left c) where
  pub padded_left : flag ≡ true → e ≡ placed (replicate k x ++ s) d → e ≡ placed (padded c k s) d
  unfolding padded
  padded_left h p = rw (← side, h, ← byte) p

  pub padded_right : flag ≡ false → e ≡ placed (s ++ replicate k x) d → e ≡ placed (padded c k s) d
  unfolding padded
  padded_right h p = rw (← side, h, ← byte) p

-- as the code has it
none_variable : (t : Table) (f w n : ℕ) → w ≡ t.width f → (w ≡ 0 → ⊥) → 0 ≡ missing t f n
none_variable t f w n width h = sym (missing_variable t f n (λ z. h (width ∙ z)))

-- the ends of `put_field`
pub into_fits : (t : Table) (f : ℕ) (s d : List ℕ) → length s ≤ t.most f → field_into t f s d ≡ placed (field_bytes t f s) d
unfolding field_into
into_fits t f s d h = rw (le-leb (length s) (t.most f) h)

module _ (t : Table) (f m : ℕ) (s d : List ℕ) (most : m ≡ t.most f) where
  pub put_long : m < length s → d ≡ field_into t f s d
  unfolding field_into
  put_long h = rw (lt-leb (length s) (t.most f) (omega (arith, most, h)))

  module _ (short : length s ≤ m) (w : ℕ) (e : List ℕ) (width : w ≡ t.width f) where
    fits : field_into t f s d ≡ placed (field_bytes t f s) d
    fits = into_fits t f s d (omega (arith, most, short))

    pub put_fixed : (c : Class) (k : ℕ) → w ≡ 0 → k ≡ missing t f (length s) → c ≡ t.class f → e ≡ placed (padded c k s) d → e ≡ field_into t f s d
    unfolding field_bytes cleaned digits
    put_fixed c k z pad class p = let q : e ≡ placed (field_bytes t f s) d = rw (← width, z, ← class, ← pad) p in q ∙ sym fits

    pub put_variable : (w ≡ 0 → ⊥) → e ≡ placed (decimal w (length s) ++ s) d → e ≡ field_into t f s d
    unfolding field_bytes cleaned
    put_variable h p = let q : e ≡ placed (field_bytes t f s) d = rw (← none_variable t f w (length s) width h, padded_none (t.class f) s, ← width) p in q ∙ sym fits
