-- Counts of a content, with the facts as the code has them, and how small they are. Assumes nothing.
use Prim.Native.Nat.{ℕ, ◌+◌, ◌≤◌}
use mathlib.Core.Path.{◌≡◌, sym, ap, ◌∙◌}
use mathlib.Core.Bool.{true, cond}
use mathlib.Core.List.{List}
use native.Mathlib.Omega.{arith}
use lib.Dec.{leb}
use lib.ListN.{length, take, drop}
use lib.Seq.{take_at}
use Rattle.octets.specs.Lists.{lay}
use Rattle.octets.specs.Numbers.{decimal_of}
use Rattle.octets.proofs.Cases.{by_bool}
use Rattle.octets.proofs.Lists.{placed_fits}
use Rattle.field_table.specs.Codes.{decoded}
use Rattle.field_table.specs.declared.Class.{Class}
use Rattle.field_read.specs.Items.{length_of}
use Rattle.field_read.proofs.Items.{length_fixed, length_spelt}
use Rattle.packed_field.specs.declared.Script.{Script}
use Rattle.packed_field.specs.declared.Script.TheVariants.{Plain, Packed}
use Rattle.packed_field.specs.Scripts.{size_of, is_spelt, digits_of, spelt_in, carried, carried_into}
use Rattle.packed_field.specs.Items.{is_numeric, content_size}
use Rattle.packed_field.proofs.Scripts.{digits_long, carried_placed, size_most_lem}

-- `content_count`
front : (r z : List ℕ) (w : ℕ) → length r ≡ w → take w (lay r z) ≡ r
unfolding lay
front r z w long = take_at r (drop (length r) z) w long

pub count_fixed : (S : Script) (w m : ℕ) (s : List ℕ) → w ≡ 0 → m ≡ length_of w m (digits_of S w s)
count_fixed S w m s z = length_fixed w m (digits_of S w s) z

module _ (S : Script) (w m n : ℕ) (s : List ℕ) (few : w ≤ 3) (good : is_spelt S w s ≡ true) (some : w ≡ 0 → ⊥) where
  count_spelt : (p : List ℕ) → p ≡ digits_of S w s → n ≡ cond (leb (length p) 16) (decimal_of p) 0 → n ≡ length_of w m (digits_of S w s)
  count_spelt p is e = rw (← is) (length_spelt w m n p (omega (arith, ap length is ∙ digits_long S w s good)) some e)

  pub count_plain : S ≡ Plain → n ≡ cond (leb (length s) 16) (decimal_of s) 0 → n ≡ length_of w m (digits_of S w s)
  unfolding digits_of
  count_plain is e = count_spelt s (ap (λ (x : Script). digits_of x w s) (sym is)) e

  -- o are three bytes to whose front the digits were carried
  pub count_packed : (o z : List ℕ) → S ≡ Packed → o ≡ carried_into S w s z → length z ≡ 3
      → n ≡ cond (leb (length (take w o)) 16) (decimal_of (take w o)) 0 → n ≡ length_of w m (digits_of S w s)
  unfolding carried spelt_in
  count_packed o z is laid three e =
      let plain : carried S w s ≡ digits_of S w s = rw is in
      let long : length (carried S w s) ≡ w = ap length plain ∙ digits_long S w s good in
      let over : o ≡ lay (carried S w s) z = laid ∙ carried_placed S w s z good ∙ placed_fits (carried S w s) z w long (omega (arith, three)) in
      count_spelt (take w o) (rw over (front (carried S w s) z w long ∙ plain)) e

-- what it takes in the other script is a small number
pub across_small : (S : Script) (c : Class) (w m n p q : ℕ) → w ≤ 3 → m ≤ 1023 → n ≤ m → p ≡ size_of S w → q ≡ content_size S c n → p + q ≤ 1026
unfolding content_size
across_small S c w m n p q few small short is-p is-q =
    let a = size_most_lem S w in
    let b = size_most_lem S n in
    by_bool (is_numeric c)
    (λ y. let e : q ≡ size_of S n = is-q ∙ rw y in omega arith)
    (λ y. let e : q ≡ n = is-q ∙ rw y in omega arith)

pub most_small : (cs : List ℕ) (f m : ℕ) → m ≡ (decoded cs).most f → m ≤ 1023
unfolding decoded
most_small cs f m e = omega (arith, e)
