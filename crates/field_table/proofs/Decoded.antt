-- Codes stand for the table that rows make, at every number: one computed test for each table. Assumes nothing.
use Prim.Native.Nat.{ℕ, ◌/◌, ◌%◌, ◌≤◌}
use mathlib.Core.Path.{◌≡◌, refl, sym, ap, ◌∙◌}
use mathlib.Core.Bool.{Bool}
use mathlib.Core.List.{List}
use native.Mathlib.Omega.{arith}
use lib.Dec.{T, eqb, eqb→eq}
use lib.ListN.{length, get_or, get_or-eq_default}
use Rattle.octets.proofs.Cases.{by_lt}
use Rattle.octets.proofs.Tables.{every, entry}
use Rattle.field_table.specs.Table.{Row, none, find, table_of}
use Rattle.field_table.specs.Codes.{class_by_code, code_in, decoded, house_codes}
use Rattle.field_table.specs.House.{house_rows, house}
use Rattle.field_table.proofs.Codes.{code_of, same_class}
use Rattle.field_table.proofs.Rows.{Bounded, all_rows, ends_by, found_none}

-- the code x says of field k what the rows say
abbrev pub says_width : List Row → ℕ → ℕ → Bool
says_width rs k x = eqb (x / 1024 % 4) (find rs k).width

abbrev pub says_most : List Row → ℕ → ℕ → Bool
says_most rs k x = eqb (x % 1024) (find rs k).most

abbrev pub says_class : List Row → ℕ → ℕ → Bool
says_class rs k x = eqb (code_of (class_by_code (x / 4096))) (code_of (find rs k).class)

module _ (cs : List ℕ) (rs : List Row) (long : length cs ≡ 193) (ended : T (all_rows (ends_by 192) rs)) where
  beyond : (k : ℕ) → 193 ≤ k → get_or cs k 0 ≡ 0
  beyond k h = get_or-eq_default cs 0 {n = k} (omega (arith, long))

  none_there : (k : ℕ) → 193 ≤ k → none ≡ find rs k
  none_there k h = sym (found_none 192 rs k ended h)

  width_is : T (every (says_width rs) 0 cs) → (k : ℕ) → (decoded cs).width k ≡ (table_of rs).width k
  unfolding decoded code_in table_of
  width_is t k =
      by_lt k 193
      (λ h. eqb→eq (get_or cs k 0 / 1024 % 4) (find rs k).width (entry (says_width rs) cs t k (omega (arith, long))))
      (λ h. ap (λ (x : ℕ). x / 1024 % 4) (beyond k h) ∙ ap (λ (r : Row). r.width) (none_there k h))

  most_is : T (every (says_most rs) 0 cs) → (k : ℕ) → (decoded cs).most k ≡ (table_of rs).most k
  unfolding decoded code_in table_of
  most_is t k =
      by_lt k 193
      (λ h. eqb→eq (get_or cs k 0 % 1024) (find rs k).most (entry (says_most rs) cs t k (omega (arith, long))))
      (λ h. ap (λ (x : ℕ). x % 1024) (beyond k h) ∙ ap (λ (r : Row). r.most) (none_there k h))

  class_is : T (every (says_class rs) 0 cs) → (k : ℕ) → (decoded cs).class k ≡ (table_of rs).class k
  unfolding decoded code_in table_of
  class_is t k =
      by_lt k 193
      (λ h.
      same_class _ _
      (eqb→eq (code_of (class_by_code (get_or cs k 0 / 4096))) (code_of (find rs k).class) (entry (says_class rs) cs t k (omega (arith, long)))))
      (λ h. ap (λ (x : ℕ). class_by_code (x / 4096)) (beyond k h) ∙ ap (λ (r : Row). r.class) (none_there k h))

  pub decodes : T (every (says_width rs) 0 cs) → T (every (says_most rs) 0 cs) → T (every (says_class rs) 0 cs) → decoded cs ≡ table_of rs
  decodes w m c = λ i. record { width = λ f. width_is w f i; most = λ f. most_is m f i; class = λ f. class_is c f i }

pub house_decoded : decoded house_codes ≡ house
unfolding house_codes house house_rows
house_decoded = decodes house_codes house_rows refl tt tt tt tt

pub decoded_bounded : (rs : List ℕ) → Bounded (decoded rs)
unfolding decoded
decoded_bounded rs = record { width_small = λ f. omega arith; most_small = λ f. omega arith }
