-- An item of the language and a content that the exact writer takes are the same. Assumes nothing.
use Prim.Native.Nat.{ℕ, ◌+◌}
use mathlib.Core.Path.{◌≡◌, refl, sym, ap, ◌∙◌}
use mathlib.Core.Bool.{Bool, true, false}
use mathlib.Core.List.{List, [], ◌∷◌, ◌++◌, append_assoc}
use native.Mathlib.Omega.{arith}
use lib.ListN.{length, drop, length-append}
use lib.Seq.{take-append_seam, drop_at}
use Rattle.octets.specs.Lists.{either, all}
use Rattle.octets.specs.Numbers.{is_ascii, decimal}
use Rattle.octets.proofs.Cases.{by_bool, by_eq}
use Rattle.octets.proofs.Numbers.{digits_number, digits_length, digits_between}
use Rattle.refusal.specs.Refusals.{good}
use Rattle.field_table.specs.Table.{Table, is_binary, Small}
use Rattle.field_write.specs.Fields.{exact_fault, field_bytes}
use Rattle.field_write.proofs.Allowed.{exact_passed, exact_passes, exact_is_clean}
use Rattle.field_write.proofs.Cleaned.{exact_unpadded, digits_spell}
use Rattle.message_language.specs.Language.{Item}
use Rattle.message_contents.specs.Contents.{content_of}

-- The exact writer takes an item of the language, and writes its digits and its content.
module _ (t : Table) (f : ℕ) (ds c : List ℕ) (i : Item t f ds c) where
  pub item_exact : exact_fault t f c ≡ good
  item_exact =
      exact_passes t f c
      (record {
        fixed = i.fixed;
        clean = record { most = i.allowed; text = by_bool (is_binary (t.class f)) (λ y. rw y) (λ n. rw n (i.text n)) };
      })

  empty : (l : List ℕ) → length l ≡ 0 → l ≡ []
  empty [] h = refl
  empty (x ∷ l) h = absurd (omega arith)

  pub digits_are : decimal (t.width f) (length c) ≡ ds
  digits_are =
      by_eq (t.width f) 0
      (λ z. empty (decimal (t.width f) (length c)) (digits_length 10 48 (t.width f) (length c) ∙ z) ∙ sym (empty ds (i.width ∙ z)))
      (λ n. rw (i.spelt n, ← i.width) (digits_number 10 48 57 (omega arith) (omega arith) ds i.digits))

  pub item_bytes : field_bytes t f c ≡ ds ++ c
  item_bytes = exact_unpadded t f c item_exact ∙ ap (λ (l : List ℕ). l ++ c) digits_are

-- a content at its place
pub content_at : (pre ds c rest v : List ℕ) (at : ℕ) → length pre ≡ at → v ≡ pre ++ (ds ++ (c ++ rest)) → content_of v (at + length ds) (length c) ≡ c
content_at pre ds c rest v at l e =
    let j : v ≡ (pre ++ ds) ++ (c ++ rest) = e ∙ sym (append_assoc pre ds (c ++ rest)) in
    let d : drop (at + length ds) v ≡ c ++ rest = rw j (drop_at (pre ++ ds) (c ++ rest) (at + length ds) (omega (arith, length-append pre ds, l))) in
    rw d (take-append_seam c rest)

-- And a content that it takes is an item, with the digits that it writes.
pub item : (t : Table) → Small t → (f : ℕ) (c : List ℕ) → exact_fault t f c ≡ good → Item t f (decimal (t.width f) (length c)) c
item t small f c e =
    let x = exact_passed t f c e in
    record {
      width = digits_length 10 48 (t.width f) (length c);
      digits = digits_between 10 48 57 (t.width f) (length c) (omega arith) (omega arith);
      fixed = x.fixed;
      spelt = λ n. sym (digits_spell t f c small (exact_is_clean t f c e) n);
      allowed = x.clean.most;
      text = λ n. let q : either false (all is_ascii c) ≡ true = ap (λ (b : Bool). either b (all is_ascii c)) (sym n) ∙ x.clean.text in q;
    }
