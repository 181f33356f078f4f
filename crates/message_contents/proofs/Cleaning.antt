-- Contents that were cleaned: their numbers, and their bytes as the writers write them. Assumes nothing.
use Prim.Native.Nat.{ℕ}
use mathlib.Core.Path.{◌≡◌, refl, sym, ap, ◌∙◌}
use mathlib.Core.List.{List, [], ◌∷◌, ◌++◌, append_assoc}
use lib.ListN.{length}
use Rattle.octets.specs.Numbers.{decimal}
use Rattle.refusal.specs.Refusals.{good}
use Rattle.field_table.specs.Table.{Table}
use Rattle.field_write.specs.Fields.{exact_fault, clean_fault, cleaned, field_bytes}
use Rattle.field_write.proofs.Allowed.{exact_not_short}
use Rattle.field_write.proofs.Cleaned.{not_short_whole, exact_unpadded, cleaned_exact, cleaned_bytes}
use Rattle.message_language.specs.Language.{Entry, entry}
use Rattle.message_contents.specs.Contents.{Content, content_of, contents_in, numbers_of, numbers_in, spelt, cleaned_in}

pub contents_numbers : (v : List ℕ) (es : List Entry) → numbers_in (contents_in v es) ≡ numbers_of es
unfolding numbers_in contents_in numbers_of
contents_numbers v [] = refl
contents_numbers v (e ∷ es) = ap (λ (l : List ℕ). e.number ∷ l) (contents_numbers v es)

pub cleaned_numbers : (t : Table) (cs : List Content) → numbers_in (cleaned_in t cs) ≡ numbers_in cs
unfolding numbers_in cleaned_in
cleaned_numbers t [] = refl
cleaned_numbers t (c ∷ cs) = ap (λ (l : List ℕ). c.number ∷ l) (cleaned_numbers t cs)

-- a content that the exact writer takes is not changed
pub exact_whole : (t : Table) (f : ℕ) (c : List ℕ) → exact_fault t f c ≡ good → cleaned t f c ≡ c
exact_whole t f c e = not_short_whole t f c (exact_not_short t f c e)

module _ (t : Table) (v : List ℕ) where
  pub body_none : spelt t (cleaned_in t (contents_in v [])) ≡ []
  unfolding spelt cleaned_in contents_in
  body_none = refl

  -- one field more, whose content the cleaning writer takes
  pub body_more : (f a z : ℕ) (es : List Entry) → clean_fault t f (content_of v a z) ≡ good
      → spelt t (cleaned_in t (contents_in v (entry f a z ∷ es))) ≡ field_bytes t f (content_of v a z) ++ spelt t (cleaned_in t (contents_in v es))
  unfolding spelt cleaned_in contents_in
  body_more f a z es e =
      let c = content_of v a z in
      let k = cleaned t f c in
      let b : decimal (t.width f) (length k) ++ k ≡ field_bytes t f c = sym (exact_unpadded t f k (cleaned_exact t f c e)) ∙ cleaned_bytes t f c e in
      let rest = spelt t (cleaned_in t (contents_in v es)) in
      sym (append_assoc (decimal (t.width f) (length k)) k rest) ∙ ap (λ (l : List ℕ). l ++ rest) b
