-- A content as it stands in its field, and the field's bytes; what was cleaned is exact. Over any table. Assumes nothing.
use Prim.Native.Nat.{ℕ, zero, suc, ◌+◌, ◌≤◌}
use mathlib.Core.Path.{◌≡◌, refl, sym, ap, ◌∙◌}
use mathlib.Core.Bool.{Bool, true, false, cond}
use mathlib.Core.List.{List, ◌++◌}
use native.Mathlib.Nat.{lt_of_le_of_lt}
use native.Mathlib.Omega.{arith}
use lib.Dec.{leb}
use lib.ListN.{length, replicate, length-append, length-replicate}
use borrow.Author.Tests.{le-leb}
use Rattle.octets.specs.Lists.{either, between, all}
use Rattle.octets.specs.Numbers.{is_ascii, digits, decimal, decimal_of}
use Rattle.octets.proofs.Cases.{by_bool, by_eq}
use Rattle.octets.proofs.Lists.{all_append}
use Rattle.octets.proofs.Numbers.{digits_length, number_digits}
use Rattle.refusal.specs.Refusals.{good}
use Rattle.field_table.specs.Table.{Table, is_binary, Small}
use Rattle.field_table.specs.declared.Class.{Class}
use Rattle.field_table.specs.declared.Class.TheVariants.{N, A, An, Ans, Ns, Z, Xn, B}
use Rattle.field_table.proofs.Rows.{Bounded}
use Rattle.field_write.specs.Fields.{exact_fault, clean_fault, is_short, missing, pad_byte, pads_left, padded, cleaned, field_bytes, written_size, longest}
use Rattle.field_write.proofs.Allowed.{clean_passed, exact_passes, exact_not_short, not_short_long}
use Rattle.field_write.proofs.Padding.{missing_variable, missing_fixed, padded_none}

pub padded_length : (c : Class) (k : ℕ) (s : List ℕ) → length (padded c k s) ≡ length s + k
unfolding padded
padded_length c k s =
    let l = length-replicate k (pad_byte c) in
    by_bool (pads_left c)
    (λ e. rw e (omega (arith, length-append (replicate k (pad_byte c)) s)))
    (λ e. rw e (omega (arith, length-append s (replicate k (pad_byte c)))))

all_replicate : (p : ℕ → Bool) (k x : ℕ) → p x ≡ true → all p (replicate k x) ≡ true
all_replicate p zero x h = refl
all_replicate p (suc k) x h = rw h (all_replicate p k x h)

pad_ascii : (c : Class) → is_ascii (pad_byte c) ≡ true
unfolding between
pad_ascii N = refl
pad_ascii A = refl
pad_ascii An = refl
pad_ascii Ans = refl
pad_ascii Ns = refl
pad_ascii Z = refl
pad_ascii Xn = refl
pad_ascii B = refl

-- padding adds no byte over 0x7F
pub padded_text : (c : Class) (k : ℕ) (s : List ℕ) → all is_ascii s ≡ true → all is_ascii (padded c k s) ≡ true
unfolding padded
padded_text c k s h =
    let p = all_replicate is_ascii k (pad_byte c) (pad_ascii c) in
    by_bool (pads_left c) (λ e. rw e (all_append is_ascii (replicate k (pad_byte c)) s p h)) (λ e. rw e (all_append is_ascii s (replicate k (pad_byte c)) h p))

module _ (t : Table) (f : ℕ) (s : List ℕ) where
  pub cleaned_length : length (cleaned t f s) ≡ length s + missing t f (length s)
  unfolding cleaned
  cleaned_length = padded_length (t.class f) (missing t f (length s)) s

  -- the size that the bytes take is the size that was reckoned
  pub written_size_lem : length (field_bytes t f s) ≡ written_size t f (length s)
  unfolding field_bytes written_size
  written_size_lem =
      length-append (decimal (t.width f) (length s)) (cleaned t f s) ∙ omega (arith, digits_length 10 48 (t.width f) (length s), cleaned_length)

  -- a content with nothing missing is written as it is
  whole : missing t f (length s) ≡ 0 → cleaned t f s ≡ s
  unfolding cleaned
  whole z = rw z (padded_none (t.class f) s)

  pub not_short_whole : is_short t f (length s) ≡ false → cleaned t f s ≡ s
  not_short_whole h =
      whole
      (by_eq (t.width f) 0
      (λ z. missing_fixed t f (length s) z ∙ (let l = not_short_long t f (length s) h z in omega arith))
      (λ v. missing_variable t f (length s) v))

  pub exact_unpadded : exact_fault t f s ≡ good → field_bytes t f s ≡ decimal (t.width f) (length s) ++ s
  unfolding field_bytes
  exact_unpadded e = rw (not_short_whole (exact_not_short t f s e))

  -- a fixed content is padded to the table's length
  pub clean_allowed : clean_fault t f s ≡ good → t.width f ≡ 0 → length (cleaned t f s) ≡ t.most f
  clean_allowed e z =
      let m = (clean_passed t f s e).most in
      omega (arith, cleaned_length, missing_fixed t f (length s) z)

  pub cleaned_most : clean_fault t f s ≡ good → length (cleaned t f s) ≤ t.most f
  cleaned_most e =
      let m = (clean_passed t f s e).most in
      by_eq (t.width f) 0
      (λ z. omega (arith, clean_allowed e z))
      (λ v. omega (arith, cleaned_length, missing_variable t f (length s) v))

  cleaned_text : either (is_binary (t.class f)) (all is_ascii s) ≡ true → either (is_binary (t.class f)) (all is_ascii (cleaned t f s)) ≡ true
  unfolding cleaned
  cleaned_text h =
      by_bool (is_binary (t.class f)) (λ e. rw e) (λ e. rw e (padded_text (t.class f) (missing t f (length s)) s (rw e at h)))

  -- what the cleaning writer takes is, once padded, what the exact writer takes, and their bytes are the same
  pub cleaned_exact : clean_fault t f s ≡ good → exact_fault t f (cleaned t f s) ≡ good
  cleaned_exact e =
      exact_passes t f (cleaned t f s)
      record {
        fixed = clean_allowed e;
        clean = record { most = cleaned_most e; text = cleaned_text (clean_passed t f s e).text };
      }

pub cleaned_bytes : (t : Table) (f : ℕ) (s : List ℕ) → clean_fault t f s ≡ good → field_bytes t f (cleaned t f s) ≡ field_bytes t f s
unfolding field_bytes digits
cleaned_bytes t f s e =
    exact_unpadded t f (cleaned t f s) (cleaned_exact t f s e)
    ∙ by_eq (t.width f) 0
    (λ z. rw z)
    (λ v. ap (λ (n : ℕ). decimal (t.width f) n ++ cleaned t f s) (omega (arith, cleaned_length t f s, missing_variable t f (length s) v)))

-- what `written_size` answers is the size, where the content is taken
pub clean_size : (t : Table) (f : ℕ) (s : List ℕ) → Bounded t → clean_fault t f s ≡ good → cond (leb (length s) longest) (written_size t f (length s)) 0 ≡ length (field_bytes t f s)
clean_size t f s small e =
    let m = (clean_passed t f s e).most in
    rw (le-leb (length s) longest (omega (arith, small.most_small f))) (sym (written_size_lem t f s))

-- the length digits of a content that is taken spell its length
pub digits_spell : (t : Table) (f : ℕ) (s : List ℕ) → Small t → clean_fault t f s ≡ good → (t.width f ≡ 0 → ⊥) → decimal_of (decimal (t.width f) (length s)) ≡ length s
digits_spell t f s small e v =
    let m = (clean_passed t f s e).most in
    let l = small.most_spelt f v in
    number_digits 10 48 (t.width f) (length s) (omega arith) (lt_of_le_of_lt m l)
