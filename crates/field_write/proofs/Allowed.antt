-- What it says of a content that a writer does not refuse it, and where the two writers differ. Over any table. Assumes nothing.
use Prim.Native.Nat.{ℕ, ◌≤◌}
use mathlib.Core.Path.{◌≡◌, sym, ◌∙◌}
use mathlib.Core.Bool.{true, false}
use mathlib.Core.List.{List}
use native.Mathlib.Omega.{arith}
use lib.Dec.{eqb, leb}
use lib.ListN.{length}
use borrow.Author.Tests.{le-leb, leb-true, eq-eqb, eqb-true, le-ltb, ltb-false}
use Rattle.octets.specs.Lists.{either, all}
use Rattle.octets.specs.Numbers.{is_ascii}
use Rattle.octets.proofs.Cases.{by_bool}
use Rattle.refusal.specs.Numbers.{length_not_allowed, text_not_ascii}
use Rattle.refusal.specs.Refusals.{good, bad}
use Rattle.refusal.proofs.Tests.{bad_good, passed}
use Rattle.field_table.specs.Table.{Table, is_binary}
use Rattle.field_table.specs.declared.Class.{Class}
use Rattle.field_write.specs.Fields.{is_allowed_length, text_fault, exact_fault, clean_fault, is_short}

-- a content that the cleaning writer takes
pub record Clean (t : Table) (f : ℕ) (s : List ℕ) : Type 0 where
  pub most : length s ≤ t.most f
  pub text : either (is_binary (t.class f)) (all is_ascii s) ≡ true

-- one that the exact writer takes
pub record Exact (t : Table) (f : ℕ) (s : List ℕ) : Type 0 where
  pub fixed : t.width f ≡ 0 → length s ≡ t.most f
  pub clean : Clean t f s

text_passed : (c : Class) (s : List ℕ) → text_fault c s ≡ good → either (is_binary c) (all is_ascii s) ≡ true
unfolding text_fault
text_passed c s e = (passed (either (is_binary c) (all is_ascii s)) good text_not_ascii e).0

text_passes : (c : Class) (s : List ℕ) → either (is_binary c) (all is_ascii s) ≡ true → text_fault c s ≡ good
unfolding text_fault
text_passes c s e = rw e

module _ (t : Table) (f n : ℕ) where
  pub allowed_most : is_allowed_length t f n ≡ true → n ≤ t.most f
  unfolding is_allowed_length
  allowed_most a =
      by_bool (eqb (t.width f) 0)
      (λ e. let q : n ≡ t.most f = eqb-true n (t.most f) (rw e at a) in omega arith)
      (λ e. leb-true n (t.most f) (rw e at a))

  pub allowed_fixed_length : is_allowed_length t f n ≡ true → t.width f ≡ 0 → n ≡ t.most f
  unfolding is_allowed_length
  allowed_fixed_length a z = eqb-true n (t.most f) (rw (eq-eqb (t.width f) 0 z) at a)

  pub is_allowed : (t.width f ≡ 0 → n ≡ t.most f) → n ≤ t.most f → is_allowed_length t f n ≡ true
  unfolding is_allowed_length
  is_allowed x m =
      by_bool (eqb (t.width f) 0)
      (λ e. rw e (eq-eqb n (t.most f) (x (eqb-true (t.width f) 0 e))))
      (λ e. rw e (le-leb n (t.most f) m))

  pub not_short_long : is_short t f n ≡ false → t.width f ≡ 0 → t.most f ≤ n
  unfolding is_short
  not_short_long h z = ltb-false n (t.most f) (rw (eq-eqb (t.width f) 0 z) at h)

  pub long_not_short : (t.width f ≡ 0 → t.most f ≤ n) → is_short t f n ≡ false
  unfolding is_short
  long_not_short h =
      by_bool (eqb (t.width f) 0)
      (λ e. rw e (le-ltb n (t.most f) (h (eqb-true (t.width f) 0 e))))
      (λ e. rw e)

module _ (t : Table) (f : ℕ) (s : List ℕ) where
  pub clean_passed : clean_fault t f s ≡ good → Clean t f s
  unfolding clean_fault
  clean_passed e =
      let p = passed (leb (length s) (t.most f)) (text_fault (t.class f) s) length_not_allowed e in
      record { most = leb-true (length s) (t.most f) p.0; text = text_passed (t.class f) s p.1 }

  pub clean_passes : Clean t f s → clean_fault t f s ≡ good
  unfolding clean_fault
  clean_passes c = rw (le-leb (length s) (t.most f) c.most) (text_passes (t.class f) s c.text)

  exact_long : is_allowed_length t f (length s) ≡ false → exact_fault t f s ≡ bad length_not_allowed
  unfolding exact_fault
  exact_long n = rw n

  pub exact_passed : exact_fault t f s ≡ good → Exact t f s
  unfolding exact_fault
  exact_passed e =
      by_bool (is_allowed_length t f (length s))
      (λ y.
      record {
        fixed = allowed_fixed_length t f (length s) y;
        clean = record { most = allowed_most t f (length s) y; text = text_passed (t.class f) s (rw y at e) };
      })
      (λ n. bad_good length_not_allowed (sym (exact_long n) ∙ e))

  pub exact_passes : Exact t f s → exact_fault t f s ≡ good
  unfolding exact_fault
  exact_passes x = rw (is_allowed t f (length s) x.fixed x.clean.most) (text_passes (t.class f) s x.clean.text)

  -- what the exact writer takes the cleaning writer takes too, and it has nothing to pad there
  pub exact_is_clean : exact_fault t f s ≡ good → clean_fault t f s ≡ good
  exact_is_clean e = clean_passes (exact_passed e).clean

  pub exact_not_short : exact_fault t f s ≡ good → is_short t f (length s) ≡ false
  exact_not_short e = long_not_short t f (length s) (λ z. let q = (exact_passed e).fixed z in omega arith)
