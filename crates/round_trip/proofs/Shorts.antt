-- The short fields among the entries that notes name: which they are, and what the two writers ask where there are none. Assumes nothing.
use Prim.Native.Nat.{ℕ, ◌<◌}
use mathlib.Core.Path.{◌≡◌, refl, sym, ap, ◌∙◌}
use mathlib.Core.Bool.{true, false}
use mathlib.Core.List.{List, [], ◌∷◌, ◌++◌}
use native.Mathlib.Omega.{arith}
use lib.ListN.{length, length-append}
use Rattle.std.proofs.lemmas.Bool.Decides.{nat_tests}
use borrow.Author.Tests.{eq-eqb, ne_eqb}
use Rattle.octets.specs.Lists.{all}
use Rattle.octets.proofs.Cases.{false_true, by_bool, by_eq}
use Rattle.refusal.specs.Refusals.{Test, good}
use Rattle.field_table.specs.Table.{Table}
use Rattle.field_write.specs.Fields.{is_allowed_length, exact_fault, clean_fault, is_short}
use Rattle.field_write.proofs.Allowed.{exact_not_short}
use Rattle.bitmap.specs.Bitmaps.{is_field, is_in}
use Rattle.message_language.specs.Language.{Entry, entry}
use Rattle.message_contents.specs.Contents.{Content, content, content_of, contents_in, cleaned_in, short_in}
use Rattle.message_contents.proofs.Cleaning.{exact_whole}
use Rattle.message_contents.proofs.Made.{is_field_lem}
use Rattle.message_walk.specs.Faults.{any, within}
use Rattle.message_walk.proofs.Agreeing.{Agree}
use Rattle.message_walk.proofs.Steps.{Good}
use Rattle.message_walk.proofs.Within.{is_inside}
use Rattle.message_walk.proofs.Written.{Walkable, none, more}
use Rattle.round_trip.specs.RoundTrip.{Short}

-- a content is short where its field is fixed and it is under the table's length
module _ (t : Table) (f n : ℕ) where
  short_says : is_short t f n ≡ true → (t.width f ≡ 0) × (n < t.most f)
  unfolding is_short
  short_says y = grind (arith, nat_tests)

  pub is_short_lem : t.width f ≡ 0 → n < t.most f → is_short t f n ≡ true
  unfolding is_short
  is_short_lem z l = grind (arith, nat_tests)

-- of a content that is not short both writers ask the same
long_alike : (t : Table) (f : ℕ) (c : List ℕ) → is_short t f (length c) ≡ false → clean_fault t f c ≡ exact_fault t f c
unfolding exact_fault clean_fault is_allowed_length is_short
long_alike t f c h = grind (arith, nat_tests)

-- whatever is asked of contents, the same is found of one that lies outside the values
pub outside_alike : (v : List ℕ) (p q : ℕ → List ℕ → Test) (e : Entry) → (within v any e ≡ good → ⊥) → within v q e ≡ within v p e
unfolding within
outside_alike v p q e h = grind (arith, nat_tests)

inside_alike : (v : List ℕ) (p q : ℕ → List ℕ → Test) (e : Entry) → q e.number (content_of v e.offset e.size) ≡ p e.number (content_of v e.offset e.size)
    → within v q e ≡ within v p e
unfolding within
inside_alike v p q e h = rw h

-- The short fields among entries whose contents lie within the values: in the list of their numbers exactly the numbers that are Short.
module _ (t : Table) (v : List ℕ) (m : ℕ) where
  sized : {last : ℕ} (f a n : ℕ) → Good (within v any) m last f a n → length (content_of v a n) ≡ n
  sized f a n g = (is_inside v any (entry f a n) g.ruled).sized

  pub short_fields : {last : ℕ} {es : List Entry} → Walkable (within v any) m last es → all is_field (short_in t es) ≡ true
  unfolding short_in
  short_fields none = refl
  short_fields {last} (more {f = f} g w) = grind (arith, nat_tests, is_field_lem m last f g.allowed, short_fields w)

  here : {last : ℕ} (f a n : ℕ) (es : List Entry) → Good (within v any) m last f a n → is_short t f n ≡ true → Short t f (contents_in v (entry f a n ∷ es))
  unfolding contents_in
  here {last} f a n es g y =
      record {
        before = [];
        bytes = content_of v a n;
        after = contents_in v es;
        is = refl;
        fixed = (short_says t f n y).0;
        short = omega (arith, sized {last = last} f a n g, short_says t f n y);
      }

  later : (g f a n : ℕ) (es : List Entry) → Short t f (contents_in v es) → Short t f (contents_in v (entry g a n ∷ es))
  unfolding contents_in
  later g f a n es x =
      record {
        before = content g (content_of v a n) ∷ x.before;
        bytes = x.bytes;
        after = x.after;
        is = ap (λ (l : List Content). content g (content_of v a n) ∷ l) x.is;
        fixed = x.fixed;
        short = x.short;
      }

  pub listed_short : {last : ℕ} {es : List Entry} → Walkable (within v any) m last es → (f : ℕ) → is_in f (short_in t es) ≡ true → Short t f (contents_in v es)
  unfolding short_in
  listed_short none f y = absurd (false_true y)
  listed_short {last} (more {f = g} {a = a} {n = n} {es = es} x w) f y =
      by_bool (is_short t g n)
      (λ s. by_eq g f
      (λ e. rw (← e) (here {last = last} g a n es x s))
      (λ d. later g f a n es (listed_short w f (rw (s, ne_eqb g f d) at y))))
      (λ s. later g f a n es (listed_short w f (rw s at y)))

  pub short_listed : {last : ℕ} {es : List Entry} → Walkable (within v any) m last es → (f : ℕ) (before : List Content) (c : List ℕ) (after : List Content)
      → contents_in v es ≡ before ++ (content f c ∷ after) → is_short t f (length c) ≡ true → is_in f (short_in t es) ≡ true
  unfolding short_in contents_in
  short_listed none f before c after e y = absurd (omega (arith, simp length-append at (ap length e)))
  short_listed {last} (more {f = g} {a = a} {n = n} x w) f [] c after e y =
      let i : content g (content_of v a n) ≡ content f c = cc in
      let j : g ≡ f = ap (λ (z : Content). z.number) i in
      let k : n ≡ length c = sym (sized {last = last} g a n x) ∙ ap (λ (z : Content). length z.bytes) i in
      let s : is_short t g n ≡ true = rw (j, k) y in
      rw (s, eq-eqb g f j)
  short_listed (more {f = g} {a = a} {n = n} {es = es} x w) f (d ∷ before) c after e y =
      let i : contents_in v es ≡ before ++ (content f c ∷ after) = cc in
      let r = short_listed w f before c after i y in
      grind (arith, nat_tests, r)

  -- where none is short, none is listed, and both writers ask the same
  not_here : {last : ℕ} (f a n : ℕ) (es : List Entry) → Good (within v any) m last f a n
      → ((h : ℕ) → Short t h (contents_in v (entry f a n ∷ es)) → ⊥) → is_short t f n ≡ false
  not_here {last} f a n es g no_short = by_bool (is_short t f n) (λ y. absurd (no_short f (here {last = last} f a n es g y))) (λ s. s)

  pub none_listed : {last : ℕ} {es : List Entry} → Walkable (within v any) m last es → ((f : ℕ) → Short t f (contents_in v es) → ⊥) → short_in t es ≡ []
  unfolding short_in
  none_listed none no_short = refl
  none_listed {last} (more {f = f} {a = a} {n = n} {es = es} g w) no_short =
      rw (not_here {last = last} f a n es g no_short) (none_listed w (λ h x. no_short h (later f h a n es x)))

  pub none_alike : {last : ℕ} {es : List Entry} → Walkable (within v any) m last es → ((f : ℕ) → Short t f (contents_in v es) → ⊥)
      → Agree (within v (exact_fault t)) (within v (clean_fault t)) es
  unfolding Agree
  none_alike none no_short = tt
  none_alike {last} (more {f = f} {a = a} {n = n} {es = es} g w) no_short =
      let s = not_here {last = last} f a n es g no_short in (
        inside_alike v (exact_fault t) (clean_fault t) (entry f a n) (long_alike t f (content_of v a n) (rw (sized {last = last} f a n g) s)),
        none_alike w (λ h x. no_short h (later f h a n es x)),
      )

  -- what the exact writer takes is nowhere short
  pub exact_long : {last : ℕ} {es : List Entry} → Walkable (within v (exact_fault t)) m last es → short_in t es ≡ []
  unfolding short_in
  exact_long none = refl
  exact_long (more {f = f} {a = a} {n = n} g w) =
      let i = is_inside v (exact_fault t) (entry f a n) g.ruled in
      let q : is_short t f n ≡ false = ap (is_short t f) (sym i.sized) ∙ exact_not_short t f (content_of v a n) i.fault in
      rw q (exact_long w)

  -- and cleaning it changes nothing
  pub exact_cleaned : {last : ℕ} {es : List Entry} → Walkable (within v (exact_fault t)) m last es → cleaned_in t (contents_in v es) ≡ contents_in v es
  unfolding cleaned_in contents_in
  exact_cleaned none = refl
  exact_cleaned (more {f = f} {a = a} {n = n} g w) =
      let i = is_inside v (exact_fault t) (entry f a n) g.ruled in
      rw (exact_whole t f (content_of v a n) i.fault, exact_cleaned w)
