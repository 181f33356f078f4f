-- The first walk of a writer: the fields named, the short ones and the size, gathered one by one. Assumes nothing.
use Prim.Native.Nat.{ℕ, ◌+◌, ◌*◌, ◌≤◌}
use mathlib.Core.Path.{◌≡◌, refl, sym, ◌∙◌}
use mathlib.Core.Bool.{true, cond}
use mathlib.Core.List.{List, [], ◌∷◌}
use native.Mathlib.Omega.{arith}
use lib.Dec.{leb}
use borrow.Author.Tests.{leb-true}
use Rattle.octets.specs.Lists.{all}
use Rattle.octets.proofs.Cases.{by_bool, both_left, both_right}
use Rattle.field_table.specs.Table.{Table}
use Rattle.field_table.proofs.Rows.{Bounded}
use Rattle.field_write.specs.Fields.{is_short, written_size, longest}
use Rattle.field_write.proofs.Padding.{missing_most}
use Rattle.bitmap.specs.Bitmaps.{is_field, no_fields, with_field, set_from}
use Rattle.bitmap.proofs.Sets.{set_is}
use Rattle.bitmap.proofs.Maps.{field_high}
use Rattle.message_language.specs.Language.{Entry, entry}
use Rattle.message_contents.specs.Contents.{numbers_of, short_in}
use Rattle.message_contents.proofs.Made.{is_low, is_field_lem}
use Rattle.message_walk.specs.Walk.{Fault}
use Rattle.message_walk.proofs.Steps.{Good}
use Rattle.message_walk.proofs.Naming.{Naming, naming_first, naming_next, naming_done}
use Rattle.message_write.specs.Written.{size_in, size_most, Sums}

-- the short ones among fields are fields
pub short_are : (t : Table) (es : List Entry) → all is_field (numbers_of es) ≡ true → all is_field (short_in t es) ≡ true
unfolding numbers_of short_in
short_are t [] a = refl
short_are t (e ∷ es) a =
    let r = short_are t es (both_right (is_field e.number) (all is_field (numbers_of es)) a) in
    by_bool (is_short t e.number e.size)
    (λ y. rw (y, both_left (is_field e.number) (all is_field (numbers_of es)) a) r)
    (λ n. rw n r)

-- what a field takes is bounded, whatever its note says
abbrev pub taken : Table → ℕ → ℕ → ℕ
taken t f z = cond (leb z longest) (written_size t f z) 0

taken_most : (t : Table) (f z : ℕ) → Bounded t → taken t f z ≤ 67000
unfolding written_size
taken_most t f z small =
    by_bool (leb z longest)
    (λ y. rw y (omega (arith, leb-true z longest y, small.width_small f, small.most_small f, missing_most t f z)))
    (λ y. rw y (omega arith))

-- The fields in the set s, the short ones in the set q and the size, and those of the entries still to come, make the whole.
pub record Weighing (t : Table) (whole : List Entry) (s q : List ℕ) (size last : ℕ) (es : List Entry) : Type 0 where
  pub naming : Naming whole s es
  pub shorts : set_from no_fields (short_in t whole) ≡ set_from q (short_in t es)
  pub sizes : size_in t whole ≡ size + size_in t es
  pub bound : size ≤ 67000 * last
  pub high : last ≤ 192

pub weighing_first : {t : Table} {whole : List Entry} {s q : List ℕ} → s ≡ no_fields → q ≡ no_fields → Weighing t whole s q 0 0 whole
weighing_first a b = record { naming = naming_first a; shorts = rw b; sizes = omega arith; bound = omega arith; high = omega arith }

module _ {t : Table} (small : Bounded t) {whole : List Entry} {s q : List ℕ} {size last f a z : ℕ} {es : List Entry} {p : Fault} {m : ℕ}
    (c : Weighing t whole s q size last (entry f a z ∷ es)) (g : Good p m last f a z) (k : ℕ) (sized : k ≡ taken t f z) where
  pub weighing_fits : size + k ≤ size_most
  weighing_fits =
      omega (arith, c.bound, sized, taken_most t f z small, is_low m last f g.allowed, field_high f (is_field_lem m last f g.allowed))

  shorts_next : (q' : List ℕ) → q' ≡ cond (is_short t f z) (with_field q f) q → set_from q (short_in t (entry f a z ∷ es)) ≡ set_from q' (short_in t es)
  unfolding short_in set_from
  shorts_next q' e =
      by_bool (is_short t f z)
      (λ y. let i : q' ≡ with_field q f = e ∙ rw y in rw (y, i))
      (λ y. let i : q' ≡ q = e ∙ rw y in rw (y, i))

  pub weighing_next : {s' q' : List ℕ} → s' ≡ with_field s f → q' ≡ cond (is_short t f z) (with_field q f) q → Weighing t whole s' q' (size + k) f es
  unfolding size_in
  weighing_next {s'} {q'} i j =
      record {
        naming = naming_next c.naming i;
        shorts = c.shorts ∙ shorts_next q' j;
        sizes = omega (arith, c.sizes, sized);
        bound = omega (arith, c.bound, sized, taken_most t f z small, is_low m last f g.allowed);
        high = field_high f (is_field_lem m last f g.allowed);
      }

module _ {t : Table} {whole : List Entry} {s q : List ℕ} {size last : ℕ} (are : all is_field (numbers_of whole) ≡ true) (c : Weighing t whole s q size last []) where
  pub weighed : Sums t whole s q size
  unfolding short_in set_from size_in
  weighed =
      record {
        named = naming_done are c.naming;
        short = sym (sym (set_is (short_in t whole) (short_are t whole are)) ∙ c.shorts);
        sized = omega (arith, c.sizes);
        small = omega (arith, c.bound, c.high);
      }
