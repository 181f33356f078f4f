-- The bitmaps made from a message's fields are the bitmaps that were read. Assumes nothing.
use Prim.Native.Nat.{ℕ, zero, suc, ◌+◌, ◌-◌, ◌*◌, ◌≤◌, ◌<◌}
use mathlib.Core.Path.{◌≡◌, refl, sym, ap, ◌∙◌}
use mathlib.Core.Bool.{Bool, true, false, not}
use mathlib.Core.List.{List}
use native.Mathlib.Omega.{arith}
use lib.Dec.{leb}
use lib.ListN.{length, replicate}
use lib.Seq.{take_at}
use borrow.Author.Tests.{eq-eqb, ne_eqb}
use Rattle.octets.specs.Lists.{between, all}
use Rattle.octets.proofs.Cases.{by_bool, by_eq}
use Rattle.bitmap.specs.Bits.{bit_of, bytes_of}
use Rattle.bitmap.specs.Bitmaps.{is_field, has_field, count_of, fields_from, fields_of, is_in, set_of, map_bit, maps_for}
use Rattle.bitmap.proofs.Bits.{bytes_of_bits}
use Rattle.bitmap.proofs.Fields.{fields_are}
use Rattle.bitmap.proofs.Maps.{field_not_65}
use Rattle.bitmap.proofs.Sets.{set_is, has_set}
use Rattle.message_contents.specs.Contents.{bitmaps_with}

-- the numbers of fields from g on: those that pass
is_in_lem : (p : ℕ → Bool) (k g f : ℕ) → g ≤ f → f < g + k → is_in f (fields_from p k g) ≡ p f
unfolding fields_from
is_in_lem p zero g f l u = absurd (omega arith)
is_in_lem p (suc k) g f l u =
    by_bool (p g)
    (λ y. rw (fields_from, y)
    (by_eq g f
    (λ e. rw (eq-eqb g f e) (sym (ap p (sym e) ∙ y)))
    (λ n. rw (ne_eqb g f n) (is_in_lem p k (g + 1) f (omega arith) (omega arith)))))
    (λ y. rw (fields_from, y)
    (by_eq g f
    (λ e. below p k (g + 1) f (omega arith) ∙ sym (ap p (sym e) ∙ y))
    (λ n. is_in_lem p k (g + 1) f (omega arith) (omega arith))))
  where
    below : (p : ℕ → Bool) (k g f : ℕ) → f < g → is_in f (fields_from p k g) ≡ false
    below p zero g f h = refl
    below p (suc k) g f h =
        by_bool (p g)
        (λ y. rw (fields_from, y, ne_eqb g f (λ (q : g ≡ f). omega arith)) (below p k (g + 1) f (omega arith)))
        (λ y. rw (fields_from, y) (below p k (g + 1) f (omega arith)))

has_bit : (s : List ℕ) (f : ℕ) → is_field f ≡ true → has_field s f ≡ bit_of s f
unfolding has_field
has_bit s f y = rw y

module _ (maps : List ℕ) (m : ℕ) (chained : m ≡ count_of maps) (whole : length maps ≡ 8 * m) (three : m ≤ 3) where
  abbrev fs : List ℕ
  fs = fields_of maps m

  bit_1 : leb 2 m ≡ bit_of maps 1
  unfolding count_of
  bit_1 =
      by_bool (bit_of maps 1)
      (λ b. by_bool (bit_of maps 65)
      (λ c. let e : m ≡ 3 = chained ∙ rw (b, c) in rw (b, e))
      (λ c. let e : m ≡ 2 = chained ∙ rw (b, c) in rw (b, e)))
      (λ b. let e : m ≡ 1 = chained ∙ rw b in rw (b, e))

  bit_65 : 2 ≤ m → leb 3 m ≡ bit_of maps 65
  unfolding count_of
  bit_65 h =
      by_bool (bit_of maps 1)
      (λ b. by_bool (bit_of maps 65)
      (λ c. let e : m ≡ 3 = chained ∙ rw (b, c) in rw (c, e))
      (λ c. let e : m ≡ 2 = chained ∙ rw (b, c) in rw (c, e)))
      (λ b. let e : m ≡ 1 = chained ∙ rw b in absurd (omega arith))

  in_set : (f : ℕ) → is_field f ≡ true → f ≤ 64 * m → 1 ≤ f → has_field (set_of fs) f ≡ bit_of maps f
  unfolding fields_of
  in_set f y u l =
      ap (λ (x : List ℕ). has_field x f) (sym (set_is fs (fields_are maps (64 * m) 1)))
      ∙ has_set fs f (fields_are maps (64 * m) 1) y
      ∙ is_in_lem (has_field maps) (64 * m) 1 f l (omega arith)
      ∙ has_bit maps f y

  bits_back : (f : ℕ) → 1 ≤ f → f ≤ 64 * m → map_bit m (set_of fs) f ≡ bit_of maps f
  unfolding map_bit
  bits_back f l u =
      by_eq f 1
      (λ e. rw e bit_1)
      (λ n1. by_eq f 65
      (λ e. rw e (bit_65 (omega arith)))
      (λ n65.
      let y : is_field f ≡ true = sym (field_not_65 f (omega arith) (omega arith)) ∙ ap not (ne_eqb f 65 n65) in
      rw (ne_eqb f 1 n1, ne_eqb f 65 n65) (in_set f y u l)))

  pub maps_back : all (between 0 255) maps ≡ true → bitmaps_with m fs ≡ maps
  unfolding bitmaps_with maps_for
  maps_back a =
      let b : bytes_of (map_bit m (set_of fs)) (8 * m) 1 ≡ maps =
      ap (λ (k : ℕ). bytes_of (map_bit m (set_of fs)) k 1) (sym whole)
      ∙ bytes_of_bits (map_bit m (set_of fs)) maps a (λ f l u. bits_back f l (omega (arith, whole))) in
      take_at (bytes_of (map_bit m (set_of fs)) (8 * m) 1) (replicate (24 - 8 * m) 0) (8 * m) (ap length b ∙ whole) ∙ b
