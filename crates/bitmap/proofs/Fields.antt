-- The list of the fields present: a number at a time, and how many there are. Assumes nothing.
use Prim.Native.Nat.{ℕ, zero, suc, ◌+◌, ◌-◌, ◌*◌, ◌≤◌}
use mathlib.Core.Path.{◌≡◌, refl, sym, ap, ◌∙◌}
use mathlib.Core.Bool.{Bool, true, false}
use mathlib.Core.List.{List, [], ◌∷◌, ◌++◌, append-nil}
use native.Mathlib.Omega.{arith}
use native.Mathlib.Nat.{zero-add, add-zero}
use lib.ListN.{length, length-append}
use Rattle.octets.specs.Lists.{both, between, all}
use Rattle.octets.proofs.Cases.{by_bool, by_le, both_left}
use Rattle.bitmap.specs.Bits.{bit_of}
use Rattle.bitmap.specs.Bitmaps.{is_field, has_field, fields_from, fields_of}
use Rattle.bitmap.proofs.Bits.{bit_past}

-- they are fields
pub fields_are : (s : List ℕ) (k f : ℕ) → all is_field (fields_from (has_field s) k f) ≡ true
unfolding fields_from has_field
fields_are s zero f = refl
fields_are s (suc k) f =
    by_bool (has_field s f)
    (λ y. rw (fields_from, y, both_left (is_field f) (bit_of s f) y) (fields_are s k (f + 1)))
    (λ n. rw (fields_from, n) (fields_are s k (f + 1)))

-- how many there are
pub fields_most : (p : ℕ → Bool) (k f : ℕ) → length (fields_from p k f) ≤ k
unfolding fields_from
fields_most p zero f = omega arith
fields_most p (suc k) f =
    let h = fields_most p k (f + 1) in
    by_bool (p f) (λ t. rw (fields_from, t) (omega arith)) (λ t. rw (fields_from, t) (omega arith))

pub fields_split : (p : ℕ → Bool) (k j f : ℕ) → fields_from p (k + j) f ≡ fields_from p k f ++ fields_from p j (f + k)
unfolding fields_from
fields_split p zero j f = rw (zero-add j, add-zero f)
fields_split p (suc k) j f =
    let n : suc k + j ≡ suc (k + j) = omega arith in
    let m : f + 1 + k ≡ f + suc k = omega arith in
    let h : fields_from p (k + j) (f + 1) ≡ fields_from p k (f + 1) ++ fields_from p j (f + suc k) = fields_split p k j (f + 1) ∙ rw m in
    by_bool (p f)
    (λ t. rw (n, fields_from, t) (ap (λ (l : List ℕ). f ∷ l) h))
    (λ t. rw (n, fields_from, t) h)

-- there are none where no bit is, so that bitmaps that are not there can be counted in
fields_none : (p : ℕ → Bool) (k f : ℕ) → ((g : ℕ) → f ≤ g → p g ≡ false) → fields_from p k f ≡ []
unfolding fields_from
fields_none p zero f n = refl
fields_none p (suc k) f n = rw (fields_from, n f (omega arith)) (fields_none p k (f + 1) (λ g l. n g (omega arith)))

pub fields_past : (s : List ℕ) (i k : ℕ) → length s ≤ i → fields_from (has_field s) k (8 * i + 1) ≡ []
unfolding has_field
fields_past s i k h = fields_none (has_field s) k (8 * i + 1) (λ g l. rw (← bit_past s g (λ (z : g ≡ 0). omega arith) (omega arith)) (both_none (is_field g)))
  where
    both_none : (a : Bool) → both a false ≡ false
    both_none true = refl
    both_none false = refl

pub fields_in_lem : (s : List ℕ) (m : ℕ) → m ≤ 3 → length s ≤ 8 * m → fields_of s 3 ≡ fields_of s m
unfolding fields_of
fields_in_lem s m few h =
    let e : 64 * m + (192 - 64 * m) ≡ 192 = omega arith in
    let p : 8 * (8 * m) + 1 ≡ 1 + 64 * m = omega arith in
    ap (λ (k : ℕ). fields_from (has_field s) k 1) (sym e)
    ∙ fields_split (has_field s) (64 * m) (192 - 64 * m) 1
    ∙ ap (λ (fs : List ℕ). fields_from (has_field s) (64 * m) 1 ++ fs) (rw p at (fields_past s (8 * m) (192 - 64 * m) h))
    ∙ append-nil (fields_from (has_field s) (64 * m) 1)

fields_one : (p : ℕ → Bool) (f : ℕ) → p f ≡ false → fields_from p 1 f ≡ []
unfolding fields_from
fields_one p f h = rw (fields_from, h)

-- bits 1 and 65 are no fields: of the numbers of two or more bitmaps, two are none
fields_without : (s : List ℕ) (j : ℕ) → length (fields_from (has_field s) (1 + (63 + (1 + j))) 1) ≤ 63 + j
unfolding has_field is_field between
fields_without s j =
    let a : length (fields_from (has_field s) (1 + (63 + (1 + j))) 1) ≡ length (fields_from (has_field s) 1 1) + length (fields_from (has_field s) (63 + (1 + j)) 2) =
    ap length (fields_split (has_field s) 1 (63 + (1 + j)) 1) ∙ length-append (fields_from (has_field s) 1 1) (fields_from (has_field s) (63 + (1 + j)) 2) in
    let b : length (fields_from (has_field s) (63 + (1 + j)) 2) ≡ length (fields_from (has_field s) 63 2) + length (fields_from (has_field s) (1 + j) 65) =
    ap length (fields_split (has_field s) 63 (1 + j) 2) ∙ length-append (fields_from (has_field s) 63 2) (fields_from (has_field s) (1 + j) 65) in
    let c : length (fields_from (has_field s) (1 + j) 65) ≡ length (fields_from (has_field s) 1 65) + length (fields_from (has_field s) j 66) =
    ap length (fields_split (has_field s) 1 j 65) ∙ length-append (fields_from (has_field s) 1 65) (fields_from (has_field s) j 66) in
    let z : length (fields_from (has_field s) 1 1) ≡ 0 = ap length (fields_one (has_field s) 1 refl) in
    let y : length (fields_from (has_field s) 1 65) ≡ 0 = ap length (fields_one (has_field s) 65 refl) in
    omega (arith, fields_most (has_field s) 63 2, fields_most (has_field s) j 66)

pub fields_few : (s : List ℕ) (k m : ℕ) → 2 ≤ m → k ≤ m → length (fields_of s k) ≤ 64 * m - 2
unfolding fields_of
fields_few s k m two few =
    by_le k 1
    (λ h. omega (arith, fields_most (has_field s) (64 * k) 1))
    (λ h.
    let e : 64 * k ≡ 1 + (63 + (1 + (64 * k - 65))) = omega arith in
    omega (arith, ap (λ (n : ℕ). length (fields_from (has_field s) n 1)) e, fields_without s (64 * k - 65)))
