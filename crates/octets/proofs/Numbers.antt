-- Numbers and their digits, over the base and the width. Assumes nothing.
use Prim.Native.Nat.{ℕ, zero, suc, ◌+◌, ◌-◌, ◌*◌, ◌/◌, ◌%◌, ◌^◌, ◌≤◌, ◌<◌}
use mathlib.Core.Path.{◌≡◌, refl, sym, ◌∙◌}
use mathlib.Core.Bool.{true, cond}
use mathlib.Core.List.{List, [], ◌∷◌, ◌++◌, append_assoc, append-nil}
use native.Mathlib.Omega.{arith}
use native.Mathlib.Numerals.{add-one}
use native.Mathlib.Nat.{add-zero, zero-add, mod-lt, mod-eq_of_lt, div-add-mod', div-eq_of_lt, mul-add-mod_self_right, mul-add-div_right, div-lt_iff_lt-mul, pow-zero, pow-suc, pow-le-pow_right, mul-le-mul_left, mul-le-mul_right, lt_of_mul-lt-mul_right}
use lib.ListN.{length, take, drop, get_or, set, length-append, length-take, drop_of_length-le}
use lib.Seq.{drop-cons, drop_at, set_split, length-take-le}
use lib.Dec.{leb}
use borrow.Author.Tests.{le-leb}
use Rattle.octets.specs.Lists.{between, all, lay}
use Rattle.octets.specs.Numbers.{digits, number}
use Rattle.octets.proofs.Cases.{both_left, both_right}
use Rattle.octets.proofs.Lists.{is_between, between_low, between_high, all_append}

pub digits_length : (b z w n : ℕ) → length (digits b z w n) ≡ w
unfolding digits
digits_length b z zero n = refl
digits_length b z (suc w) n = length-append (digits b z w (n / b)) ((z + n % b) ∷ []) ∙ omega (arith, digits_length b z w (n / b))

-- each is a digit of the base
pub digits_between : (b z hi w n : ℕ) → 0 < b → z + b ≤ suc hi → all (between z hi) (digits b z w n) ≡ true
unfolding digits
digits_between b z hi zero n h k = refl
digits_between b z hi (suc w) n h k =
    let l : n % b < b = mod-lt n h in
    all_append (between z hi) (digits b z w (n / b)) ((z + n % b) ∷ []) (digits_between b z hi w (n / b) h k)
    (rw (is_between z hi (z + n % b) (omega arith) (omega arith)))

-- Storing the last digit first: one byte stored behind A, and then A, is both.
store_behind : (A l : List ℕ) (x i : ℕ) → length A ≡ i → i < length l → lay (A ++ (x ∷ [])) l ≡ lay A (set l i x)
unfolding lay
store_behind A l x i e h =
    let s : drop i (set l i x) ≡ x ∷ drop (suc i) l = rw (set_split l i x h) (drop_at (take i l) (x ∷ drop (suc i) l) i (length-take-le i l (omega arith))) in
    let n : length (A ++ (x ∷ [])) ≡ suc i = length-append A (x ∷ []) ∙ omega arith in
    rw (n, e, s) (append_assoc A (x ∷ []) (drop (suc i) l))

pub digit_step : (b z k n : ℕ) (l : List ℕ) → 0 < k → k ≤ length l → lay (digits b z k n) l ≡ lay (digits b z (k - 1) (n / b)) (set l (k - 1) (z + n % b))
unfolding digits
digit_step b z zero n l p h = absurd (omega arith)
digit_step b z (suc k) n l p h =
    let e : suc k - 1 ≡ k = omega arith in
    rw e (store_behind (digits b z k (n / b)) l (z + n % b) k (digits_length b z k (n / b)) h)

pub digit_none : (b z n : ℕ) (l : List ℕ) → lay (digits b z 0 n) l ≡ l
unfolding lay digits
digit_none b z n l = refl

-- Reading a digit more.
pub number_more : (b z n d : ℕ) (s : List ℕ) (i : ℕ) → i < length s → d ≡ get_or s i 0 - z → number b z n (drop i s) ≡ number b z (n * b + d) (drop (i + 1) s)
unfolding number
number_more b z n d s i h e = rw (add-one, drop-cons s i 0 h, e)

pub number_done : (b z n i : ℕ) (s : List ℕ) → number b z 0 s ≡ number b z n (drop i s) → length s ≤ i → n ≡ number b z 0 s
unfolding number
number_done b z n i s e h = sym (e ∙ rw (drop_of_length-le s {i = i} h))

number_append : (b z a : ℕ) (s t : List ℕ) → number b z a (s ++ t) ≡ number b z (number b z a s) t
unfolding number
number_append b z a [] t = refl
number_append b z a (x ∷ s) t = number_append b z (a * b + (x - z)) s t

-- Written and read again: a number that fits in w digits.
pub number_digits : (b z w n : ℕ) → 0 < b → n < b ^ w → number b z 0 (digits b z w n) ≡ n
unfolding digits number
number_digits b z zero n h k = omega (arith, rw (pow-zero b) at k)
number_digits b z (suc w) n h k =
    let q : n / b < b ^ w = (div-lt_iff_lt-mul h).1 (rw pow-suc at k) in
    let r : number b z 0 (digits b z w (n / b)) ≡ n / b = number_digits b z w (n / b) h q in
    let d : z + n % b - z ≡ n % b = omega arith in
    number_append b z 0 (digits b z w (n / b)) ((z + n % b) ∷ []) ∙ rw (r, d) (div-add-mod' n b)

-- Read and written again: the same digits.
module _ (b z hi : ℕ) (base : 0 < b) (digit : suc hi ≤ z + b) where
  one_more : (k a x : ℕ) (xs : List ℕ) → between z hi x ≡ true → digits b z (suc k) (a * b + (x - z)) ++ xs ≡ digits b z k a ++ (x ∷ xs)
  unfolding digits
  one_more k a x xs t =
      let l = between_low z hi x t in
      let u = between_high z hi x t in
      let small : x - z < b = omega arith in
      let q : (a * b + (x - z)) / b ≡ a = mul-add-div_right base a (x - z) ∙ rw (div-eq_of_lt small) (add-zero a) in
      let m : (a * b + (x - z)) % b ≡ x - z = mul-add-mod_self_right a b (x - z) ∙ mod-eq_of_lt small in
      let e : z + (x - z) ≡ x = omega arith in
      rw (q, m, e) (append_assoc (digits b z k a) (x ∷ []) xs)

  digits_from : (s : List ℕ) → all (between z hi) s ≡ true → (k a : ℕ) → digits b z (k + length s) (number b z a s) ≡ digits b z k a ++ s
  unfolding number
  digits_from [] t k a = rw (add-zero k) (sym (append-nil (digits b z k a)))
  digits_from (x ∷ xs) t k a =
      let e : k + suc (length xs) ≡ suc k + length xs = omega arith in
      rw e (digits_from xs (both_right (between z hi x) (all (between z hi) xs) t) (suc k) (a * b + (x - z)) ∙ one_more k a x xs (both_left (between z hi x) (all (between z hi) xs) t))

  pub digits_number : (s : List ℕ) → all (between z hi) s ≡ true → digits b z (length s) (number b z 0 s) ≡ s
  unfolding digits
  digits_number s t = rw (← zero-add (length s)) (digits_from s t 0 0)

-- Room for what is read, in a base over 1: a number of i digits that are each worth at most 255.
bound_more : (c n d i : ℕ) → n * c + 255 ≤ 255 * suc c ^ i → d ≤ 255 → (n * suc c + d) * c + 255 ≤ 255 * suc c ^ (i + 1)
bound_more c n d i h k = rw (add-one i, pow-suc (suc c) i) (omega (arith, mul-le-mul_right (suc c) h, mul-le-mul_right c k))

pub number_bound : (b n d i : ℕ) → 1 < b → n * (b - 1) + 255 ≤ 255 * b ^ i → d < 256 → (n * b + d) * (b - 1) + 255 ≤ 255 * b ^ (i + 1)
number_bound zero n d i p h k = absurd (omega arith)
number_bound (suc c) n d i p h k =
    let e : suc c - 1 ≡ c = omega arith in
    rw e (bound_more c n d i (rw e at h) (omega arith))

pub number_fits : (b n d i w : ℕ) → 1 < b → n * (b - 1) + 255 ≤ 255 * b ^ i → d < 256 → i < w → 255 * b ^ w ≤ (b - 1) * 2 ^ 64 → n * b + d < 2 ^ 64
number_fits b n d i w p h k l r =
    let t : 255 * b ^ (i + 1) ≤ 255 * b ^ w = mul-le-mul_left 255 (pow-le-pow_right {n = b} (omega arith) {i = i + 1} {j = w} (omega arith)) in
    let u : (n * b + d) * (b - 1) + 255 ≤ 255 * b ^ (i + 1) = number_bound b n d i p h k in
    lt_of_mul-lt-mul_right (b - 1) (omega arith)

-- What a reader of at most m bytes answers of no more, and of a part so short.
pub number_read : (b z m n : ℕ) (s : List ℕ) → length s ≤ m → n ≡ cond (leb (length s) m) (number b z 0 s) 0 → n ≡ number b z 0 s
number_read b z m n s h e = e ∙ rw (le-leb (length s) m h)

pub part_number : (b z m n : ℕ) (s : List ℕ) (a w : ℕ) → w ≤ m → n ≡ cond (leb (length (take w (drop a s))) m) (number b z 0 (take w (drop a s))) 0 → n ≡ number b z 0 (take w (drop a s))
part_number b z m n s a w h e = number_read b z m n (take w (drop a s)) (omega (arith, length-take w (drop a s))) e

pub part_big_endian : (n : ℕ) (s : List ℕ) (a w : ℕ) → w ≤ 8 → n ≡ cond (leb (length (take w (drop a s))) 8) (number 256 0 0 (take w (drop a s))) 0 → n ≡ number 256 0 0 (take w (drop a s))
part_big_endian = part_number 256 0 8
