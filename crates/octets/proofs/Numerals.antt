-- Numerals: how long they are, that they spell their number, and that none has a leading zero. Assumes nothing.
use Prim.Native.Nat.{ℕ, zero, suc, ◌+◌, ◌*◌, ◌/◌, ◌%◌, ◌^◌, ◌≤◌, ◌<◌, max}
use mathlib.Core.Path.{◌≡◌, refl, sym}
use mathlib.Core.List.{List, [], ◌∷◌, ◌++◌, append_assoc, append-nil}
use native.Mathlib.Omega.{arith}
use native.Mathlib.Nat.{one-le-pow, pow-suc, pow-le-pow_right, div-lt_iff_lt-mul}
use lib.ListN.{length, get_or}
use borrow.Author.Tests.{lt-ltb, le-ltb}
use Rattle.octets.specs.Numbers.{digits, decimal, decimal_of}
use Rattle.octets.specs.Numerals.{digits_within, digit_count, numeral}
use Rattle.octets.proofs.Cases.{by_lt}
use Rattle.octets.proofs.Numbers.{digits_length, number_digits}

-- one digit, or one more than its tenth has
within_one : (k n : ℕ) → n < 10 → digits_within k n ≡ 1
unfolding digits_within
within_one zero n h = refl
within_one (suc k) n h = rw (digits_within, lt-ltb n 10 h)

within_none : (n : ℕ) → digits_within 0 n ≡ 1
unfolding digits_within
within_none n = refl

within_more : (k n : ℕ) → 10 ≤ n → digits_within (suc k) n ≡ suc (digits_within k (n / 10))
unfolding digits_within
within_more k n h = rw (digits_within, le-ltb n 10 h)

-- no more of them than the number needs
within_most : (k w n : ℕ) → n < 10 ^ suc w → digits_within k n ≤ suc w
within_most zero w n h = omega (arith, within_none n)
within_most (suc k) zero n h = rw (within_one (suc k) n (omega (arith, h))) (omega arith)
within_most (suc k) (suc w) n h =
    by_lt n 10
    (λ s. rw (within_one (suc k) n s) (omega arith))
    (λ s.
    let t : n / 10 < 10 ^ suc w = (div-lt_iff_lt-mul {k = 10} (omega arith)).1 (rw (pow-suc 10 (suc w)) at h) in
    rw (within_more k n s) (omega (arith, within_most k w (n / 10) t)))

pub count_most : (w n : ℕ) → n < 10 ^ suc w → digit_count n ≤ suc w
unfolding digit_count
count_most w n h = within_most n w n h

-- as many as the number needs
within_enough : (k n : ℕ) → n ≤ k → n < 10 ^ digits_within k n
within_enough zero n h = rw (within_one 0 n (omega arith)) (omega arith)
within_enough (suc k) n h =
    by_lt n 10
    (λ s. rw (within_one (suc k) n s) (omega arith))
    (λ s.
    let t : n / 10 < 10 ^ digits_within k (n / 10) = within_enough k (n / 10) (omega arith) in
    rw (within_more k n s, pow-suc) ((div-lt_iff_lt-mul {k = 10} (omega arith)).0 t))

-- one more than the power of ten that it reaches; 0 has one digit, as 1 has
pub count_power : (n k : ℕ) → 10 ^ k ≤ max n 1 → max n 1 < 10 * 10 ^ k → k + 1 ≡ digit_count n
unfolding digit_count
count_power zero zero l u = sym (within_none 0)
count_power zero (suc k) l u = absurd (omega (arith, pow-suc 10 k, one-le-pow k 10 (omega arith)))
count_power (suc n) k l u =
    let most : digits_within (suc n) (suc n) ≤ suc k = within_most (suc n) k (suc n) (rw pow-suc (omega arith)) in
    by_lt k (digits_within (suc n) (suc n))
    (λ h. omega arith)
    (λ h. absurd (omega (arith, within_enough (suc n) (suc n) (omega arith), pow-le-pow_right {n = 10} (omega arith) {i = digits_within (suc n) (suc n)} {j = k} h)))

pub numeral_length : (n : ℕ) → length (numeral n) ≡ digit_count n
unfolding numeral
numeral_length n = digits_length 10 48 (digit_count n) n

pub numeral_most : (w n : ℕ) → n < 10 ^ suc w → length (numeral n) ≤ suc w
numeral_most w n h = rw (numeral_length n) (count_most w n h)

-- A numeral spells its number.
pub numeral_value : (n : ℕ) → decimal_of (numeral n) ≡ n
unfolding numeral digit_count
numeral_value n = number_digits 10 48 (digits_within n n) n (omega arith) (within_enough n n (omega arith))

-- Its first digit is no zero, where the number is not 0.
first_digit : (k n : ℕ) (s : List ℕ) → n ≤ k → 0 < n → 48 < get_or (decimal (digits_within k n) n ++ s) 0 0
unfolding digits
first_digit zero n s h p = absurd (omega arith)
first_digit (suc k) n s h p =
    by_lt n 10
    (λ l. rw (within_one (suc k) n l) (omega arith))
    (λ l.
    rw (within_more k n l, append_assoc (decimal (digits_within k (n / 10)) (n / 10)) ((48 + n % 10) ∷ []) s)
    (first_digit k (n / 10) ((48 + n % 10) ∷ s) (omega arith) (omega arith)))

pub numeral_first : (n : ℕ) → 0 < n → 48 < get_or (numeral n) 0 0
unfolding numeral digit_count
numeral_first n p = rw (← append-nil (decimal (digits_within n n) n)) (first_digit n n [] (omega arith) p)
