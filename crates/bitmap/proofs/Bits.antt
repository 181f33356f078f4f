-- Bits of bytes: what the code's tests say of them, and that a byte is its eight bits. Assumes nothing.
use Prim.Native.Nat.{ℕ, suc, ◌+◌, ◌-◌, ◌*◌, ◌/◌, ◌%◌, ◌^◌, ◌≤◌, ◌<◌}
use mathlib.Core.Path.{◌≡◌, refl, sym, ap, ◌∙◌}
use mathlib.Core.Bool.{Bool, true, false}
use mathlib.Core.List.{List, [], ◌∷◌}
use native.Mathlib.Omega.{arith}
use native.Mathlib.Nat.{zero-div}
use lib.Dec.{T, eqb, ltb, eqb→eq, ltb→lt}
use Rattle.std.specs.Prelude.{bit_or}
use lib.ListN.{length, get_or, get_or-eq_default}
use borrow.Author.Tests.{eq-eqb, ne_eqb}
use Rattle.octets.specs.Lists.{either, between, all}
use Rattle.octets.proofs.Cases.{false_true, both_left, both_right}
use Rattle.octets.proofs.Lists.{between_high}
use Rattle.octets.proofs.Tables.{below, at}
use Rattle.bitmap.specs.Bits.{bit_in, bit_of, byte_of, bytes_of, with_bit}

-- There is no bit 0, and none past the end.
pub bit_zero : (s : List ℕ) (f : ℕ) → f ≡ 0 → false ≡ bit_of s f
unfolding bit_of
bit_zero s f e = rw (eq-eqb f 0 e)

pub bit_past : (s : List ℕ) (f : ℕ) → (f ≡ 0 → ⊥) → length s ≤ (f - 1) / 8 → false ≡ bit_of s f
unfolding bit_of
bit_past s f h k = rw (ne_eqb f 0 h, get_or-eq_default s 0 k, zero-div (2 ^ (7 - (f - 1) % 8)))

-- What a bit that is not set is worth fits in what is left of a byte.
room_test : ℕ → ℕ → Bool
room_test x i = either (bit_in x i) (ltb (x + 2 ^ (7 - i)) 256)

rooms_test : ℕ → Bool
unfolding room_test
rooms_test x = below (room_test x) 8

rooms : T (below rooms_test 256)
unfolding rooms_test room_test
rooms = tt

pub bit_room : (x i : ℕ) → x < 256 → i < 8 → (x / 2 ^ (7 - i) % 2 ≡ 1 → ⊥) → x + 2 ^ (7 - i) < 256
unfolding rooms_test room_test
bit_room x i h k n = go (bit_in x i) (ne_eqb (x / 2 ^ (7 - i) % 2) 1 n) (at (room_test x) 8 (at rooms_test 256 rooms x h) i k)
  where
    go : (b : Bool) → b ≡ false → T (either b (ltb (x + 2 ^ (7 - i)) 256)) → x + 2 ^ (7 - i) < 256
    go true e t = absurd (false_true (sym e))
    go false e t = ltb→lt (x + 2 ^ (7 - i)) 256 t

-- A bit is set by `|`. Computed at every byte and bit.
or_test : ℕ → ℕ → Bool
unfolding with_bit
or_test x i = eqb (bit_or x (128 / 2 ^ i)) (with_bit x i)

or_tests : ℕ → Bool
unfolding or_test
or_tests x = below (or_test x) 8

or_tested : T (below or_tests 256)
unfolding or_tests or_test with_bit
or_tested = tt

pub or_bit : (x i : ℕ) → x < 256 → i < 8 → bit_or x (128 / 2 ^ i) ≡ with_bit x i
unfolding or_tests or_test
or_bit x i h k = eqb→eq (bit_or x (128 / 2 ^ i)) (with_bit x i) (at (or_test x) 8 (at or_tests 256 or_tested x h) i k)

-- A byte is its eight bits.
byte_test : ℕ → Bool
unfolding byte_of
byte_test x = eqb (byte_of (bit_in x) 0) x

pub byte_is : (x : ℕ) → x < 256 → byte_of (bit_in x) 0 ≡ x
unfolding byte_test byte_of
byte_is x h = eqb→eq (byte_of (bit_in x) 0) x (at byte_test 256 tt x h)

-- p gives the bits of xs, from f on
pub Bits : (ℕ → Bool) → ℕ → List ℕ → Type 0
Bits p f xs = (j i : ℕ) → i < 8 → j < length xs → p (f + (8 * j + i)) ≡ bit_in (get_or xs j 0) i

byte_at : (p : ℕ → Bool) (f x : ℕ) (xs : List ℕ) → Bits p f (x ∷ xs) → byte_of p f ≡ byte_of (bit_in x) 0
unfolding byte_of Bits
byte_at p f x xs h =
    let e0 : p f ≡ bit_in x 0 = (let z : f ≡ f + (8 * 0 + 0) = omega arith in ap p z) ∙ h 0 0 (omega arith) (omega arith) in
    let e1 : p (f + 1) ≡ bit_in x 1 = h 0 1 (omega arith) (omega arith) in
    let e2 : p (f + 2) ≡ bit_in x 2 = h 0 2 (omega arith) (omega arith) in
    let e3 : p (f + 3) ≡ bit_in x 3 = h 0 3 (omega arith) (omega arith) in
    let e4 : p (f + 4) ≡ bit_in x 4 = h 0 4 (omega arith) (omega arith) in
    let e5 : p (f + 5) ≡ bit_in x 5 = h 0 5 (omega arith) (omega arith) in
    let e6 : p (f + 6) ≡ bit_in x 6 = h 0 6 (omega arith) (omega arith) in
    let e7 : p (f + 7) ≡ bit_in x 7 = h 0 7 (omega arith) (omega arith) in
    rw (e0, e1, e2, e3, e4, e5, e6, e7)

bits_tail : (p : ℕ → Bool) (f x : ℕ) (xs : List ℕ) → Bits p f (x ∷ xs) → Bits p (f + 8) xs
unfolding Bits
bits_tail p f x xs h j i hi hj =
    let z : f + 8 + (8 * j + i) ≡ f + (8 * suc j + i) = omega arith in
    ap p z ∙ h (suc j) i hi (omega arith)

bytes_are : (p : ℕ → Bool) (xs : List ℕ) → all (between 0 255) xs ≡ true → (f : ℕ) → Bits p f xs → bytes_of p (length xs) f ≡ xs
unfolding bytes_of
bytes_are p [] e f h = refl
bytes_are p (x ∷ xs) e f h =
    let u = between_high 0 255 x (both_left (between 0 255 x) (all (between 0 255) xs) e) in
    rw (byte_at p f x xs h, byte_is x (omega arith))
    (ap (λ (q : List ℕ). x ∷ q) (bytes_are p xs (both_right (between 0 255 x) (all (between 0 255) xs) e) (f + 8) (bits_tail p f x xs h)))

bits_of : (s : List ℕ) (p : ℕ → Bool) → ((f : ℕ) → 1 ≤ f → f ≤ 8 * length s → p f ≡ bit_of s f) → Bits p 1 s
unfolding Bits bit_of
bits_of s p h j i hi hj =
    let q : (1 + (8 * j + i) - 1) / 8 ≡ j = omega arith in
    let r : (1 + (8 * j + i) - 1) % 8 ≡ i = omega arith in
    h (1 + (8 * j + i)) (omega arith) (omega arith) ∙ rw (ne_eqb (1 + (8 * j + i)) 0 (λ (z : 1 + (8 * j + i) ≡ 0). omega arith), q, r)

-- bytes are given by their bits, counted from 1
pub bytes_of_bits : (p : ℕ → Bool) (s : List ℕ) → all (between 0 255) s ≡ true → ((f : ℕ) → 1 ≤ f → f ≤ 8 * length s → p f ≡ bit_of s f) → bytes_of p (length s) 1 ≡ s
bytes_of_bits p s e h = bytes_are p s e 1 (bits_of s p h)
