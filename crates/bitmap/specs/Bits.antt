-- Bits of bytes. 01: "Bit f is counted from the high bit of the first byte, from 1."
--
--   bit_in x i      == bit i of the byte x, counted from the high bit, from 0
--   bit_of s f      == bit f of the bytes s; there is no bit 0 and none past the end
--   bit p           == 1 where p is true, else 0
--   byte_of p f     == the byte whose bits are p f to p (f + 7), the first the highest
--   bytes_of p k f  == k such bytes, from p f on
--   with_bit x i    == the byte x with its bit i set
--
-- Assumes nothing: these are definitions.
use Rattle.std.specs.Prelude.{ℕ, zero, suc, ◌+◌, ◌-◌, ◌*◌, ◌/◌, ◌%◌, ◌^◌, Bool, true, false, cond, List, [], ◌∷◌, get_or, eqb}

abbrev pub bit_in : ℕ → ℕ → Bool
bit_in x i = eqb (x / 2 ^ (7 - i) % 2) 1

unfoldable pub bit_of : List ℕ → ℕ → Bool
bit_of s f = cond (eqb f 0) false (bit_in (get_or s ((f - 1) / 8) 0) ((f - 1) % 8))

abbrev pub bit : Bool → ℕ
bit true = 1
bit false = 0

unfoldable pub byte_of : (ℕ → Bool) → ℕ → ℕ
byte_of p f =
    128 * bit (p f) + 64 * bit (p (f + 1)) + 32 * bit (p (f + 2)) + 16 * bit (p (f + 3))
    + 8 * bit (p (f + 4)) + 4 * bit (p (f + 5)) + 2 * bit (p (f + 6)) + bit (p (f + 7))

unfoldable pub bytes_of : (ℕ → Bool) → ℕ → ℕ → List ℕ
bytes_of p zero f = []
bytes_of p (suc k) f = byte_of p f ∷ bytes_of p k (f + 8)

unfoldable pub with_bit : ℕ → ℕ → ℕ
with_bit x i = cond (bit_in x i) x (x + 2 ^ (7 - i))
