-- Bytes into digits, over the digit count. Assumes nothing.
use Prim.Native.Nat.{ℕ, zero, suc, ◌+◌, ◌/◌, ◌%◌, ◌<◌, ◌≤◌}
use mathlib.Core.Path.{◌≡◌, refl}
use mathlib.Core.Bool.{true}
use mathlib.Core.List.{List, [], ◌∷◌}
use native.Mathlib.Omega.{arith}
use lib.Dec.{leb}
use lib.ListN.{length, get_or, length-drop}
use lib.Seq.{get_or-drop}
use borrow.Author.Tests.{le-leb, leb-true}
use Rattle.octets.proofs.Cases.{both_left, both_right}
use Rattle.encoding_bcd.specs.Bcd.{bytes_of, spread, unpacked, is_bcd}

pub spread_length : (s : List ℕ) → length (spread s) ≡ length s + length s
unfolding spread
spread_length [] = refl
spread_length (b ∷ s) = omega (arith, spread_length s)

pub spread_even : (s : List ℕ) (j : ℕ) → j < length s + length s → j % 2 ≡ 0 → 48 + get_or s (j / 2) 0 / 16 ≡ get_or (spread s) j 0
unfolding spread
spread_even [] j h e = absurd (omega arith)
spread_even (b ∷ s) zero h e = refl
spread_even (b ∷ s) (suc zero) h e = absurd (omega arith)
spread_even (b ∷ s) (suc (suc j)) h e =
    let f : suc (suc j) / 2 ≡ suc (j / 2) = omega arith in
    rw f (spread_even s j (omega arith) (omega arith))

pub spread_odd : (s : List ℕ) (j : ℕ) → j < length s + length s → (j % 2 ≡ 0 → ⊥) → 48 + get_or s (j / 2) 0 % 16 ≡ get_or (spread s) j 0
unfolding spread
spread_odd [] j h e = absurd (omega arith)
spread_odd (b ∷ s) zero h e = absurd (e refl)
spread_odd (b ∷ s) (suc zero) h e = refl
spread_odd (b ∷ s) (suc (suc j)) h e =
    let f : suc (suc j) / 2 ≡ suc (j / 2) = omega arith in
    rw f (spread_odd s j (omega arith) (λ (z : j % 2 ≡ 0). e (omega arith)))

pub unpacked_length : (n : ℕ) (s : List ℕ) → length s ≡ bytes_of n → length (unpacked n s) ≡ n
unfolding unpacked
unpacked_length n s h = simp length-drop (omega (arith, spread_length s))

pub unpacked_at : (n : ℕ) (s : List ℕ) (i : ℕ) → get_or (spread s) (n % 2 + i) 0 ≡ get_or (unpacked n s) i 0
unfolding unpacked
unpacked_at n s i = rw get_or-drop

-- is_bcd as facts
pub high_most : (b : ℕ) → is_bcd b ≡ true → b / 16 ≤ 9
unfolding is_bcd
high_most b t = leb-true (b / 16) 9 (both_left (leb (b / 16) 9) (leb (b % 16) 9) t)

pub low_most : (b : ℕ) → is_bcd b ≡ true → b % 16 ≤ 9
unfolding is_bcd
low_most b t = leb-true (b % 16) 9 (both_right (leb (b / 16) 9) (leb (b % 16) 9) t)

pub none_over : (b : ℕ) → b / 16 ≤ 9 → b % 16 ≤ 9 → is_bcd b ≡ true
unfolding is_bcd
none_over b h k = rw (le-leb (b / 16) 9 h, le-leb (b % 16) 9 k)
