-- The bitmaps of an input, wherever they start, and however many are taken.
--
--   maps_of a s k       == the k bitmaps of the input s, the first at a
--   bitmaps_read a m s  == how many bitmaps the input s has, the first at a, where at most m are taken, or the refusal of one that is not
--                         whole, or is one more than m
--
-- Assumes nothing: these are definitions.
use Rattle.std.specs.Prelude.{ℕ, ◌+◌, ◌*◌, cond, List, length, take, drop, ltb, leb, Result, Ok, Err}
use Rattle.refusal.specs.Numbers.{bitmap_incomplete, bitmap_over_most}
use Rattle.refusal.specs.Refusals.{refusal}
use Rattle.refusal.specs.declared.Refusal.{Refusal}
use Rattle.bitmap.specs.Bits.{bit_of}

unfoldable pub maps_of : ℕ → List ℕ → ℕ → List ℕ
maps_of a s k = take (8 * k) (drop a s)

-- 01: "8 bytes of bitmap; 8 more if bit 1 is set; 8 more if bit 65, the first bit of the second bitmap, is set"; "4 the missing bitmap's start"
unfoldable pub bitmaps_read : ℕ → ℕ → List ℕ → Result ℕ Refusal
bitmaps_read a m s =
    cond (ltb (length s) (a + 8)) (Err (refusal bitmap_incomplete 0 a))
    (cond (bit_of (drop a s) 1)
    (cond (ltb (length s) (a + 16)) (Err (refusal bitmap_incomplete 0 (a + 8)))
    (cond (bit_of (drop a s) 65)
    (cond (leb 3 m)
    (cond (ltb (length s) (a + 24)) (Err (refusal bitmap_incomplete 0 (a + 16))) (Ok 3))
    (Err (refusal bitmap_over_most 0 (a + 8))))
    (Ok 2)))
    (Ok 1))
