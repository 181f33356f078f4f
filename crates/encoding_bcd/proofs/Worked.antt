-- 01's worked case 10: "123 in BCD is 01 23 and back". Assumes nothing.
use Prim.Native.Nat.{ℕ}
use mathlib.Core.Path.{◌≡◌, refl}
use mathlib.Core.List.{List, [], ◌∷◌}
use Rattle.octets.specs.Lists.{between}
use Rattle.refusal.specs.Refusals.{good}
use Rattle.encoding_bcd.specs.Bcd.{evened, paired, packed, spread, unpacked, is_bcd, spare_zero, encode_fault, decode_fault}

-- the three digits and their two bytes
abbrev digits123 : List ℕ
digits123 = 0x31 ∷ 0x32 ∷ 0x33 ∷ []

abbrev bytes123 : List ℕ
bytes123 = 0x01 ∷ 0x23 ∷ []

-- 123 is not refused, and is 01 23 in BCD.
pub case_10 : (encode_fault digits123 ≡ good) × (packed digits123 ≡ bytes123)
unfolding encode_fault between packed evened paired
case_10 = (refl, refl)

-- And back: 01 23 is not refused as three digits, and they are 123, not 012.
pub case_10_back : (decode_fault 3 bytes123 ≡ good) × (unpacked 3 bytes123 ≡ digits123)
unfolding decode_fault is_bcd spare_zero unpacked spread
case_10_back = (refl, refl)
