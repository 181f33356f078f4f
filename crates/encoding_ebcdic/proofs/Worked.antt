-- 01's worked case 12: "`A1` is C1 F1 in EBCDIC". Assumes nothing.
use Prim.Native.Nat.{ℕ}
use mathlib.Core.Path.{◌≡◌, refl}
use mathlib.Core.List.{List, [], ◌∷◌, map}
use Rattle.octets.specs.Lists.{between}
use Rattle.refusal.specs.Refusals.{good}
use Rattle.encoding_ebcdic.specs.Ebcdic.{table, ascii_of, ebcdic_of, means_ascii, encode_fault, decode_fault}

-- the text `A1`, and its bytes
abbrev text_a1 : List ℕ
text_a1 = 0x41 ∷ 0x31 ∷ []

abbrev bytes_a1 : List ℕ
bytes_a1 = 0xC1 ∷ 0xF1 ∷ []

-- `A1` is not refused, and is C1 F1 in EBCDIC.
pub case_12 : (encode_fault text_a1 ≡ good) × (map ebcdic_of text_a1 ≡ bytes_a1)
unfolding encode_fault between ebcdic_of table
case_12 = (refl, refl)

-- And back.
pub case_12_back : (decode_fault bytes_a1 ≡ good) × (map ascii_of bytes_a1 ≡ text_a1)
unfolding decode_fault means_ascii between ascii_of table
case_12_back = (refl, refl)
