-- Small indicators, computed: the slip of writing 100 into two digits, and one length in each encoding. Assumes nothing.
use mathlib.Core.Path.{◌≡◌, refl}
use mathlib.Core.List.{[], ◌∷◌}
use Rattle.octets.specs.Numbers.{digits, decimal}
use Rattle.refusal.specs.Numbers.{length_needs_digits}
use Rattle.refusal.specs.Refusals.{bad}
use Rattle.encoding_bcd.specs.Bcd.{packed, evened, paired}
use Rattle.encoding_ebcdic.specs.Ebcdic.{table, ebcdic_of}
use Rattle.encoding_length.specs.Lengths.{is_width, spelt, encode_fault}
use Rattle.encoding_length.specs.declared.Encoding.TheVariants.{Ascii, Bcd, Ebcdic}

-- 01: "Writing 100 into two digits, as `encode_length` and the LL writer do": it is refused.
pub hundred_in_two : encode_fault 2 100 ≡ bad length_needs_digits
unfolding encode_fault is_width
hundred_in_two = refl

-- 123 in three digits: `123` in ASCII, 01 23 in BCD, F1 F2 F3 in EBCDIC.
pub in_ascii : spelt Ascii (decimal 3 123) ≡ 0x31 ∷ 0x32 ∷ 0x33 ∷ []
unfolding spelt digits
in_ascii = refl

pub in_bcd : spelt Bcd (decimal 3 123) ≡ 0x01 ∷ 0x23 ∷ []
unfolding spelt digits packed evened paired
in_bcd = refl

pub in_ebcdic : spelt Ebcdic (decimal 3 123) ≡ 0xF1 ∷ 0xF2 ∷ 0xF3 ∷ []
unfolding spelt digits ebcdic_of table
in_ebcdic = refl
