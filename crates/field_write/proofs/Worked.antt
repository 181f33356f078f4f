-- Fields of the house table, worked out: their bytes, and what either writer says of a content. Assumes nothing.
use Prim.Native.Nat.{ℕ}
use mathlib.Core.Path.{◌≡◌, refl}
use mathlib.Core.List.{List, [], ◌∷◌}
use Rattle.octets.specs.Lists.{between}
use Rattle.octets.specs.Numbers.{digits}
use Rattle.refusal.specs.Numbers.{length_not_allowed, text_not_ascii}
use Rattle.refusal.specs.Refusals.{good, bad}
use Rattle.field_table.specs.House.{house_rows, house}
use Rattle.field_write.specs.Fields.{is_allowed_length, text_fault, exact_fault, clean_fault, missing, padded, cleaned, field_bytes}

-- `5`, `12` and `C12345`
abbrev five : List ℕ
five = 0x35 ∷ []

abbrev twelve : List ℕ
twelve = 0x31 ∷ 0x32 ∷ []

abbrev credit : List ℕ
credit = 0x43 ∷ 0x31 ∷ 0x32 ∷ 0x33 ∷ 0x34 ∷ 0x35 ∷ []

pub record Worked : Type 0 where
  -- field 25, n of 2: `05`
  pub n_padded : field_bytes house 25 five ≡ 0x30 ∷ 0x35 ∷ []
  -- field 39, an of 2: `5` and a space
  pub an_padded : field_bytes house 39 five ≡ 0x35 ∷ 0x20 ∷ []
  -- field 28, x+n of 9: three spaces, as all others
  pub xn_padded : field_bytes house 28 credit ≡ 0x43 ∷ 0x31 ∷ 0x32 ∷ 0x33 ∷ 0x34 ∷ 0x35 ∷ 0x20 ∷ 0x20 ∷ 0x20 ∷ []
  -- field 64, b of 8: two zero bytes
  pub b_padded : field_bytes house 64 credit ≡ 0x43 ∷ 0x31 ∷ 0x32 ∷ 0x33 ∷ 0x34 ∷ 0x35 ∷ 0x00 ∷ 0x00 ∷ []
  -- field 27, n of 1: not cut
  pub not_cut : field_bytes house 27 twelve ≡ twelve
  -- field 2, up to 19 with two digits: `0212`
  pub two_digits : field_bytes house 2 twelve ≡ 0x30 ∷ 0x32 ∷ 0x31 ∷ 0x32 ∷ []
  -- field 48, up to 999 with three: `000` where it is empty
  pub three_digits : field_bytes house 48 [] ≡ 0x30 ∷ 0x30 ∷ 0x30 ∷ []
  -- too short, for the exact writer only; too long, for both; and an empty variable content for neither
  pub short_exact : exact_fault house 25 five ≡ bad length_not_allowed
  pub short_clean : clean_fault house 25 five ≡ good
  pub long_clean : clean_fault house 27 twelve ≡ bad length_not_allowed
  pub empty_exact : exact_fault house 48 [] ≡ good
  -- 0x80 is no text; the length is tested before it
  pub high_text : exact_fault house 27 (0x80 ∷ []) ≡ bad text_not_ascii
  pub length_first : exact_fault house 25 (0x80 ∷ []) ≡ bad length_not_allowed

pub worked : Worked
unfolding field_bytes cleaned missing padded digits exact_fault clean_fault is_allowed_length text_fault between house house_rows
worked =
    record {
      n_padded = refl;
      an_padded = refl;
      xn_padded = refl;
      b_padded = refl;
      not_cut = refl;
      two_digits = refl;
      three_digits = refl;
      short_exact = refl;
      short_clean = refl;
      long_clean = refl;
      empty_exact = refl;
      high_text = refl;
      length_first = refl;
    }
