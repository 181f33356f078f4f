-- A length that is encoded is decoded again, and an indicator that is decoded is encoded again, over the digit count and
-- the encoding. Assumes nothing.
use Prim.Native.Nat.{ℕ}
use mathlib.Core.Path.{◌≡◌, refl, sym, ap, ◌∙◌}
use mathlib.Core.Bool.{true}
use mathlib.Core.List.{List}
use native.Mathlib.Omega.{arith}
use lib.ListN.{length, length-map}
use borrow.Author.Tests.{eq-eqb, ne_eqb}
use Rattle.std.specs.Prelude.{Ok, Err}
use Rattle.octets.specs.Lists.{all}
use Rattle.octets.specs.Numbers.{is_digit, decimal, decimal_of}
use Rattle.octets.proofs.Cases.{by_bool, by_eq}
use Rattle.octets.proofs.Numbers.{digits_length, digits_between, number_digits, digits_number}
use Rattle.refusal.specs.Numbers.{length_needs_digits, byte_count_wrong, length_not_digits}
use Rattle.refusal.specs.Refusals.{plain, good}
use Rattle.refusal.proofs.Tests.{bad_good, by_test}
use Rattle.encoding_bcd.proofs.Packing.{packed_length}
use Rattle.encoding_bcd.proofs.RoundTrip.{unpacked_packed, packed_decodes, packed_unpacked}
use Rattle.encoding_ebcdic.specs.Ebcdic.{ebcdic_of}
use Rattle.encoding_ebcdic.proofs.RoundTrip.{decoded_encoded, encoded_decodes, encoded_decoded}
use Rattle.encoding_length.specs.Lengths.{is_width, size_of, spelt, text_of, encode_fault, alphabet_fault, decode_fault, measured}
use Rattle.encoding_length.specs.declared.Encoding.{Encoding}
use Rattle.encoding_length.specs.declared.Encoding.TheVariants.{Ascii, Bcd, Ebcdic}
use Rattle.encoding_length.proofs.Widths.{fault_width, fault_fits}
use Rattle.encoding_length.proofs.Texts.{ascii_clean, text_length}
use Rattle.encoding_length.proofs.Measures.{measured_passes}

-- digits in each encoding: their bytes, that they are not refused, and that they come back
spelt_length : (e : Encoding) (t : List ℕ) → length (spelt e t) ≡ size_of e (length t)
unfolding spelt size_of
spelt_length Ascii t = refl
spelt_length Bcd t = packed_length t
spelt_length Ebcdic t = length-map t ebcdic_of

spelt_clean : (e : Encoding) (t : List ℕ) → all is_digit t ≡ true → alphabet_fault e (length t) (spelt e t) ≡ good
unfolding spelt alphabet_fault
spelt_clean Ascii t d = ascii_clean t d
spelt_clean Bcd t d = packed_decodes t d
spelt_clean Ebcdic t d = encoded_decodes t (ascii_clean t d)

text_spelt : (e : Encoding) (t : List ℕ) → all is_digit t ≡ true → text_of e (length t) (spelt e t) ≡ t
unfolding spelt text_of
text_spelt Ascii t d = refl
text_spelt Bcd t d = unpacked_packed t d
text_spelt Ebcdic t d = decoded_encoded t (ascii_clean t d)

module _ (e : Encoding) (w n : ℕ) (taken : encode_fault w n ≡ good) where
  digits : all is_digit (decimal w n) ≡ true
  digits = digits_between 10 48 57 w n (omega arith) (omega arith)

  long : length (decimal w n) ≡ w
  long = digits_length 10 48 w n

  text : text_of e w (spelt e (decimal w n)) ≡ decimal w n
  text = rw long at (text_spelt e (decimal w n) digits)

  -- The bytes of a length that is not refused are not refused in decoding.
  pub spelt_decodes : decode_fault e w (spelt e (decimal w n)) ≡ good
  unfolding decode_fault
  spelt_decodes =
      let size : length (spelt e (decimal w n)) ≡ size_of e w = spelt_length e (decimal w n) ∙ ap (size_of e) long in
      let clean : alphabet_fault e w (spelt e (decimal w n)) ≡ good = rw long at (spelt_clean e (decimal w n) digits) in
      rw (fault_width good w n (sym taken) refl, eq-eqb _ _ size, clean, decode_fault, text, digits)

  -- A length of which encoding in w digits is not refused is what decoding its bytes answers, in every encoding.
  pub measured_encoded : measured e w (spelt e (decimal w n)) ≡ Ok n
  measured_encoded =
      sym (measured_passes e w (spelt e (decimal w n)) spelt_decodes)
      ∙ rw (text, number_digits 10 48 w n (omega arith) (fault_fits good w n (sym taken) refl))

-- bytes that are not refused come back from their text
spelt_text : (e : Encoding) (w : ℕ) (s : List ℕ) → alphabet_fault e w s ≡ good → spelt e (text_of e w s) ≡ s
unfolding spelt text_of alphabet_fault
spelt_text Ascii w s z = refl
spelt_text Bcd w s z = packed_unpacked w s z
spelt_text Ebcdic w s z = encoded_decoded s z

-- what a source without fault is: the tests, in their order
module _ (e : Encoding) (w : ℕ) (s : List ℕ) (taken : decode_fault e w s ≡ good) where
  width_good : is_width w ≡ true
  unfolding decode_fault
  width_good = by_bool (is_width w) (λ t. t) (λ t. bad_good length_needs_digits (rw t at taken))

  size_good : length s ≡ size_of e w
  unfolding decode_fault
  size_good =
      by_eq (length s) (size_of e w) (λ h. h)
      (λ h. bad_good byte_count_wrong (rw (width_good, ne_eqb (length s) (size_of e w) h) at taken))

  alphabet_good : alphabet_fault e w s ≡ good
  unfolding decode_fault
  alphabet_good =
      by_test (alphabet_fault e w s) (λ z. z)
      (λ c h. bad_good c (rw (width_good, eq-eqb (length s) (size_of e w) size_good, h, decode_fault) at taken))

  digits_good : all is_digit (text_of e w s) ≡ true
  unfolding decode_fault
  digits_good =
      by_bool (all is_digit (text_of e w s)) (λ t. t)
      (λ t. bad_good length_not_digits (rw (width_good, eq-eqb (length s) (size_of e w) size_good, alphabet_good, decode_fault, t) at taken))

measured_good : (e : Encoding) (w : ℕ) (s : List ℕ) (n : ℕ) → measured e w s ≡ Ok n → decode_fault e w s ≡ good
unfolding measured
measured_good e w s n m =
    by_test (decode_fault e w s) (λ z. z)
    (λ c h.
    let clash : Err (plain c) ≡ Ok n = rw (h, measured) at m in
    let never : ◌≡◌ {A = ℕ} 0 1 = cc in
    absurd (omega arith))

-- Bytes that decode to a length are its own bytes: no two indicators of one digit count and encoding spell one length.
pub encoded_measured : (e : Encoding) (w : ℕ) (s : List ℕ) (n : ℕ) → measured e w s ≡ Ok n → spelt e (decimal w n) ≡ s
encoded_measured e w s n m =
    let taken = measured_good e w s n m in
    let same : Ok (decimal_of (text_of e w s)) ≡ Ok n = measured_passes e w s taken ∙ m in
    let value : decimal_of (text_of e w s) ≡ n = cc in
    let long = text_length e w s (size_good e w s taken) in
    let back : decimal (length (text_of e w s)) n ≡ text_of e w s = rw (← value) (digits_number 10 48 57 (omega arith) (omega arith) (text_of e w s) (digits_good e w s taken)) in
    ap (spelt e) (ap (λ (k : ℕ). decimal k n) (sym long) ∙ back) ∙ spelt_text e w s (alphabet_good e w s taken)
