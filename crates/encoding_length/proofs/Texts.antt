-- The digits of an indicator as text, and the text in each encoding. Assumes nothing.
use Prim.Native.Nat.{ℕ, ◌≤◌}
use mathlib.Core.Path.{◌≡◌, refl, sym, ◌∙◌}
use mathlib.Core.Bool.{true}
use mathlib.Core.List.{List, [], ◌∷◌}
use native.Mathlib.Omega.{arith}
use lib.ListN.{length, take, length-map}
use lib.Seq.{take_at, length-take-le}
use Rattle.std.specs.Prelude.{Result}
use Rattle.octets.specs.Lists.{all, lay, placed}
use Rattle.octets.specs.Numbers.{is_digit, is_ascii, decimal}
use Rattle.octets.proofs.Cases.{both_left, both_right}
use Rattle.octets.proofs.Lists.{is_between, between_high, placed_fits, placed_length}
use Rattle.octets.proofs.Numbers.{digits_length, digits_between}
use Rattle.refusal.proofs.Conversions.{room_fits}
use Rattle.refusal.specs.Refusals.{Test, good, room, converted, converted_into}
use Rattle.refusal.specs.declared.Refusal.{Refusal}
use Rattle.encoding_bcd.specs.Bcd.{encode_fault as bcd_encode_fault}
use Rattle.encoding_bcd.proofs.Unpacking.{unpacked_length}
use Rattle.encoding_ebcdic.specs.Ebcdic.{ascii_of, encode_fault as ascii_fault}
use Rattle.encoding_length.specs.Lengths.{size_of, spelt, text_of, encode_fault}
use Rattle.encoding_length.specs.declared.Encoding.{Encoding}
use Rattle.encoding_length.specs.declared.Encoding.TheVariants.{Ascii, Bcd, Ebcdic}
use Rattle.encoding_length.proofs.Widths.{width_most, fault_width}

-- a conversion is the same where its fault and its bytes are
pub same_conversion : (f g : Test) (a b d o : List ℕ) (r : Result ℕ Refusal) → f ≡ g → a ≡ b → (r ≡ converted f a d) × (o ≡ converted_into f a d) → (r ≡ converted g b d) × (o ≡ converted_into g b d)
same_conversion f g a b d o r p q h = (h.0 ∙ rw (p, q), h.1 ∙ rw (p, q))

-- what was laid over the front of a buffer is its front
pub front : (n : ℕ) (r d : List ℕ) → length r ≡ n → take n (lay r d) ≡ r
unfolding lay
front n r d e = take_at r _ n e

-- the digits of n, once they are written into a text of three characters: d is the text as it was, t as it is
module _ (fault : Test) (w n : ℕ) (tested : fault ≡ encode_fault w n) (clean : fault ≡ good) (d t : List ℕ) (three : length d ≡ 3) (written : t ≡ placed (decimal w n) d) where
  within : w ≤ length d
  within = omega (arith, width_most w (fault_width fault w n tested clean))

  pub text_room_lem : w ≤ length t
  text_room_lem = rw (written, placed_length) within

  pub text_count : w ≡ length (take w t)
  text_count = sym (length-take-le w t text_room_lem)

  digits_text : take w t ≡ decimal w n
  digits_text = rw (written, placed_fits (decimal w n) d w (digits_length 10 48 w n) within) (front w (decimal w n) d (digits_length 10 48 w n))

  pub text_digits : all is_digit (take w t) ≡ true
  text_digits = rw digits_text (digits_between 10 48 57 w n (omega arith) (omega arith))

  -- r and o are the answer and the output of writing that text in the encoding e
  pub encoded_answer : (e : Encoding) (out : List ℕ) (r : Result ℕ Refusal) → r ≡ converted good (spelt e (take w t)) out → r ≡ converted (encode_fault w n) (spelt e (decimal w n)) out
  encoded_answer e out r h = h ∙ rw (digits_text, ← tested, clean)

  pub encoded_output : (e : Encoding) (out o : List ℕ) → o ≡ converted_into good (spelt e (take w t)) out → o ≡ converted_into (encode_fault w n) (spelt e (decimal w n)) out
  encoded_output e out o h = h ∙ rw (digits_text, ← tested, clean)

-- digits are refused in no encoding
digits_ascii : (t : List ℕ) → all is_digit t ≡ true → all is_ascii t ≡ true
digits_ascii [] d = refl
digits_ascii (x ∷ t) d =
    rw (is_between 0 127 x (omega arith) (omega (arith, between_high 48 57 x (both_left (is_digit x) (all is_digit t) d))))
    (digits_ascii t (both_right (is_digit x) (all is_digit t) d))

pub ascii_clean : (t : List ℕ) → all is_digit t ≡ true → ascii_fault t ≡ good
unfolding ascii_fault
ascii_clean t d = rw (digits_ascii t d)

pub bcd_clean : (t : List ℕ) → all is_digit t ≡ true → bcd_encode_fault t ≡ good
unfolding bcd_encode_fault
bcd_clean t d = rw d

-- copied bytes that fit are laid over the output
pub copied : (r d e : List ℕ) → e ≡ placed r d → good ≡ room (length r) (length d) → e ≡ lay r d
copied r d e w h =
    w ∙ placed_fits r d (length r) refl (room_fits (length r) (length d) h)

-- the bytes of w digits spell w characters
pub text_length : (e : Encoding) (w : ℕ) (s : List ℕ) → length s ≡ size_of e w → length (text_of e w s) ≡ w
unfolding size_of text_of
text_length Ascii w s h = h
text_length Bcd w s h = unpacked_length w s h
text_length Ebcdic w s h = length-map s ascii_of ∙ h
