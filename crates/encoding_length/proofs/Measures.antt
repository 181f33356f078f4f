-- The ends of decoding, in the order of its tests and with the facts as the code has them. Assumes nothing.
use Prim.Native.Nat.{ℕ, ◌≤◌}
use mathlib.Core.Path.{◌≡◌, sym, ap, ◌∙◌}
use mathlib.Core.Bool.{true, false, cond}
use mathlib.Core.List.{List}
use native.Mathlib.Omega.{arith}
use lib.ListN.{length, take}
use lib.Seq.{length-take-le}
use borrow.Author.Tests.{eq-eqb, ne_eqb}
use Rattle.std.specs.Prelude.{Result, Ok, Err}
use Rattle.octets.specs.Lists.{all, lay}
use Rattle.octets.specs.Numbers.{is_digit, decimal_of}
use Rattle.octets.proofs.Cases.{by_bool}
use Rattle.octets.proofs.Fronts.{lay_length}
use Rattle.refusal.specs.Numbers.{length_needs_digits, byte_count_wrong, length_not_digits}
use Rattle.refusal.specs.Refusals.{plain, Test, good, bad, told, converted, converted_into}
use Rattle.refusal.specs.declared.Cause.{Cause}
use Rattle.refusal.specs.declared.Refusal.{Refusal}
use Rattle.refusal.proofs.Tests.{by_test}
use Rattle.refusal.proofs.Conversions.{converted_fits, converted_into_fits, converted_fails}
use Rattle.encoding_length.specs.Lengths.{is_width, size_of, text_of, alphabet_fault, decode_fault, measured}
use Rattle.encoding_length.specs.declared.Encoding.{Encoding}
use Rattle.encoding_length.proofs.Widths.{width_most}
use Rattle.encoding_length.proofs.Texts.{front, text_length}

-- What is promised of decoding: a is the answer.
pub record Measures (a : Result ℕ Refusal) (e : Encoding) (w : ℕ) (s : List ℕ) : Type 0 where
  pub answers : a ≡ measured e w s
  pub tells : told a ≡ told (measured e w s)

pub measures : {a : Result ℕ Refusal} {e : Encoding} {w : ℕ} {s : List ℕ} → a ≡ measured e w s → Measures a e w s
measures h = record { answers = h; tells = ap told h }

module _ (e : Encoding) (w : ℕ) (s : List ℕ) where
  measured_fails : (c : Cause) → decode_fault e w s ≡ bad c → Err (plain c) ≡ measured e w s
  unfolding measured
  measured_fails c f = rw (f, measured)

  pub measured_passes : decode_fault e w s ≡ good → Ok (decimal_of (text_of e w s)) ≡ measured e w s
  unfolding measured
  measured_passes f = rw (f, measured)

  pub digits_wrong : is_width w ≡ false → Err (plain length_needs_digits) ≡ measured e w s
  unfolding decode_fault
  digits_wrong h = measured_fails length_needs_digits (rw h)

  pub bytes_wrong : is_width w ≡ true → (length s ≡ size_of e w → ⊥) → Err (plain byte_count_wrong) ≡ measured e w s
  unfolding decode_fault
  bytes_wrong t h = measured_fails byte_count_wrong (rw (t, ne_eqb (length s) (size_of e w) h))

-- d is the text as it was lent, with room for three characters
module _ (e : Encoding) (w : ℕ) (s d : List ℕ) (wide : is_width w ≡ true) (sized : length s ≡ size_of e w) (room : length d ≡ 3) where
  long : length (text_of e w s) ≡ w
  long = text_length e w s sized

  fits : w ≤ length d
  fits = omega (arith, width_most w wide)

  from_text : (t : Test) → alphabet_fault e w s ≡ t → decode_fault e w s ≡ elim t [ Ok x ↦ cond (all is_digit (text_of e w s)) good (bad length_not_digits) | Err c ↦ bad c ]
  unfolding decode_fault
  from_text t h = rw (wide, eq-eqb (length s) (size_of e w) sized, h, decode_fault)

  -- what writing the text refuses is what the test of its alphabet finds
  pub passed_up : {why : Refusal} → Err why ≡ converted (alphabet_fault e w s) (text_of e w s) d → Err why ≡ measured e w s
  passed_up {why} h =
      by_test (alphabet_fault e w s)
      (λ z.
      let clash : Err why ≡ Ok w = h ∙ sym (converted_fits _ d (sym z) long fits) in
      let never : ◌≡◌ {A = ℕ} 0 1 = cc in
      absurd (omega arith))
      (λ c z. h ∙ sym (converted_fails _ d (sym z)) ∙ measured_fails e w s c (from_text (bad c) z))

  -- it wrote n bytes, and left the text as o
  module _ {n : ℕ} (wrote : Ok n ≡ converted (alphabet_fault e w s) (text_of e w s) d) (o : List ℕ) (left : o ≡ converted_into (alphabet_fault e w s) (text_of e w s) d) where
    clean : (alphabet_fault e w s ≡ good) × (n ≡ w)
    clean =
        by_test (alphabet_fault e w s)
        (λ z. (z, (let same : Ok n ≡ Ok w = wrote ∙ sym (converted_fits _ d (sym z) long fits) in cc)))
        (λ c z.
        let clash : Ok n ≡ Err (plain c) = wrote ∙ sym (converted_fails _ d (sym z)) in
        let never : ◌≡◌ {A = ℕ} 0 1 = cc in
        absurd (omega arith))

    over : o ≡ lay (text_of e w s) d
    over = left ∙ sym (converted_into_fits _ d (sym clean.0) long fits)

    same : take n o ≡ text_of e w s
    same = rw over (front n (text_of e w s) d (long ∙ sym clean.1))

    pub read_room : n ≤ length o
    read_room = rw (over, lay_length (text_of e w s) d (omega (arith, long, fits)), clean.1) fits

    pub read_count : n ≡ length (take n o)
    read_count = sym (length-take-le n o read_room)

    pub read_few : length (take n o) ≤ 16
    read_few = omega (arith, read_count, clean.1, fits, room)

    -- and v is what measuring its characters answered
    pub measured_text : {v : Result ℕ Refusal} → v ≡ cond (all is_digit (take n o)) (Ok (decimal_of (take n o))) (Err (plain length_not_digits)) → v ≡ measured e w s
    measured_text told =
        let read = from_text good clean.0 in
        told ∙ rw same
        (by_bool (all is_digit (text_of e w s)) (λ t. rw t (measured_passes e w s (read ∙ rw t)))
        (λ t. rw t (measured_fails e w s length_not_digits (read ∙ rw t))))
