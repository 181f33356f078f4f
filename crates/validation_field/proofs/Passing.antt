-- What it says of a content that it passes the field check (specs/Passing.antt). Assumes nothing.
use Prim.Native.Nat.{ℕ}
use mathlib.Core.Path.{◌≡◌, refl, ap, ◌∙◌}
use mathlib.Core.Bool.{Bool, true, false, cond}
use mathlib.Core.List.{List, [], ◌∷◌}
use native.Mathlib.Omega.{arith}
use lib.ListN.{length}
use Rattle.std.specs.Result.{is_ok}
use lib.Dec.{eqb}
use Rattle.octets.specs.Lists.{both, between, all}
use Rattle.octets.specs.Numbers.{is_digit, are_digits}
use Rattle.octets.proofs.Cases.{by_eq}
use Rattle.octets.proofs.Lists.{between_low, between_high}
use Rattle.refusal.specs.Numbers.{number_not_allowed, class_broken, length_not_allowed}
use Rattle.refusal.specs.Refusals.{good, bad}
use Rattle.refusal.specs.declared.Cause.{Cause}
use Rattle.refusal.proofs.Tests.{passed}
use Rattle.bitmap.specs.Bitmaps.{is_field}
use Rattle.field_table.specs.Table.{Table, table_of}
use Rattle.field_table.specs.House.{house, house_rows}
use Rattle.field_table.specs.declared.Class.TheVariants.{B}
use Rattle.field_class.specs.Classes.{conforms}
use Rattle.field_class.proofs.Text.{class_text}
use Rattle.field_write.specs.Fields.{is_allowed_length}
use Rattle.field_write.proofs.Allowed.{allowed_most, allowed_fixed_length, exact_passes}
use Rattle.validation_field.specs.Checks.{asks, first_failing, value_tests, field_tests, field_fault, is_currency}
use Rattle.validation_field.specs.Passing.{TakenByWriter, DecidesCurrency, MeasuresChip}

-- number, class and length hold of a content that passes
pub record Passes (t : Table) (f : ℕ) (s : List ℕ) : Type 0 where
  pub number : is_field f ≡ true
  pub class : conforms (t.class f) s ≡ true
  pub fits : is_allowed_length t f (length s) ≡ true
  pub value : first_failing (value_tests f s) ≡ good

pub passes : (t : Table) (f : ℕ) (s : List ℕ) → field_fault t f s ≡ good → Passes t f s
unfolding field_fault field_tests
passes t f s e =
    let last = asks (is_allowed_length t f (length s)) length_not_allowed ∷ value_tests f s in
    let number = passed (is_field f) (first_failing (asks (conforms (t.class f) s) class_broken ∷ last)) number_not_allowed e in
    let class = passed (conforms (t.class f) s) (first_failing last) class_broken number.1 in
    let fits = passed (is_allowed_length t f (length s)) (first_failing (value_tests f s)) length_not_allowed class.1 in
    record { number = number.0; class = class.0; fits = fits.0; value = fits.1 }

pub taken_by_writer : (t : Table) → TakenByWriter t
unfolding TakenByWriter
taken_by_writer t f s e =
    let p = passes t f s e in (
      p.number,
      exact_passes t f s record {
        fixed = allowed_fixed_length t f (length s) p.fits;
        clean = record { most = allowed_most t f (length s) p.fits; text = class_text (t.class f) s p.class };
      },
    )

-- Fields 49 to 51 are three digits long: what the check asks of them is what makes a currency code, in the other order.
only_then : (a b : Bool) (x y : Cause) → is_ok (cond a (cond b good (bad y)) (bad x)) ≡ both b a
only_then true true x y = refl
only_then true false x y = refl
only_then false true x y = refl
only_then false false x y = refl

at_49 : (s : List ℕ) → is_ok (field_fault house 49 s) ≡ is_currency s
unfolding field_fault field_tests value_tests are_digits house house_rows table_of is_field between is_allowed_length
at_49 s = only_then (all is_digit s) (eqb (length s) 3) class_broken length_not_allowed

at_50 : (s : List ℕ) → is_ok (field_fault house 50 s) ≡ is_currency s
unfolding field_fault field_tests value_tests are_digits house house_rows table_of is_field between is_allowed_length
at_50 s = only_then (all is_digit s) (eqb (length s) 3) class_broken length_not_allowed

at_51 : (s : List ℕ) → is_ok (field_fault house 51 s) ≡ is_currency s
unfolding field_fault field_tests value_tests are_digits house house_rows table_of is_field between is_allowed_length
at_51 s = only_then (all is_digit s) (eqb (length s) 3) class_broken length_not_allowed

pub decides_currency : DecidesCurrency house
unfolding DecidesCurrency
decides_currency f s h =
    let l = between_low _ _ f h in
    let u = between_high _ _ f h in
    by_eq f 49
    (λ e. ap (λ (g : ℕ). is_ok (field_fault house g s)) e ∙ at_49 s)
    (λ n. by_eq f 50
    (λ e. ap (λ (g : ℕ). is_ok (field_fault house g s)) e ∙ at_50 s)
    (λ m. let e : f ≡ 51 = omega (arith, l, u, n, m) in ap (λ (g : ℕ). is_ok (field_fault house g s)) e ∙ at_51 s))

-- any bytes are of class b
binary_conforms : (s : List ℕ) → conforms B s ≡ true
binary_conforms [] = refl
binary_conforms (x ∷ s) = binary_conforms s

pub measures_chip : MeasuresChip house
unfolding MeasuresChip field_fault field_tests value_tests house house_rows table_of is_field between is_allowed_length
measures_chip s = rw (binary_conforms s)
