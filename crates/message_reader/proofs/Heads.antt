-- The head of a message: what it means that it is read. Assumes nothing.
use Prim.Native.Nat.{ℕ, ◌≤◌}
use mathlib.Core.Path.{◌≡◌, sym, ◌∙◌}
use mathlib.Core.Bool.{true}
use mathlib.Core.List.{List}
use native.Mathlib.Omega.{arith}
use lib.ListN.{length, take}
use lib.Seq.{length-take-le}
use borrow.Author.Tests.{lt-ltb, le-ltb, eq-eqb, eqb-true}
use Rattle.std.specs.Prelude.{Ok}
use Rattle.octets.specs.Lists.{all, lead}
use Rattle.octets.specs.Numbers.{is_digit}
use Rattle.octets.proofs.Cases.{by_lt}
use Rattle.octets.proofs.Lists.{lead_all, lead_most}
use Rattle.refusal.specs.Numbers.{message_too_short, mti_not_digits}
use Rattle.refusal.specs.Refusals.{refusal, plain}
use Rattle.bitmap_read.proofs.Found.{FoundMaps, maps_least, maps_found, maps_read}
use Rattle.message_reader.specs.Reader.{head_read}
use Rattle.refusal.proofs.Results.{never}

-- What it means that a head with k bitmaps is read, where at most m are taken.
pub record Headed (m : ℕ) (s : List ℕ) (k : ℕ) : Type 0 where
  pub digits : all is_digit (take 4 s) ≡ true
  pub maps : FoundMaps 4 m s k

-- four of four bytes are digits exactly when the front of digits is four long
four : (s : List ℕ) → 12 ≤ length s → length (take 4 s) ≡ 4
four s h = length-take-le 4 s (omega arith)

digits_of_lem : (s : List ℕ) → 12 ≤ length s → 4 ≤ lead is_digit (take 4 s) → all is_digit (take 4 s) ≡ true
digits_of_lem s h k =
    let e : lead is_digit (take 4 s) ≡ length (take 4 s) = omega (arith, four s h, lead_most is_digit (take 4 s)) in
    sym (lead_all is_digit (take 4 s)) ∙ eq-eqb (lead is_digit (take 4 s)) (length (take 4 s)) e

of_digits : (s : List ℕ) → 12 ≤ length s → all is_digit (take 4 s) ≡ true → 4 ≤ lead is_digit (take 4 s)
of_digits s h t =
    let e : lead is_digit (take 4 s) ≡ length (take 4 s) = eqb-true (lead is_digit (take 4 s)) (length (take 4 s)) (lead_all is_digit (take 4 s) ∙ t) in
    omega (arith, four s h)

pub head_reads : (m : ℕ) (s : List ℕ) (k : ℕ) → Headed m s k → head_read m s ≡ Ok k
unfolding head_read
head_reads m s k h =
    let long : 12 ≤ length s = omega (arith, h.maps.long, maps_least 4 m s k h.maps) in
    let mti : 4 ≤ lead is_digit (take 4 s) = of_digits s long h.digits in
    rw (le-ltb (length s) 12 long, le-ltb (lead is_digit (take 4 s)) 4 mti) (maps_read 4 m s k h.maps)

pub head_found : (m : ℕ) (s : List ℕ) (k : ℕ) → 2 ≤ m → head_read m s ≡ Ok k → Headed m s k
unfolding head_read
head_found m s k least e =
    by_lt (length s) 12 (λ h. never (plain message_too_short) (rw (lt-ltb (length s) 12 h)) e)
    (λ long. by_lt (lead is_digit (take 4 s)) 4
    (λ h. never (refusal mti_not_digits 0 (lead is_digit (take 4 s))) (rw (le-ltb (length s) 12 long, lt-ltb (lead is_digit (take 4 s)) 4 h)) e)
    (λ mti.
    record {
      digits = digits_of_lem s long mti;
      maps = maps_found 4 m s k least (rw (le-ltb (length s) 12 long, le-ltb (lead is_digit (take 4 s)) 4 mti) at e);
    }))
