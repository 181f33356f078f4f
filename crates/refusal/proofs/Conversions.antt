-- The three ends of a conversion, with the facts as its code has them: its source is refused, its result does not fit, or it is written.
-- Assumes nothing.
use Prim.Native.Nat.{ℕ, ◌≤◌, ◌<◌}
use mathlib.Core.Path.{◌≡◌, refl, sym, ap, ◌∙◌}
use mathlib.Core.List.{List, [], ◌∷◌}
use lib.ListN.{length}
use borrow.Author.Tests.{le-leb, lt-leb}
use Rattle.std.specs.Prelude.{Result, Ok, Err}
use Rattle.std.specs.Result.{IsErrAnd}
use Rattle.octets.specs.Lists.{lay}
use Rattle.octets.proofs.Cases.{by_lt}
use Rattle.octets.proofs.Lists.{placed_short, placed_fits}
use Rattle.refusal.specs.Numbers.{output_too_short}
use Rattle.refusal.specs.Refusals.{plain, Test, good, bad, room, tell, tell_refused, told, converted, converted_into}
use Rattle.refusal.specs.declared.Cause.{Cause}
use Rattle.refusal.specs.declared.Refusal.{Refusal}
use Rattle.refusal.proofs.Tests.{bad_good, handed_on}

-- What is promised of one: a is the answer, e the output afterwards.
pub record Ends (a : Result ℕ Refusal) (t : Test) (r d e : List ℕ) : Type 0 where
  pub answers : a ≡ converted t r d
  pub tells : told a ≡ told (converted t r d)
  pub writes : e ≡ converted_into t r d

pub ends : {a : Result ℕ Refusal} {t : Test} {r d e : List ℕ} → a ≡ converted t r d → e ≡ converted_into t r d → Ends a t r d e
ends h w = record { answers = h; tells = ap told h; writes = w }

-- One whose source fails.
pub converted_fails : {t : Test} {c : Cause} (r d : List ℕ) → bad c ≡ t → Err (plain c) ≡ converted t r d
unfolding converted
converted_fails r d h = rw (← h)

pub converted_into_fails : {t : Test} {c : Cause} (r d : List ℕ) → bad c ≡ t → d ≡ converted_into t r d
unfolding converted_into
converted_into_fails r d h = rw (← h)

-- One whose source does not, where its result has n bytes.
module _ {t : Test} (r d : List ℕ) (clean : good ≡ t) {n : ℕ} (sized : length r ≡ n) where
  pub converted_short : length d < n → Err (plain output_too_short) ≡ converted t r d
  unfolding converted
  converted_short h = rw (← clean, sized, lt-leb n (length d) h)

  pub converted_into_short : length d < n → d ≡ converted_into t r d
  unfolding converted_into
  converted_into_short h = rw (← clean) (placed_short r d n sized h)

  pub converted_fits : n ≤ length d → Ok n ≡ converted t r d
  unfolding converted
  converted_fits h = rw (← clean, sized, le-leb n (length d) h)

  pub converted_into_fits : n ≤ length d → lay r d ≡ converted_into t r d
  unfolding converted_into
  converted_into_fits h = rw (← clean) (sym (placed_fits r d n sized h))

-- What the test of the room finds.
pub room_fits : (n k : ℕ) → good ≡ room n k → n ≤ k
room_fits n k h = by_lt k n (λ l. bad_good output_too_short (sym (h ∙ rw (lt-leb n k l)))) (λ g. g)

pub room_short : {c : Cause} (n k : ℕ) → bad c ≡ room n k → (c ≡ output_too_short) × (k < n)
room_short {c} n k h =
    by_lt k n
    (λ l. let e : bad c ≡ bad output_too_short = h ∙ rw (lt-leb n k l) in (cc, l))
    (λ g. bad_good c (h ∙ rw (le-leb n k g)))

-- The ends as the code has them: a cause that `?` hands on, of the source or of the room; or the bytes over the front of the output.
module _ {a : Result ℕ Refusal} {t : Test} {r d : List ℕ} where
  pub source_refused : {c : Cause} → bad c ≡ t → IsErrAnd a (λ x. x ≡ plain c) → Ends a t r d d
  source_refused h q = ends (handed_on q ∙ converted_fails r d h) (converted_into_fails r d h)

  pub room_refused : {c : Cause} {n : ℕ} → good ≡ t → length r ≡ n → bad c ≡ room n (length d) → IsErrAnd a (λ x. x ≡ plain c) → Ends a t r d d
  room_refused {c} {n} g s h q =
      let short = room_short n (length d) h in
      ends (handed_on q ∙ ap (λ (x : Cause). Err (plain x)) short.0 ∙ converted_short r d g s short.1) (converted_into_short r d g s short.1)

pub done : {t : Test} {r d e : List ℕ} {n : ℕ} → good ≡ t → length r ≡ n → good ≡ room n (length d) → e ≡ lay r d → Ends (Ok n) t r d e
done {t} {r} {d} {e} {n} g s h w =
    let fits = room_fits n (length d) h in
    ends (converted_fits r d g s fits) (w ∙ converted_into_fits r d g s fits)

-- What a conversion tells: 0, 0, 0 and the length; the source's number and 0; or 14 and 0.
pub told_written : (r d : List ℕ) → length r ≤ length d → told (converted good r d) ≡ tell (length r ∷ [])
told_written r d h = ap told (sym (converted_fits r d refl refl h))

pub told_fault : (c : Cause) (r d : List ℕ) → told (converted (bad c) r d) ≡ tell_refused (plain c) (0 ∷ [])
told_fault c r d = ap told (sym (converted_fails r d refl))

pub told_short : (r d : List ℕ) → length d < length r → told (converted good r d) ≡ tell_refused (plain output_too_short) (0 ∷ [])
told_short r d h = ap told (sym (converted_short r d refl refl h))
