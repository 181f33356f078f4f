-- What a writer's answer shows of its walk and its bytes, and what its output and its padded set are then. Assumes nothing.
use Prim.Native.Nat.{ℕ, ◌≤◌}
use mathlib.Core.Path.{◌≡◌, refl, sym, ap, ◌∙◌}
use mathlib.Core.List.{List}
use native.Mathlib.Omega.{arith}
use lib.Dec.{eqb, leb}
use lib.ListN.{length}
use borrow.Author.Tests.{eq-eqb, eqb-true, le-leb, leb-true}
use Rattle.std.specs.Prelude.{Result, Ok, Err}
use Rattle.octets.specs.Lists.{lay, placed}
use Rattle.octets.proofs.Cases.{by_bool}
use Rattle.octets.proofs.Lists.{placed_fits}
use Rattle.refusal.specs.Numbers.{end_differs, output_too_short}
use Rattle.refusal.specs.Refusals.{refusal}
use Rattle.refusal.specs.declared.Refusal.{Refusal}
use Rattle.bitmap.specs.Bitmaps.{no_fields}
use Rattle.message_walk.specs.declared.Ended.{Ended}
use Rattle.message_walk.specs.Walk.{ended as ended_at}
use Rattle.message_write.specs.Written.{answered, laid_out, padded_on}

never : {r : Refusal} {k : ℕ} → Err r ≡ Ok k → ⊥
never h = let z : ◌≡◌ {A = ℕ} 0 1 = cc in omega arith

-- Where k bytes are answered: the walk came to an end note that says k, at the place `at`; the bytes are k long, and there is room for them.
pub record Answered (w : Result Ended Refusal) (bytes out : List ℕ) (k : ℕ) : Type 0 where
  pub at : ℕ
  pub ended : w ≡ Ok (ended_at at k)
  pub long : length bytes ≡ k
  pub room : k ≤ length out

pub written_answered : (w : Result Ended Refusal) (bytes out : List ℕ) (k : ℕ) → answered w bytes out ≡ Ok k → Answered w bytes out k
unfolding answered
written_answered (Err r) bytes out k h = absurd (never h)
written_answered (Ok end) bytes out k h =
    by_bool (eqb end.said (length bytes))
    (λ y. by_bool (leb (length bytes) (length out))
    (λ z.
    let q : ◌≡◌ {A = Result ℕ Refusal} (Ok (length bytes)) (Ok k) = rw (y, z) at h in
    let l : length bytes ≡ k = cc in
    let e : end.said ≡ k = eqb-true end.said (length bytes) y ∙ l in
    record { at = end.at; ended = ap (λ (u : ℕ). Ok (ended_at end.at u)) e; long = l; room = omega (arith, leb-true (length bytes) (length out) z, l) })
    (λ z. absurd (never {r = refusal output_too_short 0 end.at} (rw (y, z) at h))))
    (λ y. absurd (never {r = refusal end_differs 0 end.at} (rw y at h)))

module _ (w : Result Ended Refusal) (bytes out : List ℕ) (k : ℕ) (a : Answered w bytes out k) where
  pub answered_written : answered w bytes out ≡ Ok k
  unfolding answered
  answered_written = rw (answered, a.ended, a.long, eq-eqb k k refl, le-leb k (length out) a.room)

  -- and the bytes are at the front of the output
  pub answered_laid : laid_out w bytes out ≡ lay bytes out
  unfolding laid_out
  answered_laid = rw (laid_out, a.ended, a.long, eq-eqb k k refl) (placed_fits bytes out k a.long a.room)

-- Where a refusal is answered, the output is as it was, and no field is padded.
pub refused_kept : (w : Result Ended Refusal) (bytes out : List ℕ) (r : Refusal) → answered w bytes out ≡ Err r → laid_out w bytes out ≡ out
unfolding answered laid_out placed
refused_kept (Err q) bytes out r h = refl
refused_kept (Ok end) bytes out r h =
    by_bool (eqb end.said (length bytes))
    (λ y. by_bool (leb (length bytes) (length out)) (λ z. absurd (never (sym (rw (y, z) at h)))) (λ z. rw (y, z)))
    (λ y. rw y)

module _ (o : Result ℕ Refusal) (s : List ℕ) where
  pub padded_written : (k : ℕ) → o ≡ Ok k → padded_on o s ≡ s
  unfolding padded_on
  padded_written k h = rw h

  pub padded_refused : (r : Refusal) → o ≡ Err r → padded_on o s ≡ no_fields
  unfolding padded_on
  padded_refused r h = rw h
