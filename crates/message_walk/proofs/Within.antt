-- What a field has in which a walk finds nothing: its content lies within the values, and nothing is wrong with it. Assumes nothing.
use Prim.Native.Nat.{ℕ, ◌+◌, ◌≤◌}
use mathlib.Core.Path.{◌≡◌}
use mathlib.Core.List.{List}
use native.Mathlib.Omega.{arith}
use lib.Dec.{leb}
use lib.ListN.{length, drop, length-drop}
use lib.Seq.{length-take-le}
use borrow.Author.Tests.{le-leb, leb-true}
use Rattle.octets.proofs.Cases.{by_bool}
use Rattle.refusal.specs.Numbers.{outside_values}
use Rattle.refusal.specs.Refusals.{Test, good}
use Rattle.refusal.proofs.Tests.{bad_good}
use Rattle.message_language.specs.Language.{Entry}
use Rattle.message_contents.specs.Contents.{content_of}
use Rattle.message_walk.specs.Faults.{within}

module _ (v : List ℕ) (q : ℕ → List ℕ → Test) (e : Entry) where
  pub record Inside : Type 0 where
    pub place : e.offset + e.size ≤ length v
    pub fault : q e.number (content_of v e.offset e.size) ≡ good
    pub sized : length (content_of v e.offset e.size) ≡ e.size

  pub is_inside : within v q e ≡ good → Inside
  unfolding within
  is_inside h =
      by_bool (leb (e.offset + e.size) (length v))
      (λ y.
      let p = leb-true (e.offset + e.size) (length v) y in
      record { place = p; fault = rw y at h; sized = length-take-le e.size (drop e.offset v) (omega (arith, length-drop e.offset v, p)) })
      (λ y. bad_good outside_values (rw y at h))

  pub inside_passes : e.offset + e.size ≤ length v → q e.number (content_of v e.offset e.size) ≡ good → within v q e ≡ good
  unfolding within
  inside_passes h z = rw (le-leb (e.offset + e.size) (length v) h) z

-- what asks less of contents finds no more
pub within_weaker : (v : List ℕ) (p q : ℕ → List ℕ → Test) → ((f : ℕ) (c : List ℕ) → p f c ≡ good → q f c ≡ good) → (e : Entry) → within v p e ≡ good → within v q e ≡ good
within_weaker v p q weaker e h =
    let i = is_inside v p e h in
    inside_passes v q e i.place (weaker e.number (content_of v e.offset e.size) i.fault)
