-- A list laid over another, and one that has zeros behind its front, told by that front. Assumes nothing.
-- In a file of its own: a struct's model cites it, and may not reach what the laws of loops (Lists) cite.
use mathlib.Core.Path.{◌≡◌, ap, ◌∙◌}
use mathlib.Core.List.{List}
use Prim.Native.Nat.{ℕ, ◌≤◌}
use native.Mathlib.Omega.{arith}
use lib.ListN.{length, take, replicate, length-append, length-drop}
use Rattle.std.proofs.lemmas.List.{length-take, length-take-le, length-replicate}
use Rattle.octets.specs.Lists.{lay}

pub lay_length : (r d : List ℕ) → length r ≤ length d → length (lay r d) ≡ length d
unfolding lay
lay_length r d h = simp (length-append, length-drop) (omega arith)

pub front_length : (n c : ℕ) (o : List ℕ) → c ≤ n → o ≡ lay (take c o) (replicate n 0) → length (take c o) ≡ c
front_length n c o h e = length-take-le c o (omega (arith, h, whole))
  where
    few : length (take c o) ≤ length {A = ℕ} (replicate n 0)
    few = omega (arith, h, length-take c o, length-replicate {A = ℕ} n 0)

    whole : length o ≡ n
    whole = ap length e ∙ lay_length (take c o) (replicate n 0) few ∙ length-replicate {A = ℕ} n 0
