-- How long a content is, with the facts as code has them that knows its length digits. Assumes nothing.
use Prim.Native.Nat.{ℕ, ◌≤◌}
use mathlib.Core.Path.{◌≡◌}
use mathlib.Core.Bool.{cond}
use mathlib.Core.List.{List}
use lib.Dec.{leb}
use lib.ListN.{length}
use borrow.Author.Tests.{eq-eqb, ne_eqb}
use native.Mathlib.Omega.{arith}
use Rattle.octets.specs.Numbers.{decimal_of}
use Rattle.octets.proofs.Numbers.{number_read}
use Rattle.field_read.specs.Items.{length_of}

pub length_fixed : (w m : ℕ) (ds : List ℕ) → w ≡ 0 → m ≡ length_of w m ds
unfolding length_of
length_fixed w m ds e = rw (eq-eqb w 0 e)

pub length_spelt : (w m n : ℕ) (ds : List ℕ) → length ds ≤ 3 → (w ≡ 0 → ⊥) → n ≡ cond (leb (length ds) 16) (decimal_of ds) 0 → n ≡ length_of w m ds
unfolding length_of
length_spelt w m n ds l h e = rw (ne_eqb w 0 h) (number_read 10 0x30 16 n ds (omega (arith, l)) e)
