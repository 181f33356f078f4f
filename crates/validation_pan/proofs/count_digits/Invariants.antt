use Prim.Native.Nat.{◌+◌, ◌≤◌}
use mathlib.Core.Path.{◌≡◌}
use lib.ListN.{length, drop}
use Rattle.validation_pan.specs.Pan.{digits_in}
use Rattle.validation_pan.proofs.count_digits.Given as goal

abbrev pub invariant-loop-b : goal.invariant-loop-b
invariant-loop-b l = (l.count ≤ l.b-index) × (length (digits_in l.s) ≡ l.count + length (digits_in (drop l.b-index l.s)))
