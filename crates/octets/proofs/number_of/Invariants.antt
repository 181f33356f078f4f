use mathlib.Core.Path.{◌≡◌}
use Prim.Native.Nat.{◌+◌, ◌-◌, ◌*◌, ◌^◌, ◌≤◌}
use lib.ListN.{drop}
use Rattle.octets.specs.Numbers.{number}
use Rattle.octets.proofs.number_of.Given as goal

abbrev pub invariant-loop-b : goal.invariant-loop-b
invariant-loop-b l = (l.n * (l.base - 1) + 255 ≤ 255 * l.base ^ l.b-index) × (number l.base l.first 0 l.s ≡ number l.base l.first l.n (drop l.b-index l.s))
