use mathlib.Core.Path.{◌≡◌}
use mathlib.Core.Bool.{true}
use Rattle.octets.specs.Lists.{between, all}
use Rattle.octets.proofs.Lists.{laid}
use Rattle.bitmap.specs.Bitmaps.{maps_from, no_fields}
use Rattle.bitmap.proofs.map_bytes.Given as goal

abbrev pub invariant-loop-i : goal.invariant-loop-i
invariant-loop-i l = (l.bytes ≡ laid (maps_from l.count l.bits 24 0) no_fields l.i) × (all (between 0 255) l.bytes ≡ true)
