-- The house table has exactly one row for each field, and none for any other number that a byte holds. Assumes nothing.
use Prim.Native.Nat.{ℕ, ◌+◌, ◌<◌}
use mathlib.Core.Path.{◌≡◌}
use mathlib.Core.Bool.{Bool}
use mathlib.Core.List.{List, [], ◌∷◌}
use lib.Dec.{eqb, leb, eqb→eq}
use Rattle.octets.specs.Lists.{both, between}
use Rattle.octets.proofs.Tables.{at}
use Rattle.field_table.specs.Table.{Row}
use Rattle.field_table.specs.House.{house_rows}
use Rattle.bitmap.specs.Bits.{bit}
use Rattle.bitmap.specs.Bitmaps.{is_field}

-- how many rows have field f
abbrev pub rows_of : List Row → ℕ → ℕ
rows_of [] f = 0
rows_of (r ∷ rs) f = bit (both (leb r.first f) (leb f r.last)) + rows_of rs f

row_test : ℕ → Bool
unfolding house_rows is_field between
row_test f = eqb (rows_of house_rows f) (bit (is_field f))

pub one_row : (f : ℕ) → f < 256 → rows_of house_rows f ≡ bit (is_field f)
unfolding house_rows is_field between row_test
one_row f h = eqb→eq (rows_of house_rows f) (bit (is_field f)) (at row_test 256 tt f h)
