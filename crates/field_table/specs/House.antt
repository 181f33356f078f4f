-- The house table, row by row as 01's "Field table" has it (ISO 8583:1987, and the house fields 129-192), as 02 amends it.
--
--   house_rows  == 01's rows, in its order; 55 by 02
--   house       == the table that they make
--
-- Assumes nothing: these are definitions.
use Rattle.std.specs.Prelude.{List, [], ◌∷◌}
use Rattle.field_table.specs.Table.{Row, Table, table_of, fixed, ll, lll}
use Rattle.field_table.specs.declared.Class.TheVariants.{N, An, Ans, Ns, Z, Xn, B}

unfoldable pub house_rows : List Row
house_rows =
    -- "n fixed"
    fixed 3 3 6 N ∷
    fixed 4 6 12 N ∷
    fixed 7 7 10 N ∷
    fixed 8 10 8 N ∷
    fixed 11 12 6 N ∷
    fixed 13 18 4 N ∷
    fixed 19 24 3 N ∷
    fixed 25 26 2 N ∷
    fixed 27 27 1 N ∷
    fixed 49 51 3 N ∷
    fixed 53 53 16 N ∷
    fixed 66 66 1 N ∷
    fixed 67 67 2 N ∷
    fixed 68 70 3 N ∷
    fixed 71 72 4 N ∷
    fixed 73 73 6 N ∷
    fixed 74 81 10 N ∷
    fixed 82 85 12 N ∷
    fixed 86 89 16 N ∷
    fixed 90 90 42 N ∷
    -- "x+n fixed … (sign byte counted)"
    fixed 28 31 9 Xn ∷
    fixed 97 97 17 Xn ∷
    -- "n variable", "ns", "z"
    ll 2 2 19 N ∷
    ll 32 33 11 N ∷
    lll 36 36 104 N ∷
    ll 99 100 11 N ∷
    ll 34 34 28 Ns ∷
    ll 35 35 37 Z ∷
    -- "an fixed", "an variable"
    fixed 37 37 12 An ∷
    fixed 38 38 6 An ∷
    fixed 39 39 2 An ∷
    fixed 40 40 3 An ∷
    fixed 91 91 1 An ∷
    fixed 92 92 2 An ∷
    fixed 93 93 5 An ∷
    fixed 94 94 7 An ∷
    fixed 95 95 42 An ∷
    ll 44 44 25 An ∷
    ll 45 45 76 An ∷
    lll 46 48 999 An ∷
    lll 54 54 120 An ∷
    -- "ans fixed", "ans variable"
    fixed 41 41 8 Ans ∷
    fixed 42 42 15 Ans ∷
    fixed 43 43 40 Ans ∷
    fixed 98 98 25 Ans ∷
    lll 56 63 999 Ans ∷
    ll 101 101 17 Ans ∷
    ll 102 103 28 Ans ∷
    lll 104 104 100 Ans ∷
    lll 105 127 999 Ans ∷
    -- "b, 8 bytes"
    fixed 52 52 8 B ∷
    fixed 64 64 8 B ∷
    fixed 96 96 8 B ∷
    fixed 128 128 8 B ∷
    fixed 192 192 8 B ∷
    -- 02, P2: "Field 55 becomes binary, LLL, up to 999"
    lll 55 55 999 B ∷
    -- "House fields, added"
    lll 129 191 999 Ans ∷
    []

unfoldable pub house : Table
unfolding table_of house_rows
house = table_of house_rows
