-- A table as data: one number, a code, for each field, by number from 0 on. It is what readers and writers are lent.
--
--   class_by_code k  == the class whose number is k: n 1, a 2, an 3, ans 4, ns 5, z 6, x+n 7; b for any other number
--   code_in cs f     == the code of field f; 0 where there is none
--   decoded cs       == the table that the codes stand for: a code is the length or greatest length, below 1024, 1024 times the number of
--                       length digits, and 4096 times the number of the class. A number that no code has is fixed, 0 bytes, class b
--   house_codes      == the house table's codes; shown to stand for `house` (proofs/Decoded.antt)
--
-- Assumes nothing: these are definitions.
use Rattle.std.specs.Prelude.{ℕ, ◌/◌, ◌%◌, cond, List, [], ◌∷◌, eqb, get_or}
use Rattle.field_table.specs.Table.{Table}
use Rattle.field_table.specs.declared.Class.{Class}
use Rattle.field_table.specs.declared.Class.TheVariants.{N, A, An, Ans, Ns, Z, Xn, B}

abbrev pub class_by_code : ℕ → Class
class_by_code k =
    cond (eqb k 1) N
    (cond (eqb k 2) A
    (cond (eqb k 3) An
    (cond (eqb k 4) Ans
    (cond (eqb k 5) Ns
    (cond (eqb k 6) Z
    (cond (eqb k 7) Xn B))))))

unfoldable pub code_in : List ℕ → ℕ → ℕ
code_in cs f = get_or cs f 0

unfoldable pub decoded : List ℕ → Table
decoded cs = record { width = λ f. code_in cs f / 1024 % 4; most = λ f. code_in cs f % 1024; class = λ f. class_by_code (code_in cs f / 4096) }

unfoldable pub house_codes : List ℕ
house_codes =
    0 ∷ 0 ∷ 6163 ∷ 4102 ∷ 4108 ∷ 4108 ∷ 4108 ∷ 4106 ∷ 4104 ∷ 4104 ∷ 4104 ∷ 4102 ∷ 4102 ∷ 4100 ∷ 4100 ∷ 4100 ∷
    4100 ∷ 4100 ∷ 4100 ∷ 4099 ∷ 4099 ∷ 4099 ∷ 4099 ∷ 4099 ∷ 4099 ∷ 4098 ∷ 4098 ∷ 4097 ∷ 28681 ∷ 28681 ∷ 28681 ∷ 28681 ∷
    6155 ∷ 6155 ∷ 22556 ∷ 26661 ∷ 7272 ∷ 12300 ∷ 12294 ∷ 12290 ∷ 12291 ∷ 16392 ∷ 16399 ∷ 16424 ∷ 14361 ∷ 14412 ∷ 16359 ∷ 16359 ∷
    16359 ∷ 4099 ∷ 4099 ∷ 4099 ∷ 32776 ∷ 4112 ∷ 15480 ∷ 36839 ∷ 20455 ∷ 20455 ∷ 20455 ∷ 20455 ∷ 20455 ∷ 20455 ∷ 20455 ∷ 20455 ∷
    32776 ∷ 0 ∷ 4097 ∷ 4098 ∷ 4099 ∷ 4099 ∷ 4099 ∷ 4100 ∷ 4100 ∷ 4102 ∷ 4106 ∷ 4106 ∷ 4106 ∷ 4106 ∷ 4106 ∷ 4106 ∷
    4106 ∷ 4106 ∷ 4108 ∷ 4108 ∷ 4108 ∷ 4108 ∷ 4112 ∷ 4112 ∷ 4112 ∷ 4112 ∷ 4138 ∷ 12289 ∷ 12290 ∷ 12293 ∷ 12295 ∷ 12330 ∷
    32776 ∷ 28689 ∷ 16409 ∷ 6155 ∷ 6155 ∷ 18449 ∷ 18460 ∷ 18460 ∷ 19556 ∷ 20455 ∷ 20455 ∷ 20455 ∷ 20455 ∷ 20455 ∷ 20455 ∷ 20455 ∷
    20455 ∷ 20455 ∷ 20455 ∷ 20455 ∷ 20455 ∷ 20455 ∷ 20455 ∷ 20455 ∷ 20455 ∷ 20455 ∷ 20455 ∷ 20455 ∷ 20455 ∷ 20455 ∷ 20455 ∷ 20455 ∷
    32776 ∷ 20455 ∷ 20455 ∷ 20455 ∷ 20455 ∷ 20455 ∷ 20455 ∷ 20455 ∷ 20455 ∷ 20455 ∷ 20455 ∷ 20455 ∷ 20455 ∷ 20455 ∷ 20455 ∷ 20455 ∷
    20455 ∷ 20455 ∷ 20455 ∷ 20455 ∷ 20455 ∷ 20455 ∷ 20455 ∷ 20455 ∷ 20455 ∷ 20455 ∷ 20455 ∷ 20455 ∷ 20455 ∷ 20455 ∷ 20455 ∷ 20455 ∷
    20455 ∷ 20455 ∷ 20455 ∷ 20455 ∷ 20455 ∷ 20455 ∷ 20455 ∷ 20455 ∷ 20455 ∷ 20455 ∷ 20455 ∷ 20455 ∷ 20455 ∷ 20455 ∷ 20455 ∷ 20455 ∷
    20455 ∷ 20455 ∷ 20455 ∷ 20455 ∷ 20455 ∷ 20455 ∷ 20455 ∷ 20455 ∷ 20455 ∷ 20455 ∷ 20455 ∷ 20455 ∷ 20455 ∷ 20455 ∷ 20455 ∷ 20455 ∷
    32776 ∷ []
