-- 01's classes: which contents each allows.
--
--   is_letter x   == x is one of the 52 ASCII letters
--   is_visible x  == x is 0x20 to 0x7E
--   is_sign x     == x is `C` or `D`
--   allows c x    == the byte x may stand in a content of class c (x+n: after its sign)
--   signed s      == s is a sign, then none or more digits
--   conforms c s  == the content s is of class c
--
-- Assumes nothing: these are definitions.
use Rattle.std.specs.Prelude.{ℕ, Bool, true, false, not, List, [], ◌∷◌, eqb}
use Rattle.octets.specs.Lists.{both, either, between, all}
use Rattle.octets.specs.Numbers.{is_digit}
use Rattle.field_table.specs.declared.Class.{Class}
use Rattle.field_table.specs.declared.Class.TheVariants.{N, A, An, Ans, Ns, Z, Xn, B}

unfoldable pub is_letter : ℕ → Bool
is_letter x = either (between 0x41 0x5A x) (between 0x61 0x7A x)

abbrev pub is_visible : ℕ → Bool
is_visible = between 0x20 0x7E

abbrev pub is_sign : ℕ → Bool
is_sign x = either (eqb x 0x43) (eqb x 0x44)

-- 01: "n digits; a letters and space; an letters, digits, space; ans 0x20-0x7E; ns 0x20-0x7E without letters; z 0x30-0x3F; …; b anything"
abbrev pub allows : Class → ℕ → Bool
allows N x = is_digit x
allows A x = either (eqb x 0x20) (is_letter x)
allows An x = either (is_digit x) (either (eqb x 0x20) (is_letter x))
allows Ans x = is_visible x
allows Ns x = both (not (is_letter x)) (is_visible x)
allows Z x = between 0x30 0x3F x
allows Xn x = is_digit x
allows B x = true

-- 01: "x+n `C` or `D`, then none or more digits"
abbrev pub signed : List ℕ → Bool
signed [] = false
signed (x ∷ s) = both (is_sign x) (all is_digit s)

abbrev pub conforms : Class → List ℕ → Bool
conforms N s = all (allows N) s
conforms A s = all (allows A) s
conforms An s = all (allows An) s
conforms Ans s = all (allows Ans) s
conforms Ns s = all (allows Ns) s
conforms Z s = all (allows Z) s
conforms Xn s = signed s
conforms B s = all (allows B) s
