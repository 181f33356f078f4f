-- A class is known by its number. Assumes nothing.
use Prim.Native.Nat.{ℕ}
use mathlib.Core.Path.{◌≡◌, refl, sym, ap, ◌∙◌}
use Rattle.field_table.specs.Codes.{class_by_code}
use Rattle.field_table.specs.declared.Class.{Class}
use Rattle.field_table.specs.declared.Class.TheVariants.{N, A, An, Ans, Ns, Z, Xn, B}

-- the number of a class
abbrev pub code_of : Class → ℕ
code_of N = 1
code_of A = 2
code_of An = 3
code_of Ans = 4
code_of Ns = 5
code_of Z = 6
code_of Xn = 7
code_of B = 8

pub class_back : (c : Class) → class_by_code (code_of c) ≡ c
class_back N = refl
class_back A = refl
class_back An = refl
class_back Ans = refl
class_back Ns = refl
class_back Z = refl
class_back Xn = refl
class_back B = refl

pub same_class : (a b : Class) → code_of a ≡ code_of b → a ≡ b
same_class a b e = sym (class_back a) ∙ ap class_by_code e ∙ class_back b
