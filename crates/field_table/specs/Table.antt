-- A field table: what is known of a field by its number. Every definition of language, reader, writers and the field check takes a table.
--
--   Table          == width f: how many length digits field f has (0 fixed, 2 LL, 3 LLL);
--                     most f: its length where it is fixed, else its greatest; class f: its class
--   Row            == the fields from first to last, which are alike in width, most and class
--   row w a b m c  == the fields a to b have w length digits, length or greatest length m, and class c
--   fixed a b m c  == the fields a to b are m bytes long, of class c
--   ll a b m c     == they have two length digits and are up to m bytes long
--   lll a b m c    == the same with three
--   none           == the row of a number that no row has: fixed, 0 bytes, class b
--   find rows f    == the first row that has field f; `none` where no row has it
--   table_of rows  == the table that the rows make
--   is_binary c    == contents of class c may hold any byte; those of the others are text
--   Small t        == what the theorems ask of a table: at most three length digits, no length over 999, and the lengths of a variable field
--                     can be spelt in its digits. The house table is small (proofs/Rows.antt)
--
-- Assumes nothing: these are definitions.
use Rattle.std.specs.Prelude.{ℕ, ◌^◌, ◌≤◌, ◌<◌, ◌≡◌, List, [], ◌∷◌, Bool, true, false, leb}
use Rattle.octets.specs.Lists.{both}
use Rattle.field_table.specs.declared.Class.{Class}
use Rattle.field_table.specs.declared.Class.TheVariants.{N, A, An, Ans, Ns, Z, Xn, B}

pub record Table : Type 0 where
  pub width : ℕ → ℕ
  pub most : ℕ → ℕ
  pub class : ℕ → Class

pub record Row : Type 0 where
  pub first : ℕ
  pub last : ℕ
  pub width : ℕ
  pub most : ℕ
  pub class : Class

abbrev pub row : ℕ → ℕ → ℕ → ℕ → Class → Row
row w a b m c = record { first = a; last = b; width = w; most = m; class = c }

abbrev pub fixed : ℕ → ℕ → ℕ → Class → Row
fixed = row 0

abbrev pub ll : ℕ → ℕ → ℕ → Class → Row
ll = row 2

abbrev pub lll : ℕ → ℕ → ℕ → Class → Row
lll = row 3

abbrev pub none : Row
none = fixed 0 0 0 B

abbrev pub find : List Row → ℕ → Row
find [] f = none
find (r ∷ rs) f = elim (both (leb r.first f) (leb f r.last)) [ true ↦ r | false ↦ find rs f ]

unfoldable pub table_of : List Row → Table
table_of rs = record { width = λ f. (find rs f).width; most = λ f. (find rs f).most; class = λ f. (find rs f).class }

abbrev pub is_binary : Class → Bool
is_binary N = false
is_binary A = false
is_binary An = false
is_binary Ans = false
is_binary Ns = false
is_binary Z = false
is_binary Xn = false
is_binary B = true

pub record Small (t : Table) : Type 0 where
  pub width_small : (f : ℕ) → t.width f ≤ 3
  pub most_small : (f : ℕ) → t.most f ≤ 999
  pub most_spelt : (f : ℕ) → (t.width f ≡ 0 → ⊥) → t.most f < 10 ^ t.width f
