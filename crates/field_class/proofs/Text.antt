-- Contents of every class but b are text: their bytes are ASCII. Assumes nothing.
use Prim.Native.Nat.{ℕ, ◌≤◌}
use mathlib.Core.Path.{◌≡◌, refl}
use mathlib.Core.Bool.{true, not}
use mathlib.Core.List.{List, [], ◌∷◌}
use native.Mathlib.Omega.{arith}
use lib.Dec.{eqb}
use borrow.Author.Tests.{eqb-true}
use Rattle.octets.specs.Lists.{either, between, all}
use Rattle.octets.specs.Numbers.{is_digit, is_ascii}
use Rattle.octets.proofs.Cases.{by_either, both_left, both_right}
use Rattle.octets.proofs.Lists.{is_between, between_high, all_weaker}
use Rattle.field_table.specs.Table.{is_binary}
use Rattle.field_table.specs.declared.Class.{Class}
use Rattle.field_table.specs.declared.Class.TheVariants.{N, A, An, Ans, Ns, Z, Xn, B}
use Rattle.field_class.specs.Classes.{is_letter, is_visible, is_sign, allows, signed, conforms}

small : (x : ℕ) → x ≤ 0x7F → is_ascii x ≡ true
small x h = is_between 0 0x7F x (omega arith) h

up_to : (lo hi x : ℕ) → hi ≤ 0x7F → between lo hi x ≡ true → is_ascii x ≡ true
up_to lo hi x h t = small x (let m = between_high lo hi x t in omega (arith, m, h))

letter_ascii : (x : ℕ) → is_letter x ≡ true → is_ascii x ≡ true
unfolding is_letter
letter_ascii x t = by_either _ _ t (up_to 0x41 0x5A x (omega arith)) (up_to 0x61 0x7A x (omega arith))

byte_ascii : (x y : ℕ) → y ≤ 0x7F → eqb x y ≡ true → is_ascii x ≡ true
byte_ascii x y h t = small x (let e = eqb-true x y t in omega (arith, e, h))

digit_ascii : (x : ℕ) → is_digit x ≡ true → is_ascii x ≡ true
digit_ascii x = up_to 0x30 0x39 x (omega arith)

visible_ascii : (x : ℕ) → is_visible x ≡ true → is_ascii x ≡ true
visible_ascii x = up_to 0x20 0x7E x (omega arith)

space_or_letter_ascii : (x : ℕ) → allows A x ≡ true → is_ascii x ≡ true
space_or_letter_ascii x t = by_either _ _ t (byte_ascii x 0x20 (omega arith)) (letter_ascii x)

signed_ascii : (s : List ℕ) → signed s ≡ true → all is_ascii s ≡ true
signed_ascii [] t = refl
signed_ascii (x ∷ s) t =
    let a = by_either _ _ (both_left (is_sign x) (all is_digit s) t) (byte_ascii x 0x43 (omega arith)) (byte_ascii x 0x44 (omega arith)) in
    rw a (all_weaker is_digit is_ascii digit_ascii s (both_right (is_sign x) (all is_digit s) t))

pub class_text : (c : Class) (s : List ℕ) → conforms c s ≡ true → either (is_binary c) (all is_ascii s) ≡ true
class_text N s t = all_weaker (allows N) is_ascii digit_ascii s t
class_text A s t = all_weaker (allows A) is_ascii space_or_letter_ascii s t
class_text An s t = all_weaker (allows An) is_ascii (λ x u. by_either _ _ u (digit_ascii x) (space_or_letter_ascii x)) s t
class_text Ans s t = all_weaker (allows Ans) is_ascii visible_ascii s t
class_text Ns s t = all_weaker (allows Ns) is_ascii (λ x u. visible_ascii x (both_right (not (is_letter x)) (is_visible x) u)) s t
class_text Z s t = all_weaker (allows Z) is_ascii (λ x. up_to 0x30 0x3F x (omega arith)) s t
class_text Xn s t = signed_ascii s t
class_text B s t = refl
