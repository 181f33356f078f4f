-- The head of a message in either script: the ends of its reader with the facts as the code has them, and what it means that a head is read.
-- Assumes nothing.
use Prim.Native.Nat.{ℕ, ◌+◌, ◌*◌, ◌-◌, ◌≤◌, ◌<◌}
use mathlib.Core.Path.{◌≡◌, refl, sym, ◌∙◌}
use mathlib.Core.Bool.{true}
use mathlib.Core.List.{List}
use native.Mathlib.Nat.{add-sub_cancel_left}
use native.Mathlib.Omega.{arith}
use lib.Dec.{eqb}
use lib.ListN.{length, take, drop, length-take}
use lib.Seq.{length-take-le}
use borrow.Author.Tests.{lt-ltb, le-ltb, eq-eqb, eqb-true}
use Rattle.std.specs.Prelude.{Result, Ok, Err}
use Rattle.std.specs.Result.{is_ok}
use Rattle.octets.specs.Lists.{all, lead}
use Rattle.octets.specs.Numbers.{is_digit, are_digits}
use Rattle.octets.proofs.Cases.{by_lt, both_left, both_right, false_true}
use Rattle.octets.proofs.Lists.{lead_all, lead_most}
use Rattle.refusal.specs.Numbers.{message_too_short}
use Rattle.refusal.specs.Refusals.{refusal, plain, Test, good}
use Rattle.refusal.specs.declared.Cause.{Cause}
use Rattle.refusal.specs.declared.Refusal.{Refusal}
use Rattle.encoding_bcd.specs.Bcd.{is_bcd, spare_zero, decode_fault}
use Rattle.encoding_bcd.proofs.Faults.{decode_good}
use Rattle.bitmap.specs.Bitmaps.{fields_of}
use Rattle.bitmap.proofs.Fields.{fields_in_lem}
use Rattle.bitmap_read.specs.Found.{maps_of, bitmaps_read}
use Rattle.bitmap_read.proofs.Found.{FoundMaps, maps_least, maps_found, maps_read}
use Rattle.packed_field.specs.declared.Script.{Script}
use Rattle.packed_field.specs.declared.Script.TheVariants.{Plain, Packed}
use Rattle.packed_field.specs.Scripts.{size_of, is_spelt, is_part}
use Rattle.packed_link.specs.Link.{mti_fault, link_head}

-- an MTI takes two bytes or four
pub mti_small : (S : Script) → size_of S 4 ≤ 4
unfolding size_of
mti_small Plain = omega arith
mti_small Packed = omega arith

-- the ends of `read_head`
module _ (S : Script) (m : ℕ) (s : List ℕ) (a : ℕ) (sized : a ≡ size_of S 4) where
  pub head_short : (r : Refusal) → length s < a + 8 → r ≡ plain message_too_short → Err r ≡ link_head S m s
  unfolding link_head
  head_short r h e = rw (e, ← sized, lt-ltb (length s) (a + 8) h)

  module _ (long : a + 8 ≤ length s) (n : ℕ) (is : n ≡ lead (is_part S) (take a s)) where
    pub head_no_digit : (x : Cause) (r : Refusal) → n < a → x ≡ mti_fault S → r ≡ refusal x 0 n → Err r ≡ link_head S m s
    unfolding link_head
    head_no_digit x r h e q = rw (q, e, ← sized, le-ltb (length s) (a + 8) long, ← is, lt-ltb n a h)

    pub head_maps : (r : Result ℕ Refusal) → a ≤ n → r ≡ bitmaps_read a m s → r ≡ link_head S m s
    unfolding link_head
    head_maps r h e = rw (← sized, le-ltb (length s) (a + 8) long, ← is, le-ltb n a h) e

-- bytes of which each holds digits are an MTI exactly when there are as many as four digits take
all_parts : (S : Script) (x : List ℕ) → length x ≡ size_of S 4 → all (is_part S) x ≡ true → is_spelt S 4 x ≡ true
unfolding size_of is_spelt is_part are_digits decode_fault spare_zero
all_parts Plain x l t = rw (eq-eqb (length x) 4 l) t
all_parts Packed x l t = rw (eq-eqb (length x) 2 l, t)

clean : (t : Test) → is_ok t ≡ true → t ≡ good
clean (Ok x) h = refl
clean (Err c) h = absurd (false_true h)

parts_all : (S : Script) (x : List ℕ) → is_spelt S 4 x ≡ true → all (is_part S) x ≡ true
unfolding is_spelt is_part are_digits
parts_all Plain x t = both_right (eqb (length x) 4) (all is_digit x) t
parts_all Packed x t = both_left (all is_bcd x) (spare_zero 4 x) (decode_good 4 x (clean (decode_fault 4 x) t))

-- What it means that a head with k bitmaps is read, where at most m are taken.
pub record Headed (S : Script) (m : ℕ) (s : List ℕ) (k : ℕ) : Type 0 where
  pub mti : is_spelt S 4 (take (size_of S 4) s) ≡ true
  pub maps : FoundMaps (size_of S 4) m s k

never : (o : Result ℕ Refusal) (r : Refusal) (k : ℕ) → o ≡ Err r → o ≡ Ok k → ⊥
never o r k p q = let z : ◌≡◌ {A = ℕ} 0 1 = cc in omega arith

module _ (S : Script) (m : ℕ) (s : List ℕ) (k : ℕ) where
  abbrev a : ℕ
  a = size_of S 4

  abbrev x : List ℕ
  x = take a s

  pub head_found : 2 ≤ m → link_head S m s ≡ Ok k → Headed S m s k
  unfolding link_head
  head_found least e =
      by_lt (length s) (a + 8) (λ h. absurd (never _ (plain message_too_short) k (rw (lt-ltb (length s) (a + 8) h)) e))
      (λ long. by_lt (lead (is_part S) x) a
      (λ h. absurd (never _ (refusal (mti_fault S) 0 (lead (is_part S) x)) k (rw (le-ltb (length s) (a + 8) long, lt-ltb (lead (is_part S) x) a h)) e))
      (λ good.
      let l : length x ≡ a = length-take-le a s (omega arith) in
      let w : lead (is_part S) x ≡ length x = omega (arith, lead_most (is_part S) x) in
      record {
        mti = all_parts S x l (sym (lead_all (is_part S) x) ∙ eq-eqb (lead (is_part S) x) (length x) w);
        maps = maps_found a m s k least (rw (le-ltb (length s) (a + 8) long, le-ltb (lead (is_part S) x) a good) at e);
      }))

  pub head_reads : Headed S m s k → link_head S m s ≡ Ok k
  head_reads h =
      let long : a + 8 ≤ length s = omega (arith, h.maps.long, maps_least a m s k h.maps) in
      let l : length x ≡ a = length-take-le a s (omega arith) in
      let w : lead (is_part S) x ≡ length x = eqb-true (lead (is_part S) x) (length x) (lead_all (is_part S) x ∙ parts_all S x h.mti) in
      sym (head_maps S m s a refl long (lead (is_part S) x) refl (Ok k) (omega arith) (sym (maps_read a m s k h.maps)))

  -- what a head that is read says of its bitmaps
  module _ (least : 2 ≤ m) (e : link_head S m s ≡ Ok k) where
    pub head_few : k ≤ m
    head_few = (head_found least e).maps.few

    pub head_room : a + 8 * k ≤ length s
    head_room = (head_found least e).maps.long

    pub head_mti : is_spelt S 4 x ≡ true
    head_mti = (head_found least e).mti

-- the fields that the code has listed are those of the bitmaps, of which the first starts at a
pub list_is : (S : Script) (s : List ℕ) (k a : ℕ) (list fields : List ℕ) → link_head S 3 s ≡ Ok k → a ≡ size_of S 4 → list ≡ fields_of (take (a + 8 * k - a) (drop a s)) 3 → fields ≡ list
    → fields ≡ fields_of (maps_of (size_of S 4) s k) k
unfolding maps_of
list_is S s k a list fields head sized e is =
    let few = head_few S 3 s k (omega arith) head in
    is ∙ e ∙ rw (← sized, add-sub_cancel_left a (8 * k)) (fields_in_lem (take (8 * k) (drop a s)) k few (omega (arith, length-take (8 * k) (drop a s))))
