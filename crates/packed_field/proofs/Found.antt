-- What it means that a field is found, and that it is judged good. Assumes nothing.
use Prim.Native.Nat.{ℕ, ◌+◌, ◌-◌, ◌≤◌}
use mathlib.Core.Path.{◌≡◌, refl, sym, ap, ◌∙◌}
use mathlib.Core.Bool.{true}
use mathlib.Core.List.{List}
use native.Mathlib.Omega.{arith}
use lib.ListN.{length, take, drop}
use borrow.Author.Tests.{lt-ltb, le-ltb}
use Rattle.std.specs.Prelude.{Result, Ok, Err}
use Rattle.octets.proofs.Cases.{by_bool, by_lt}
use Rattle.refusal.specs.Numbers.{past_the_end, length_over_table}
use Rattle.refusal.specs.declared.Cause.{Cause}
use Rattle.field_table.specs.Table.{Table}
use Rattle.field_table.specs.declared.Class.{Class}
use Rattle.field_read.specs.Items.{length_of}
use Rattle.packed_field.specs.declared.Script.{Script}
use Rattle.packed_field.specs.declared.Item.{Item}
use Rattle.packed_field.specs.Scripts.{other, size_of, is_spelt, digits_of}
use Rattle.packed_field.specs.Items.{content_size, is_content, length_fault, content_fault, item_at, place_sized, place_by, place_item, judge_item}

never : (o : Result Item Cause) (x : Cause) (a n k j : ℕ) → o ≡ Err x → o ≡ Ok (item_at a n k j) → ⊥
never o x a n k j p q = let z : ◌≡◌ {A = ℕ} 0 1 = cc in omega arith

pub record Placed (S : Script) (w m : ℕ) (c : Class) (s : List ℕ) (a n k j : ℕ) : Type 0 where
  pub start : a ≡ size_of S w
  pub whole : a ≤ length s
  pub digits : is_spelt S w (take a s) ≡ true
  pub is_n : n ≡ length_of w m (digits_of S w (take a s))
  pub short : n ≤ m
  pub size : k ≡ content_size S c n
  pub room : k ≤ length s - a
  pub across : j ≡ size_of (other S) w + content_size (other S) c n

module _ (S : Script) (w m : ℕ) (c : Class) (s : List ℕ) (a n k j : ℕ) where
  pub places : Placed S w m c s a n k j → place_by S w m c s ≡ Ok (item_at a n k j)
  unfolding place_by place_sized
  places p =
      rw (← p.start, le-ltb (length s) a p.whole, p.digits, ← p.is_n, le-ltb m n p.short, ← p.size, le-ltb (length s - a) k p.room, ← p.across)

  pub placed : place_by S w m c s ≡ Ok (item_at a n k j) → Placed S w m c s a n k j
  unfolding place_by place_sized
  placed e =
      by_lt (length s) (size_of S w) (λ h. absurd (never _ past_the_end a n k j (rw (lt-ltb (length s) (size_of S w) h)) e))
      (λ whole. by_bool (is_spelt S w (take (size_of S w) s))
      (λ digits. sized whole digits (length_of w m (digits_of S w (take (size_of S w) s))) refl)
      (λ t. absurd (never _ (length_fault S) a n k j (rw (le-ltb (length s) (size_of S w) whole, t)) e)))
    where
      sized : size_of S w ≤ length s → is_spelt S w (take (size_of S w) s) ≡ true → (x : ℕ) → x ≡ length_of w m (digits_of S w (take (size_of S w) s)) → Placed S w m c s a n k j
      sized whole digits x is =
          let e' : place_sized S w x m c s ≡ Ok (item_at a n k j) = rw (le-ltb (length s) (size_of S w) whole, digits, ← is) at e in
          by_lt m x (λ h. absurd (never _ length_over_table a n k j (rw (lt-ltb m x h)) e'))
          (λ short. by_lt (length s - size_of S w) (content_size S c x) (λ h. absurd (never _ past_the_end a n k j (rw (le-ltb m x short, lt-ltb (length s - size_of S w) (content_size S c x) h)) e'))
          (λ room.
          let r : Ok (item_at (size_of S w) x (content_size S c x) (size_of (other S) w + content_size (other S) c x)) ≡ Ok (item_at a n k j) = rw (le-ltb m x short, le-ltb (length s - size_of S w) (content_size S c x) room) at e' in
          let same : item_at (size_of S w) x (content_size S c x) (size_of (other S) w + content_size (other S) c x) ≡ item_at a n k j = cc in
          let ia : a ≡ size_of S w = sym (ap (λ (i : Item). i.start) same) in
          let ix : n ≡ x = sym (ap (λ (i : Item). i.count) same) in
          let ik : k ≡ content_size S c x = sym (ap (λ (i : Item). i.size) same) in
          let ij : j ≡ size_of (other S) w + content_size (other S) c x = sym (ap (λ (i : Item). i.carried) same) in
          record {
            start = ia;
            whole = rw ia whole;
            digits = rw ia digits;
            is_n = rw ia (ix ∙ is);
            short = rw ix short;
            size = rw ix ik;
            room = rw (ia, ik) room;
            across = rw ix ij;
          }))

-- of a field of the table
module _ (S : Script) (t : Table) (f : ℕ) (s : List ℕ) (a n k j : ℕ) where
  pub item_placed : place_item S t f s ≡ Ok (item_at a n k j) → Placed S (t.width f) (t.most f) (t.class f) s a n k j
  unfolding place_item
  item_placed e = placed S (t.width f) (t.most f) (t.class f) s a n k j e

  pub item_places : Placed S (t.width f) (t.most f) (t.class f) s a n k j → place_item S t f s ≡ Ok (item_at a n k j)
  unfolding place_item
  item_places p = places S (t.width f) (t.most f) (t.class f) s a n k j p

  pub placed_within : Ok (item_at a n k j) ≡ place_item S t f s → a + k ≤ length s
  placed_within e = let p = item_placed (sym e) in omega (arith, p.whole, p.room)

-- and judged good
pub record Good (S : Script) (t : Table) (f : ℕ) (s : List ℕ) (a n k j : ℕ) : Type 0 where
  pub place : Placed S (t.width f) (t.most f) (t.class f) s a n k j
  pub content : is_content S (t.class f) n (take k (drop a s)) ≡ true

by_item : {P : Type 0} (i : Result Item Cause) → ((x : Cause) → i ≡ Err x → P) → ((a n k j : ℕ) → i ≡ Ok (item_at a n k j) → P) → P
by_item (Err x) p q = p x refl
by_item (Ok i) p q = q i.start i.count i.size i.carried refl

module _ (S : Script) (t : Table) (f : ℕ) (s : List ℕ) (a n k j : ℕ) where
  pub judges_good : Good S t f s a n k j → judge_item S t f s ≡ Ok (item_at a n k j)
  unfolding judge_item
  judges_good g = rw (item_places S t f s a n k j g.place, g.content)

  pub good_judged : judge_item S t f s ≡ Ok (item_at a n k j) → Good S t f s a n k j
  unfolding judge_item
  good_judged e =
      by_item (place_item S t f s)
      (λ x h. absurd (never _ x a n k j (rw h) e))
      (λ a' n' k' j' h. by_bool (is_content S (t.class f) n' (take k' (drop a' s)))
      (λ y.
      let r : Ok (item_at a' n' k' j') ≡ Ok (item_at a n k j) = rw (h, y) at e in
      let same : item_at a' n' k' j' ≡ item_at a n k j = cc in
      let ea : a' ≡ a = ap (λ (i : Item). i.start) same in
      let en : n' ≡ n = ap (λ (i : Item). i.count) same in
      let ek : k' ≡ k = ap (λ (i : Item). i.size) same in
      record { place = item_placed S t f s a n k j (h ∙ r); content = rw (← ea, ← en, ← ek) y })
      (λ y. absurd (never _ (content_fault S (t.class f)) a n k j (rw (h, y)) e)))

  -- where all is good, the place alone gives the same
  pub judged_placed : judge_item S t f s ≡ Ok (item_at a n k j) → place_item S t f s ≡ Ok (item_at a n k j)
  judged_placed e = item_places S t f s a n k j (good_judged e).place
