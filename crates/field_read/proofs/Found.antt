-- Reading one field finds a content exactly when its length digits and bytes are there and allowed. Assumes nothing.
use Prim.Native.Nat.{ℕ, ◌-◌, ◌≤◌}
use mathlib.Core.Path.{◌≡◌, refl, sym, ap, ◌∙◌}
use mathlib.Core.Bool.{true}
use mathlib.Core.List.{List}
use native.Mathlib.Omega.{arith}
use lib.ListN.{length, take, drop}
use borrow.Author.Tests.{lt-ltb, le-ltb}
use Rattle.std.specs.Prelude.{Result, Ok, Err}
use Rattle.octets.specs.Lists.{either, all}
use Rattle.octets.specs.Numbers.{is_digit, is_ascii}
use Rattle.octets.proofs.Cases.{by_bool, by_lt}
use Rattle.refusal.specs.Numbers.{past_the_end, length_not_digits, length_over_table, text_not_ascii}
use Rattle.refusal.specs.declared.Cause.{Cause}
use Rattle.field_table.specs.Table.{Table, is_binary}
use Rattle.field_table.specs.declared.Class.{Class}
use Rattle.field_table.specs.declared.Class.TheVariants.{B}
use Rattle.field_read.specs.Items.{content_at, length_of, read_sized, read_item, read_field, place_field}
use Rattle.field_read.specs.declared.Content.{Content}

never : (o : Result Content Cause) (k : Cause) (a n : ℕ) → o ≡ Err k → o ≡ Ok (content_at a n) → ⊥
never o k a n p q = let z : ◌≡◌ {A = ℕ} 0 1 = cc in omega arith

-- two contents are the same only where their places and lengths are
pub same_content : {w k a n : ℕ} → ◌≡◌ {A = Result Content Cause} (Ok (content_at w k)) (Ok (content_at a n)) → (w ≡ a) × (k ≡ n)
same_content {w} {k} {a} {n} e =
    let q : content_at w k ≡ content_at a n = cc in
    (ap (λ (x : Content). x.start) q, ap (λ (x : Content). x.length) q)

pub record Found (w m : ℕ) (c : Class) (s : List ℕ) (a n : ℕ) : Type 0 where
  pub start : a ≡ w
  pub whole : w ≤ length s
  pub digits : all is_digit (take w s) ≡ true
  pub is_n : n ≡ length_of w m (take w s)
  pub short : n ≤ m
  pub room : n ≤ length s - w
  pub text : either (is_binary c) (all is_ascii (take n (drop w s))) ≡ true

module _ (w m : ℕ) (c : Class) (s : List ℕ) (a n : ℕ) where
  pub reads : Found w m c s a n → read_item w m c s ≡ Ok (content_at a n)
  unfolding read_item read_sized
  reads f =
      rw (f.start, le-ltb (length s) w f.whole, f.digits, ← f.is_n, le-ltb m n f.short, le-ltb (length s - w) n f.room, f.text)

  pub found : read_item w m c s ≡ Ok (content_at a n) → Found w m c s a n
  unfolding read_item read_sized
  found e =
      by_lt (length s) w (λ h. absurd (never _ past_the_end a n (rw (lt-ltb (length s) w h)) e))
      (λ whole. by_bool (all is_digit (take w s))
      (λ digits. sized whole digits (length_of w m (take w s)) refl)
      (λ t. absurd (never _ length_not_digits a n (rw (le-ltb (length s) w whole, t)) e)))
    where
      sized : w ≤ length s → all is_digit (take w s) ≡ true → (k : ℕ) → k ≡ length_of w m (take w s) → Found w m c s a n
      sized whole digits k is =
          let e' : read_sized w k m c s ≡ Ok (content_at a n) = rw (le-ltb (length s) w whole, digits, ← is) at e in
          by_lt m k (λ h. absurd (never _ length_over_table a n (rw (lt-ltb m k h)) e'))
          (λ short. by_lt (length s - w) k (λ h. absurd (never _ past_the_end a n (rw (le-ltb m k short, lt-ltb (length s - w) k h)) e'))
          (λ room. by_bool (either (is_binary c) (all is_ascii (take k (drop w s))))
          (λ text.
          let r : ◌≡◌ {A = Result Content Cause} (Ok (content_at w k)) (Ok (content_at a n)) = rw (le-ltb m k short, le-ltb (length s - w) k room, text) at e' in
          let i : n ≡ k = sym (same_content r).1 in
          record { start = sym (same_content r).0; whole = whole; digits = digits; is_n = i ∙ is; short = rw i short; room = rw i room; text = rw i text })
          (λ t. absurd (never _ text_not_ascii a n (rw (le-ltb m k short, le-ltb (length s - w) k room, t)) e'))))

-- where reading a field finds a content, so does placing it
pub read_placed : (t : Table) (f : ℕ) (s : List ℕ) (a n : ℕ) → read_field t f s ≡ Ok (content_at a n) → place_field t f s ≡ Ok (content_at a n)
unfolding read_field place_field
read_placed t f s a n e =
    let g = found (t.width f) (t.most f) (t.class f) s a n e in
    reads (t.width f) (t.most f) B s a n
    record {
      start = g.start;
      whole = g.whole;
      digits = g.digits;
      is_n = g.is_n;
      short = g.short;
      room = g.room;
      text = refl;
    }
