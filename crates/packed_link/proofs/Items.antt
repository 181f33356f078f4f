-- One good field, written in the other script: what it takes, and that it is laid over the front of what is lent. Assumes nothing.
use Prim.Native.Nat.{ℕ, ◌+◌, ◌-◌, ◌≤◌}
use mathlib.Core.Path.{◌≡◌, refl, sym, ap, ◌∙◌}
use mathlib.Core.Bool.{Bool, true, false}
use mathlib.Core.List.{List}
use native.Mathlib.Nat.{add-sub_cancel_left}
use native.Mathlib.Omega.{arith}
use lib.ListN.{length, take, drop, length-append, length-drop}
use lib.Seq.{length-take-le}
use borrow.Rule.Slice.PartMut.{mid_of, put_mid}
use Rattle.std.specs.Prelude.{Ok}
use Rattle.octets.specs.Lists.{lay, placed}
use Rattle.octets.proofs.Cases.{by_bool}
use Rattle.octets.proofs.Lists.{placed_fits}
use Rattle.octets.proofs.Parts.{lay_part}
use Rattle.field_table.specs.Table.{Table}
use Rattle.field_table.specs.Codes.{decoded}
use Rattle.field_table.specs.declared.Class.{Class}
use Rattle.packed_field.specs.declared.Script.{Script}
use Rattle.packed_field.specs.declared.Item.{Item}
use Rattle.packed_field.specs.Scripts.{other, size_of, is_spelt, carried, carried_into}
use Rattle.packed_field.specs.Items.{is_numeric, content_size, is_content, judge_item}
use Rattle.packed_field.proofs.Scripts.{carried_long, carried_placed}
use Rattle.packed_field.proofs.Ends.{across_small, most_small}
use Rattle.packed_field.proofs.Found.{Placed, Good, good_judged}
use Rattle.packed_link.specs.Link.{content_carried, item_carried}

-- a content
module _ (S : Script) (c : Class) (n : ℕ) (x : List ℕ) (good : is_content S c n x ≡ true) (sized : length x ≡ content_size S c n) where
  module _ (y : is_numeric c ≡ true) where
    spelt : is_spelt S n x ≡ true
    unfolding is_content
    spelt = rw y at good

    numeric_is : content_carried S c n x ≡ carried S n x
    unfolding content_carried
    numeric_is = rw y

    numeric_size : content_size (other S) c n ≡ size_of (other S) n
    unfolding content_size
    numeric_size = rw y

  module _ (z : is_numeric c ≡ false) where
    as_is : content_carried S c n x ≡ x
    unfolding content_carried
    as_is = rw z

    as_is_size : length x ≡ content_size (other S) c n
    unfolding content_size
    as_is_size = sized ∙ rw z

  pub content_long : length (content_carried S c n x) ≡ content_size (other S) c n
  content_long =
      by_bool (is_numeric c)
      (λ y. ap length (numeric_is y) ∙ carried_long S n x (spelt y) ∙ sym (numeric_size y))
      (λ z. ap length (as_is z) ∙ as_is_size z)

  -- the ends of `carry_content`
  module _ (o : List ℕ) (room : content_size (other S) c n ≤ length o) (flag : Bool) (tested : flag ≡ is_numeric c) (r : List ℕ) where
    pub content_carried_lem : flag ≡ true → r ≡ carried_into S n x o → r ≡ lay (content_carried S c n x) o
    content_carried_lem t e =
        let y : is_numeric c ≡ true = sym tested ∙ t in
        rw (numeric_is y)
        (e ∙ carried_placed S n x o (spelt y) ∙ placed_fits (carried S n x) o (size_of (other S) n) (carried_long S n x (spelt y)) (omega (arith, room, numeric_size y)))

    pub content_put : flag ≡ false → r ≡ placed x o → r ≡ lay (content_carried S c n x) o
    content_put t e =
        let z : is_numeric c ≡ false = sym tested ∙ t in
        rw (as_is z) (e ∙ placed_fits x o (content_size (other S) c n) (as_is_size z) room)

-- a field
module _ (S : Script) (t : Table) (f : ℕ) (s : List ℕ) (i : Item) (found : judge_item S t f s ≡ Ok i) where
  good : Good S t f s i.start i.count i.size i.carried
  good = good_judged S t f s i.start i.count i.size i.carried found

  abbrev p : Placed S (t.width f) (t.most f) (t.class f) s i.start i.count i.size i.carried
  p = good.place

  pub item_within : i.start + i.size ≤ length s
  item_within = omega (arith, p.whole, p.room)

  pub content_sized : length (take i.size (drop i.start s)) ≡ content_size S (t.class f) i.count
  content_sized = length-take-le i.size (drop i.start s) (omega (arith, length-drop i.start s, p.room)) ∙ p.size

  pub content_good : is_content S (t.class f) i.count (take i.size (drop i.start s)) ≡ true
  content_good = good.content

  pub digits_good : is_spelt S (t.width f) (take i.start s) ≡ true
  digits_good = p.digits

  pub digits_carried_long : length (carried S (t.width f) (take i.start s)) ≡ size_of (other S) (t.width f)
  digits_carried_long = carried_long S (t.width f) (take i.start s) digits_good

  pub across_is : i.carried ≡ size_of (other S) (t.width f) + content_size (other S) (t.class f) i.count
  across_is = p.across

  pub item_long : length (item_carried S t f i.start i.count i.size s) ≡ i.carried
  unfolding item_carried
  item_long =
      length-append (carried S (t.width f) (take i.start s)) (content_carried S (t.class f) i.count (take i.size (drop i.start s)))
      ∙ omega (arith, digits_carried_long, content_long S (t.class f) i.count (take i.size (drop i.start s)) content_good content_sized, across_is)

  -- as `carry_item` has its parts
  pub content_asked : (c : Class) → c ≡ t.class f → (is_content S c i.count (take (i.start + i.size - i.start) (drop i.start s)) ≡ true) × (length (take (i.start + i.size - i.start) (drop i.start s)) ≡ content_size S c i.count)
  content_asked c e = rw (e, add-sub_cancel_left i.start i.size) (content_good, content_sized)

  pub first_left : (w x : ℕ) (X : Script) (c : Class) → w ≡ t.width f → X ≡ other S → x ≡ size_of X w → c ≡ t.class f → x + content_size (other S) c i.count ≡ i.carried
  first_left w x X c ew eX ex ec = rw (ex, eX, ew, ec) (sym across_is)

  -- the end of `carry_item`: o held the output, e once the length digits were written, g is the part with the content
  module _ (o e g : List ℕ) (w x : ℕ) (c : Class) (X : Script) (room : i.carried ≤ length o) (wide : w ≡ t.width f) (across : X ≡ other S) (first : x ≡ size_of X w) (classed : c ≡ t.class f)
      (digits : e ≡ carried_into S w (take i.start s) o) where
    first_is : x ≡ size_of (other S) (t.width f)
    first_is = first ∙ rw (across, wide)

    laid : e ≡ lay (carried S (t.width f) (take i.start s)) o
    laid =
        digits ∙ ap (λ (q : ℕ). carried_into S q (take i.start s) o) wide ∙ carried_placed S (t.width f) (take i.start s) o digits_good
        ∙ placed_fits (carried S (t.width f) (take i.start s)) o (size_of (other S) (t.width f)) digits_carried_long (omega (arith, room, across_is))

    pub item_carried_lem : g ≡ lay (content_carried S c i.count (take (i.start + i.size - i.start) (drop i.start s))) (mid_of x (length e - x) e) → put_mid x (length e - x) e g ≡ lay (item_carried S t f i.start i.count i.size s) o
    unfolding item_carried
    item_carried_lem h =
        lay_part (carried S (t.width f) (take i.start s)) (content_carried S (t.class f) i.count (take i.size (drop i.start s))) o e g x laid (digits_carried_long ∙ sym first_is)
        (h ∙ rw (add-sub_cancel_left i.start i.size, classed))

-- by a table that is lent, what a field takes in the other script is a small number
pub item_small : (S : Script) (cs : List ℕ) (f : ℕ) (s : List ℕ) (i : Item) → judge_item S (decoded cs) f s ≡ Ok i → i.carried ≤ 1026
unfolding decoded
item_small S cs f s i e =
    let p = (good_judged S (decoded cs) f s i.start i.count i.size i.carried e).place in
    omega (arith, across_small (other S) ((decoded cs).class f) ((decoded cs).width f) ((decoded cs).most f) i.count _ _ (omega arith) (most_small cs f ((decoded cs).most f) refl) p.short refl refl, p.across)
