-- One field: an allowed content is found in its form, whatever follows, and what is found is the form of an allowed content. Assumes nothing.
use Prim.Native.Nat.{ℕ, ◌+◌, ◌^◌, ◌<◌}
use mathlib.Core.Path.{◌≡◌, refl, sym, ap, ◌∙◌}
use mathlib.Core.Bool.{true, false, cond}
use mathlib.Core.List.{List, [], ◌∷◌, ◌++◌}
use native.Mathlib.Omega.{arith}
use lib.ListN.{length, take, drop, length-append, length-drop, take-append-drop}
use lib.Seq.{length-take-le, take_at, drop_at, drop-drop}
use borrow.Author.Tests.{eq-eqb, ne_eqb}
use Rattle.std.specs.Prelude.{Ok}
use Rattle.octets.specs.Lists.{either, all}
use Rattle.octets.specs.Numbers.{is_digit, is_ascii, decimal, decimal_of}
use Rattle.octets.proofs.Cases.{by_bool, by_eq}
use Rattle.octets.proofs.Lists.{is_between, between_high, all_weaker}
use Rattle.octets.proofs.Numbers.{digits_length, digits_between, number_digits, digits_number}
use Rattle.field_table.specs.Table.{Table, is_binary, Small}
use Rattle.field_table.specs.declared.Class.{Class}
use Rattle.field_read.specs.Items.{length_of}
use Rattle.packed_field.specs.declared.Script.{Script}
use Rattle.packed_field.specs.Scripts.{other, size_of, is_spelt, digits_of, spelt_in, carried}
use Rattle.packed_field.specs.Items.{is_numeric, content_size, is_content, item_at, judge_item}
use Rattle.packed_field.proofs.Scripts.{digits_long, digits_are, spelt_again, spelling_long, spelling_good, spelling_back}
use Rattle.packed_field.proofs.Found.{Good, judges_good, good_judged}
use Rattle.packed_link.specs.Link.{content_carried, item_carried}
use Rattle.packed_language.specs.Packed.{Allowed}
use Rattle.packed_trips.proofs.Forms.{content_in}

-- the digits of a length in a script
module _ (S : Script) (w n : ℕ) where
  abbrev d : List ℕ
  d = decimal w n

  long : length d ≡ w
  long = digits_length 10 48 w n

  are : all is_digit d ≡ true
  are = digits_between 10 48 57 w n (omega arith) (omega arith)

  pub length_sized : length (spelt_in S d) ≡ size_of S w
  length_sized = spelling_long S d ∙ ap (size_of S) long

  length_good : is_spelt S w (spelt_in S d) ≡ true
  length_good = ap (λ (x : ℕ). is_spelt S x (spelt_in S d)) (sym long) ∙ spelling_good S d are

  length_back : digits_of S w (spelt_in S d) ≡ d
  length_back = ap (λ (x : ℕ). digits_of S x (spelt_in S d)) (sym long) ∙ spelling_back S d are

-- a content in a script
module _ (S : Script) (c : Class) (x : List ℕ) where
  pub content_sized : length (content_in S c x) ≡ content_size S c (length x)
  unfolding content_in content_size
  content_sized = by_bool (is_numeric c) (λ y. rw y (spelling_long S x)) (λ z. rw z)

  module _ (digits : is_numeric c ≡ true → all is_digit x ≡ true) (text : is_binary c ≡ false → all is_ascii x ≡ true) where
    content_good : is_content S c (length x) (content_in S c x) ≡ true
    unfolding content_in is_content
    content_good =
        by_bool (is_numeric c)
        (λ y. rw y (spelling_good S x (digits y)))
        (λ z. rw z (by_bool (is_binary c) (λ b. rw b) (λ b. rw b (text b))))

    content_across : content_carried S c (length x) (content_in S c x) ≡ content_in (other S) c x
    unfolding content_in content_carried carried
    content_across = by_bool (is_numeric c) (λ y. rw y (ap (spelt_in (other S)) (spelling_back S x (digits y)))) (λ z. rw z)

-- the content that such bytes stand for, in the plain form
unfoldable pub content_out : Script → Class → ℕ → List ℕ → List ℕ
content_out S c n x = cond (is_numeric c) (digits_of S n x) x

-- Complete: an allowed content is found.
module _ (S : Script) (t : Table) (f : ℕ) (c rest : List ℕ) (al : Allowed t f c) where
  abbrev w : ℕ
  w = t.width f

  abbrev k : Class
  k = t.class f

  abbrev n : ℕ
  n = length c

  abbrev ds : List ℕ
  ds = spelt_in S (decimal w n)

  abbrev x : List ℕ
  x = content_in S k c

  abbrev pub whole : List ℕ
  whole = ds ++ (x ++ rest)

  abbrev pub a : ℕ
  a = size_of S w

  abbrev pub size : ℕ
  size = content_size S k n

  abbrev pub across : ℕ
  across = size_of (other S) w + content_size (other S) k n

  front : take a whole ≡ ds
  front = take_at ds (x ++ rest) a (length_sized S w n)

  behind : drop a whole ≡ x ++ rest
  behind = drop_at ds (x ++ rest) a (length_sized S w n)

  content_front : take size (drop a whole) ≡ x
  content_front = ap (take size) behind ∙ take_at x rest size (content_sized S k c)

  whole_long : length whole ≡ a + (size + length rest)
  whole_long = length-append ds (x ++ rest) ∙ omega (arith, length-append x rest, length_sized S w n, content_sized S k c)

  is_n : n ≡ length_of w (t.most f) (decimal w n)
  unfolding length_of
  is_n = by_eq w 0 (λ z. al.item.fixed z ∙ rw (eq-eqb w 0 z)) (λ z. al.item.spelt z ∙ rw (ne_eqb w 0 z))

  good : Good S t f whole a n size across
  good =
      record {
        place =
            record {
              start = refl;
              whole = omega (arith, whole_long);
              digits = rw front (length_good S w n);
              is_n = rw (front, length_back S w n) is_n;
              short = al.item.allowed;
              size = refl;
              room = omega (arith, whole_long);
              across = refl;
            };
        content = rw content_front (content_good S k c al.digits al.item.text);
      }

  pub item_found : judge_item S t f whole ≡ Ok (item_at a n size across)
  item_found = judges_good S t f whole a n size across good

  pub item_across : item_carried S t f a n size whole ≡ spelt_in (other S) (decimal w n) ++ content_in (other S) k c
  unfolding item_carried carried
  item_across = rw (front, content_front, length_back S w n, content_across S k c al.digits al.item.text)

  pub item_read : content_out S k n (take size (drop a whole)) ≡ c
  unfolding content_out content_in
  item_read =
      ap (content_out S k n) content_front
      ∙ by_bool (is_numeric k) (λ y. rw y (spelling_back S c (al.digits y))) (λ z. rw z)

  pub item_behind : drop (a + size) whole ≡ rest
  item_behind = sym (drop-drop size a whole) ∙ ap (drop size) behind ∙ drop_at x rest size (content_sized S k c)

-- Sound: what is found is the form of an allowed content.
empty : (l : List ℕ) → length l ≡ 0 → l ≡ []
empty [] h = refl
empty (x ∷ l) h = absurd (omega arith)

pub digit_ascii : (x : ℕ) → is_digit x ≡ true → is_ascii x ≡ true
digit_ascii x h = is_between 0 0x7F x (omega arith) (omega (arith, between_high 0x30 0x39 x h))

module _ (S : Script) (t : Table) (small : Small t) (f : ℕ) (s : List ℕ) (a n k j : ℕ) (found : judge_item S t f s ≡ Ok (item_at a n k j)) where
  abbrev g : Good S t f s a n k j
  g = good_judged S t f s a n k j found

  abbrev y : List ℕ
  y = take k (drop a s)

  abbrev pub c : List ℕ
  c = content_out S (t.class f) n y

  y_long : length y ≡ content_size S (t.class f) n
  y_long = length-take-le k (drop a s) (omega (arith, length-drop a s, g.place.room)) ∙ g.place.size

  spelt : is_numeric (t.class f) ≡ true → is_spelt S n y ≡ true
  unfolding is_content
  spelt h = rw h at g.content

  pub c_long : length c ≡ n
  unfolding content_out content_size
  c_long = by_bool (is_numeric (t.class f)) (λ h. rw h (digits_long S n y (spelt h))) (λ h. rw h (y_long ∙ rw h))

  c_digits : is_numeric (t.class f) ≡ true → all is_digit c ≡ true
  unfolding content_out
  c_digits h = rw h (digits_are S n y (spelt h))

  c_text : is_binary (t.class f) ≡ false → all is_ascii c ≡ true
  unfolding content_out is_content
  c_text b =
      by_bool (is_numeric (t.class f))
      (λ h. all_weaker is_digit is_ascii digit_ascii c (c_digits h))
      (λ h. rw h (let q : either (is_binary (t.class f)) (all is_ascii y) ≡ true = rw h at g.content in rw b at q))

  c_in : content_in S (t.class f) c ≡ y
  unfolding content_in content_out
  c_in = by_bool (is_numeric (t.class f)) (λ h. rw h (spelt_again S n y (spelt h))) (λ h. rw h)

  abbrev e : List ℕ
  e = digits_of S (t.width f) (take a s)

  e_is : e ≡ decimal (t.width f) n
  unfolding length_of
  e_is =
      let l : length e ≡ t.width f = digits_long S (t.width f) (take a s) g.place.digits in
      by_eq (t.width f) 0
      (λ z. empty e (l ∙ z) ∙ sym (empty (decimal (t.width f) n) (digits_length 10 48 (t.width f) n ∙ z)))
      (λ z.
      let i : n ≡ decimal_of e = g.place.is_n ∙ rw (ne_eqb (t.width f) 0 z) in
      sym
      (ap (decimal (t.width f)) i ∙ ap (λ (x : ℕ). decimal x (decimal_of e)) (sym l)
      ∙ digits_number 10 48 57 (omega arith) (omega arith) e (digits_are S (t.width f) (take a s) g.place.digits)))

  pub item_allowed : Allowed t f c
  unfolding length_of
  item_allowed =
      record {
        item =
            record {
              width = digits_length 10 48 (t.width f) (length c);
              digits = digits_between 10 48 57 (t.width f) (length c) (omega arith) (omega arith);
              fixed = λ z. c_long ∙ g.place.is_n ∙ rw (eq-eqb (t.width f) 0 z);
              spelt = λ z. sym (number_digits 10 48 (t.width f) (length c) (omega arith) (rw c_long (under z)));
              allowed = rw c_long g.place.short;
              text = c_text;
            };
        digits = c_digits;
      }
    where
      under : (t.width f ≡ 0 → ⊥) → n < 10 ^ t.width f
      under z = omega (arith, small.most_spelt f z, g.place.short)

  pub item_form : s ≡ spelt_in S (decimal (t.width f) (length c)) ++ (content_in S (t.class f) c ++ drop (a + k) s)
  item_form =
      let q : spelt_in S (decimal (t.width f) n) ≡ take a s = ap (spelt_in S) (sym e_is) ∙ spelt_again S (t.width f) (take a s) g.place.digits in
      sym (rw (c_long, q, c_in, ← drop-drop k a s, take-append-drop k (drop a s)) (take-append-drop a s))

  pub item_out : item_carried S t f a n k s ≡ spelt_in (other S) (decimal (t.width f) (length c)) ++ content_in (other S) (t.class f) c
  unfolding item_carried carried content_carried content_in content_out
  item_out =
      rw (c_long, e_is)
      (ap (λ (l : List ℕ). spelt_in (other S) (decimal (t.width f) n) ++ l)
      (by_bool (is_numeric (t.class f)) (λ h. rw h) (λ h. rw h)))

  pub item_takes : length (spelt_in S (decimal (t.width f) (length c)) ++ content_in S (t.class f) c) ≡ a + k
  item_takes =
      length-append (spelt_in S (decimal (t.width f) (length c))) (content_in S (t.class f) c)
      ∙ omega (arith, length_sized S (t.width f) (length c), content_sized S (t.class f) c, ap (content_size S (t.class f)) c_long, g.place.start, g.place.size)
