-- The statements of specs/Refusals.antt. Assumes nothing.
use Prim.Native.Nat.{ℕ, ◌+◌, ◌-◌, ◌*◌, ◌≤◌}
use mathlib.Core.Path.{◌≡◌, refl, sym, ap, ◌∙◌}
use mathlib.Core.Bool.{true, false}
use mathlib.Core.List.{List, [], ◌∷◌}
use native.Mathlib.Omega.{arith}
use lib.Dec.{eqb, leb}
use lib.ListN.{length, take, drop}
use lib.Seq.{length-take-le}
use borrow.Author.Tests.{lt-ltb, le-ltb, eq-eqb}
use Rattle.std.specs.Prelude.{Result, Ok, Err}
use Rattle.octets.specs.Lists.{between, either, all, lead}
use Rattle.octets.specs.Numbers.{is_digit, is_ascii, are_digits, number}
use Rattle.octets.proofs.Cases.{by_bool, by_lt, both_right, false_true}
use Rattle.octets.proofs.Lists.{all_weaker}
use Rattle.refusal.specs.Numbers.{number_of, message_too_short, bitmap_incomplete, past_the_end, length_not_digits, length_over_table, text_not_ascii, output_too_short, not_digits, bitmap_over_most}
use Rattle.refusal.specs.Refusals.{refusal, plain}
use Rattle.refusal.specs.declared.Cause.{Cause}
use Rattle.refusal.specs.declared.Refusal.{Refusal}
use Rattle.field_table.specs.Table.{Table, table_of, is_binary}
use Rattle.field_table.specs.House.{house, house_rows}
use Rattle.field_table.specs.declared.Class.{Class}
use Rattle.field_table.specs.declared.Class.TheVariants.{N, A, An, Ans, Ns, Z, Xn, B}
use Rattle.field_read.specs.Items.{content_at, length_of, read_sized, read_item, read_field}
use Rattle.field_read.proofs.Found.{reads}
use Rattle.encoding_bcd.specs.Bcd.{spread, unpacked as digits_from, is_bcd, spare_zero, decode_fault}
use Rattle.bitmap.specs.Bits.{bit_of}
use Rattle.bitmap.specs.Bitmaps.{is_field, has_field, fields_from, fields_of}
use Rattle.bitmap_read.specs.Found.{maps_of, bitmaps_read}
use Rattle.message_reader.specs.Reader.{head_read}
use Rattle.refusal.proofs.Results.{by_result, never, same_err}
use Rattle.packed_field.specs.declared.Script.{Script}
use Rattle.packed_field.specs.declared.Script.TheVariants.{Plain, Packed}
use Rattle.packed_field.specs.declared.Item.{Item}
use Rattle.packed_field.specs.Scripts.{other, size_of, is_spelt, is_part, digits_of}
use Rattle.packed_field.specs.Items.{is_numeric, content_size, is_content, length_fault, content_fault, item_at, place_sized, place_by, place_item, judge_item}
use Rattle.packed_field.proofs.Found.{good_judged}
use Rattle.packed_link.specs.Link.{mti_fault, link_head, fields_judged, body_judged, link_judged, link_answer}
use Rattle.packed_link.proofs.Fields.{fields_refused, fields_good}
use Rattle.packed_trips.specs.Refusals.{TakesOrEight, RefusesAsReader, BinaryNeverText, HouseRefuses, WorkedRefusals}
use Rattle.packed_trips.proofs.Items.{digit_ascii}

-- in the plain script a content takes a byte for each of its count
size_plain : (c : Class) (n : ℕ) → content_size Plain c n ≡ n
unfolding content_size size_of
size_plain c n = by_bool (is_numeric c) (λ y. rw y) (λ z. rw z)

-- class n is text
numeric_text : (c : Class) → is_numeric c ≡ true → is_binary c ≡ false
numeric_text N y = refl
numeric_text A y = absurd (false_true y)
numeric_text An y = absurd (false_true y)
numeric_text Ans y = absurd (false_true y)
numeric_text Ns y = absurd (false_true y)
numeric_text Z y = absurd (false_true y)
numeric_text Xn y = absurd (false_true y)
numeric_text B y = absurd (false_true y)

digits_of_lem : (n : ℕ) (s : List ℕ) → is_spelt Plain n s ≡ true → all is_digit s ≡ true
unfolding is_spelt are_digits
digits_of_lem n s t = both_right (eqb (length s) n) (all is_digit s) t

spelt_by : (n : ℕ) (s : List ℕ) → length s ≡ n → is_spelt Plain n s ≡ all is_digit s
unfolding is_spelt are_digits
spelt_by n s l = rw (eq-eqb (length s) n l)

-- a content that packing takes is text or binary for the reader
content_read : (c : Class) (n : ℕ) (x : List ℕ) → is_content Plain c n x ≡ true → either (is_binary c) (all is_ascii x) ≡ true
unfolding is_content
content_read c n x g =
    by_bool (is_numeric c)
    (λ y. rw (numeric_text c y) (all_weaker is_digit is_ascii digit_ascii x (digits_of_lem n x (rw y at g))))
    (λ z. rw z at g)

found_read : (t : Table) (f : ℕ) (s : List ℕ) (i : Item) → judge_item Plain t f s ≡ Ok i → (read_field t f s ≡ Ok (content_at i.start i.count)) × (i.size ≡ i.count)
unfolding read_field size_of digits_of
found_read t f s i e =
    let g = good_judged Plain t f s i.start i.count i.size i.carried e in
    let q : i.size ≡ i.count = g.place.size ∙ size_plain (t.class f) i.count in
    let st : i.start ≡ t.width f = g.place.start in (
      reads (t.width f) (t.most f) (t.class f) s i.start i.count
          record {
            start = st;
            whole = rw (← st) g.place.whole;
            digits = rw (← st) (digits_of_lem (t.width f) (take i.start s) g.place.digits);
            is_n = g.place.is_n ∙ ap (λ (y : ℕ). length_of (t.width f) (t.most f) (take y s)) st;
            short = g.place.short;
            room = rw (← st, ← q) g.place.room;
            text = rw (← st, ← q) (content_read (t.class f) i.count (take i.size (drop i.start s)) g.content);
          },
      q,
    )

numeric_fault : (c : Class) → is_numeric c ≡ true → content_fault Plain c ≡ not_digits
unfolding content_fault
numeric_fault c y = rw y

other_fault : (c : Class) → is_numeric c ≡ false → content_fault Plain c ≡ text_not_ascii
unfolding content_fault
other_fault c z = rw z

other_content : (c : Class) (n : ℕ) (x : List ℕ) → is_numeric c ≡ false → is_content Plain c n x ≡ either (is_binary c) (all is_ascii x)
unfolding is_content
other_content c n x z = rw z

-- what packing refuses, the reader refuses with the same number, unless it is 21
same : {A : Type 0} {c d : Cause} {o : Result A Cause} → o ≡ Err c → o ≡ Err d → c ≡ d
same p q = same_err (sym p ∙ q)

module _ (t : Table) (f : ℕ) (s : List ℕ) (x : Cause) (e : judge_item Plain t f s ≡ Err x) (other : x ≡ not_digits → ⊥) where
  abbrev w : ℕ
  w = t.width f

  abbrev m : ℕ
  m = t.most f

  abbrev c : Class
  c = t.class f

  ends : (y : Cause) → judge_item Plain t f s ≡ Err y → read_field t f s ≡ Err y → read_field t f s ≡ Err x
  ends y j r = r ∙ ap Err (same j e)

  sized : w ≤ length s → all is_digit (take w s) ≡ true → (n : ℕ) → n ≡ length_of w m (take w s) → read_field t f s ≡ Err x
  unfolding judge_item place_item place_by place_sized size_of digits_of read_field read_item read_sized
  sized whole dg n is =
      let l : length (take w s) ≡ w = length-take-le w s whole in
      let sp : is_spelt Plain w (take w s) ≡ true = spelt_by w (take w s) l ∙ dg in
      by_lt m n
      (λ h. ends length_over_table (rw (le-ltb (length s) w whole, sp, ← is, lt-ltb m n h)) (rw (le-ltb (length s) w whole, dg, ← is, lt-ltb m n h)))
      (λ short. by_lt (length s - w) n
      (λ h.
      ends past_the_end (rw (le-ltb (length s) w whole, sp, ← is, le-ltb m n short, size_plain c n, lt-ltb (length s - w) n h))
      (rw (le-ltb (length s) w whole, dg, ← is, le-ltb m n short, lt-ltb (length s - w) n h)))
      (λ room. by_bool (is_content Plain c n (take n (drop w s)))
      (λ g.
      let q : judge_item Plain t f s ≡ Ok (item_at w n n (size_of Packed w + content_size Packed c n)) =
      rw (le-ltb (length s) w whole, sp, ← is, le-ltb m n short, size_plain c n, le-ltb (length s - w) n room, g) in
      never x e q)
      (λ g. judged whole sp dg n is short room g)))
    where
      judged : w ≤ length s → is_spelt Plain w (take w s) ≡ true → all is_digit (take w s) ≡ true → (n : ℕ) → n ≡ length_of w m (take w s) → n ≤ m → n ≤ length s - w
          → is_content Plain c n (take n (drop w s)) ≡ false → read_field t f s ≡ Err x
      judged whole sp dg n is short room g =
          let j : judge_item Plain t f s ≡ Err (content_fault Plain c) =
          rw (le-ltb (length s) w whole, sp, ← is, le-ltb m n short, size_plain c n, le-ltb (length s - w) n room, g) in
          by_bool (is_numeric c)
          (λ y. absurd (other (sym (same j e) ∙ numeric_fault c y)))
          (λ z.
          ends text_not_ascii (j ∙ ap Err (other_fault c z))
          (rw (le-ltb (length s) w whole, dg, ← is, le-ltb m n short, le-ltb (length s - w) n room, sym (other_content c n (take n (drop w s)) z) ∙ g)))

  refused_read : read_field t f s ≡ Err x
  unfolding judge_item place_item place_by size_of read_field read_item
  refused_read =
      by_lt (length s) w
      (λ h. ends past_the_end (rw (lt-ltb (length s) w h)) (rw (lt-ltb (length s) w h)))
      (λ whole. by_bool (all is_digit (take w s))
      (λ dg. sized whole dg (length_of w m (take w s)) refl)
      (λ nd.
      let l : length (take w s) ≡ w = length-take-le w s whole in
      let sp : is_spelt Plain w (take w s) ≡ false = spelt_by w (take w s) l ∙ nd in
      ends length_not_digits (rw (le-ltb (length s) w whole, sp)) (rw (le-ltb (length s) w whole, nd))))

-- where it is 21, the class is n, and the reader takes the field or says 8
module _ (t : Table) (f : ℕ) (s : List ℕ) (e : judge_item Plain t f s ≡ Err not_digits) where
  abbrev wd : ℕ
  wd = t.width f

  abbrev mt : ℕ
  mt = t.most f

  abbrev cl : Class
  cl = t.class f

  abbrev Goal : Type 0
  Goal = (is_numeric cl ≡ true) × TakesOrEight (read_field t f s)

  not_so : (y : Cause) → judge_item Plain t f s ≡ Err y → (y ≡ not_digits → ⊥) → Goal
  not_so y j n = absurd (n (same j e))

  with_content : wd ≤ length s → all is_digit (take wd s) ≡ true → (n : ℕ) → n ≡ length_of wd mt (take wd s) → n ≤ mt → n ≤ length s - wd → is_numeric cl ≡ true → Goal
  unfolding read_field read_item read_sized
  with_content whole dg n is short room y =
      by_bool (either (is_binary cl) (all is_ascii (take n (drop wd s))))
      (λ tx.
      let r : read_field t f s ≡ Ok (content_at wd n) = rw (le-ltb (length s) wd whole, dg, ← is, le-ltb mt n short, le-ltb (length s - wd) n room, tx) in
      (y, rw r tt))
      (λ tx.
      let r : read_field t f s ≡ Err text_not_ascii = rw (le-ltb (length s) wd whole, dg, ← is, le-ltb mt n short, le-ltb (length s - wd) n room, tx) in
      (y, rw r refl))

  with_length : wd ≤ length s → all is_digit (take wd s) ≡ true → (n : ℕ) → n ≡ length_of wd mt (take wd s) → Goal
  unfolding judge_item place_item place_by place_sized size_of digits_of
  with_length whole dg n is =
      let sp : is_spelt Plain wd (take wd s) ≡ true = spelt_by wd (take wd s) (length-take-le wd s whole) ∙ dg in
      by_lt mt n
      (λ h. not_so length_over_table (rw (le-ltb (length s) wd whole, sp, ← is, lt-ltb mt n h)) (λ z. omega (arith, ap number_of z)))
      (λ short. by_lt (length s - wd) n
      (λ h. not_so past_the_end (rw (le-ltb (length s) wd whole, sp, ← is, le-ltb mt n short, size_plain cl n, lt-ltb (length s - wd) n h)) (λ z. omega (arith, ap number_of z)))
      (λ room. by_bool (is_content Plain cl n (take n (drop wd s)))
      (λ g.
      let q : judge_item Plain t f s ≡ Ok (item_at wd n n (size_of Packed wd + content_size Packed cl n)) =
      rw (le-ltb (length s) wd whole, sp, ← is, le-ltb mt n short, size_plain cl n, le-ltb (length s - wd) n room, g) in
      never not_digits e q)
      (λ g.
      let j : judge_item Plain t f s ≡ Err (content_fault Plain cl) =
      rw (le-ltb (length s) wd whole, sp, ← is, le-ltb mt n short, size_plain cl n, le-ltb (length s - wd) n room, g) in
      by_bool (is_numeric cl)
      (λ y. with_content whole dg n is short room y)
      (λ z. not_so text_not_ascii (j ∙ ap Err (other_fault cl z)) (λ q. omega (arith, ap number_of q))))))

  instead_read : Goal
  unfolding judge_item place_item place_by size_of
  instead_read =
      by_lt (length s) wd
      (λ h. not_so past_the_end (rw (lt-ltb (length s) wd h)) (λ z. omega (arith, ap number_of z)))
      (λ whole. by_bool (all is_digit (take wd s))
      (λ dg. with_length whole dg (length_of wd mt (take wd s)) refl)
      (λ nd.
      let sp : is_spelt Plain wd (take wd s) ≡ false = spelt_by wd (take wd s) (length-take-le wd s whole) ∙ nd in
      not_so length_not_digits (rw (le-ltb (length s) wd whole, sp)) (λ z. omega (arith, ap number_of z))))

pub refuses_as_reader : (t : Table) (m : ℕ) → RefusesAsReader t m
unfolding link_head head_read size_of is_part
refuses_as_reader t m = record { head = λ s. refl; found = found_read t; refused = refused_read t; instead = instead_read t }

-- A binary field is never refused with 8, in either script.
binary_other : (c : Class) → is_binary c ≡ true → is_numeric c ≡ false
binary_other N y = absurd (false_true y)
binary_other A y = absurd (false_true y)
binary_other An y = absurd (false_true y)
binary_other Ans y = absurd (false_true y)
binary_other Ns y = absurd (false_true y)
binary_other Z y = absurd (false_true y)
binary_other Xn y = absurd (false_true y)
binary_other B y = refl

length_fault_other : (S : Script) → number_of (length_fault S) ≡ 8 → ⊥
length_fault_other Plain e = omega (arith, e)
length_fault_other Packed e = omega (arith, e)

mti_fault_other : (S : Script) → number_of (mti_fault S) ≡ 8 → ⊥
mti_fault_other Plain e = omega (arith, e)
mti_fault_other Packed e = omega (arith, e)

-- an answer with another number
differs : {A : Type 0} {o : Result A Cause} (c : Cause) → (number_of c ≡ 8 → ⊥) → o ≡ Err c → o ≡ Err text_not_ascii → ⊥
differs c n a b = n (ap number_of (same a b))

place_never : (S : Script) (w m : ℕ) (c : Class) (s : List ℕ) → place_by S w m c s ≡ Err text_not_ascii → ⊥
unfolding place_by place_sized
place_never S w m c s e =
    by_lt (length s) (size_of S w)
    (λ h. differs past_the_end (λ z. omega (arith, z)) (rw (lt-ltb (length s) (size_of S w) h)) e)
    (λ whole. by_bool (is_spelt S w (take (size_of S w) s))
    (λ sp. sized whole sp (length_of w m (digits_of S w (take (size_of S w) s))) refl)
    (λ nd. differs (length_fault S) (length_fault_other S) (rw (le-ltb (length s) (size_of S w) whole, nd)) e))
  where
    sized : size_of S w ≤ length s → is_spelt S w (take (size_of S w) s) ≡ true → (n : ℕ) → n ≡ length_of w m (digits_of S w (take (size_of S w) s)) → ⊥
    sized whole sp n is =
        by_lt m n
        (λ h. differs length_over_table (λ z. omega (arith, z)) (rw (le-ltb (length s) (size_of S w) whole, sp, ← is, lt-ltb m n h)) e)
        (λ short. by_lt (length s - size_of S w) (content_size S c n)
        (λ h. differs past_the_end (λ z. omega (arith, z)) (rw (le-ltb (length s) (size_of S w) whole, sp, ← is, le-ltb m n short, lt-ltb (length s - size_of S w) (content_size S c n) h)) e)
        (λ room.
        let q : place_by S w m c s ≡ Ok (item_at (size_of S w) n (content_size S c n) (size_of (other S) w + content_size (other S) c n)) =
        rw (le-ltb (length s) (size_of S w) whole, sp, ← is, le-ltb m n short, le-ltb (length s - size_of S w) (content_size S c n) room) in
        never text_not_ascii e q))

item_never : (S : Script) (t : Table) (f : ℕ) (s : List ℕ) → is_binary (t.class f) ≡ true → judge_item S t f s ≡ Err text_not_ascii → ⊥
unfolding judge_item is_content place_item
item_never S t f s y e =
    by_result (place_item S t f s)
    (λ x h. place_never S (t.width f) (t.most f) (t.class f) s (h ∙ ap Err (same (rw h) e)))
    (λ i h. never text_not_ascii {x = i} e (rw (h, binary_other (t.class f) y, y)))

fields_never : (S : Script) (t : Table) (f : ℕ) → is_binary (t.class f) ≡ true → (at w : ℕ) (fs s : List ℕ) (p : ℕ) → fields_judged S t at w fs s ≡ Err (refusal text_not_ascii f p) → ⊥
unfolding fields_judged
fields_never S t f y at w [] s p e = never (refusal text_not_ascii f p) e refl
fields_never S t f y at w (g ∷ fs) s p e =
    by_result (judge_item S t g s)
    (λ c h.
    let i : refusal c g at ≡ refusal text_not_ascii f p = same_err (sym (fields_refused S t g fs s at w c h) ∙ e) in
    let k : g ≡ f = ap (λ (r : Refusal). r.field) i in
    item_never S t g s (rw k y) (h ∙ ap (λ (r : Refusal). Err r.cause) i))
    (λ i h. fields_never S t f y (at + (i.start + i.size)) (w + i.carried) fs (drop (i.start + i.size) s) p (sym (fields_good S t g fs s i h at w) ∙ e))

-- a head's refusal has another number
refusal_differs : {A : Type 0} {o : Result A Refusal} {f p : ℕ} (r : Refusal) → (number_of r.cause ≡ 8 → ⊥) → o ≡ Err r → o ≡ Err (refusal text_not_ascii f p) → ⊥
refusal_differs r n a b = n (ap (λ (x : Refusal). number_of x.cause) (same_err (sym a ∙ b)))

maps_never : (a m : ℕ) (s : List ℕ) (f p : ℕ) → bitmaps_read a m s ≡ Err (refusal text_not_ascii f p) → ⊥
unfolding bitmaps_read
maps_never a m s f p e =
    by_lt (length s) (a + 8)
    (λ h. refusal_differs (refusal bitmap_incomplete 0 a) (λ z. omega (arith, z)) (rw (lt-ltb (length s) (a + 8) h)) e)
    (λ one. by_bool (bit_of (drop a s) 1)
    (λ b1. by_lt (length s) (a + 16)
    (λ h. refusal_differs (refusal bitmap_incomplete 0 (a + 8)) (λ z. omega (arith, z)) (rw (le-ltb (length s) (a + 8) one, b1, lt-ltb (length s) (a + 16) h)) e)
    (λ two. by_bool (bit_of (drop a s) 65)
    (λ b2. by_bool (leb 3 m)
    (λ l. by_lt (length s) (a + 24)
    (λ h. refusal_differs (refusal bitmap_incomplete 0 (a + 16)) (λ z. omega (arith, z)) (rw (le-ltb (length s) (a + 8) one, b1, le-ltb (length s) (a + 16) two, b2, l, lt-ltb (length s) (a + 24) h)) e)
    (λ three. never (refusal text_not_ascii f p) {x = 3} e (rw (le-ltb (length s) (a + 8) one, b1, le-ltb (length s) (a + 16) two, b2, l, le-ltb (length s) (a + 24) three))))
    (λ l. refusal_differs (refusal bitmap_over_most 0 (a + 8)) (λ z. omega (arith, z)) (rw (le-ltb (length s) (a + 8) one, b1, le-ltb (length s) (a + 16) two, b2, l)) e))
    (λ b2. never (refusal text_not_ascii f p) {x = 2} e (rw (le-ltb (length s) (a + 8) one, b1, le-ltb (length s) (a + 16) two, b2)))))
    (λ b1. never (refusal text_not_ascii f p) {x = 1} e (rw (le-ltb (length s) (a + 8) one, b1))))

head_never : (S : Script) (m : ℕ) (s : List ℕ) (f p : ℕ) → link_head S m s ≡ Err (refusal text_not_ascii f p) → ⊥
unfolding link_head
head_never S m s f p e =
    let a = size_of S 4 in
    let n = lead (is_part S) (take a s) in
    by_lt (length s) (a + 8)
    (λ h. refusal_differs (refusal message_too_short 0 0) (λ z. omega (arith, z)) (rw (lt-ltb (length s) (a + 8) h)) e)
    (λ long. by_lt n a
    (λ h. refusal_differs (refusal (mti_fault S) 0 n) (mti_fault_other S) (rw (le-ltb (length s) (a + 8) long, lt-ltb n a h)) e)
    (λ good. maps_never a m s f p (sym (rw (le-ltb (length s) (a + 8) long, le-ltb n a good)) ∙ e)))

answer_never : (t : Table) (m f : ℕ) → is_binary (t.class f) ≡ true → (S : Script) (s out : List ℕ) (at : ℕ) → link_answer S t m s out ≡ Err (refusal text_not_ascii f at) → ⊥
unfolding link_answer link_judged body_judged
answer_never t m f y S s out at e =
    by_result (link_head S m s)
    (λ r h. head_never S m s f at (h ∙ ap Err (same_err (sym (rw (link_answer, link_judged, h)) ∙ e))))
    (λ k h. by_result (body_judged S t s k)
    (λ r j. fields_never S t f y (size_of S 4 + 8 * k) (size_of (other S) 4 + 8 * k) (fields_of (maps_of (size_of S 4) s k) k) (drop (size_of S 4 + 8 * k) s) at
    (j ∙ ap Err (same_err (sym (rw (link_answer, link_judged, h, j)) ∙ e))))
    (λ d j. by_bool (leb d.written (length out))
    (λ l. never (refusal text_not_ascii f at) {x = d} e (rw (link_answer, link_judged, h, j, l)))
    (λ l. refusal_differs (plain output_too_short) (λ z. omega (arith, z)) (rw (link_answer, link_judged, h, j, l)) e)))

binary_never : (t : Table) (m : ℕ) → BinaryNeverText t m
unfolding BinaryNeverText
binary_never t m f y = record { carrying = answer_never t m f y }

pub house_refuses : HouseRefuses
unfolding house house_rows table_of BinaryNeverText
house_refuses = record { as_reader = refuses_as_reader house 3; never_text = binary_never house 3; chip = binary_never house 3 55 refl }

pub worked_refusals : WorkedRefusals
unfolding link_answer link_judged link_head body_judged fields_judged judge_item place_item place_by place_sized content_size is_content content_fault size_of is_spelt is_part digits_of length_of are_digits decode_fault is_bcd spare_zero digits_from spread number between bitmaps_read maps_of bit_of fields_of fields_from has_field is_field house house_rows table_of
worked_refusals =
    record {
      nothing = refl;
      nine_bytes = refl;
      first_mti_byte = refl;
      last_mti_byte = refl;
      no_second_bitmap = refl;
      no_third_bitmap = refl;
      length_cut = refl;
      length_bad = refl;
      length_spare = refl;
      length_over = refl;
      content_cut = refl;
      content_bad = refl;
      content_spare = refl;
      text_over = refl;
      no_room = refl;
      no_digit = refl;
      byte_over = refl;
    }
