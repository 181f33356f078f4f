-- Reading the fields one after the other: a field at a time, and that it accepts exactly the fields of the language. Assumes nothing.
use Prim.Native.Nat.{ℕ, ◌+◌, ◌≤◌}
use mathlib.Core.Path.{◌≡◌, refl, sym, ap, ◌∙◌}
use mathlib.Core.List.{List, [], ◌∷◌, ◌++◌, append_assoc}
use native.Mathlib.Omega.{arith}
use lib.ListN.{length, take, drop, length-append, length-drop, take-append-drop}
use lib.Seq.{length-take-le, take_at, drop_at, drop-drop, take-append_seam}
use borrow.Author.Tests.{eq-eqb, ne_eqb}
use Rattle.std.specs.Prelude.{Result, Ok, Err}
use Rattle.octets.proofs.Cases.{by_bool, by_eq}
use Rattle.refusal.specs.Refusals.{refusal}
use Rattle.refusal.specs.declared.Cause.{Cause}
use Rattle.field_table.specs.Table.{Table, is_binary}
use Rattle.field_read.specs.Items.{content_at, length_of, read_field, place_field}
use Rattle.field_read.specs.declared.Content.{Content}
use Rattle.field_read.proofs.Found.{Found, found, reads, read_placed}
use Rattle.message_language.specs.Language.{Item, Entry, entry, Fields, none, more}
use Rattle.message_reader.specs.Reader.{read_fields, entry_found, entries_of}
use Rattle.refusal.proofs.Results.{never}

-- one field more
module _ (t : Table) (at f : ℕ) (fs s : List ℕ) where
  pub fields_refused : (n : Cause) → read_field t f s ≡ Err n → read_fields t at (f ∷ fs) s ≡ Err (refusal n f at)
  unfolding read_fields
  fields_refused n e = rw (read_fields, e)

  pub entries_refused : (n : Cause) → read_field t f s ≡ Err n → entries_of t at (f ∷ fs) s ≡ []
  unfolding entries_of
  entries_refused n e = rw (entries_of, e)

  module _ (a n : ℕ) (e : read_field t f s ≡ Ok (content_at a n)) where
    pub fields_read : read_fields t at (f ∷ fs) s ≡ read_fields t (at + (a + n)) fs (drop (a + n) s)
    unfolding read_fields
    fields_read = rw (read_fields, e)

    pub entries_read : entries_of t at (f ∷ fs) s ≡ entry_found f at a n ∷ entries_of t (at + (a + n)) fs (drop (a + n) s)
    unfolding entries_of
    entries_read = rw (entries_of, e)

-- what a field that is read takes
pub read_found : (t : Table) (f : ℕ) (s : List ℕ) (a n : ℕ) → read_field t f s ≡ Ok (content_at a n) → Found (t.width f) (t.most f) (t.class f) s a n
unfolding read_field
read_found t f s a n e = found (t.width f) (t.most f) (t.class f) s a n e

pub read_within : (t : Table) (f : ℕ) (s : List ℕ) (a n : ℕ) → read_field t f s ≡ Ok (content_at a n) → a + n ≤ length s
read_within t f s a n e = let g = read_found t f s a n e in omega (arith, g.start, g.whole, g.room)

-- a field that is read is an item of the language
module _ (t : Table) (f : ℕ) (s : List ℕ) (a n : ℕ) (g : Found (t.width f) (t.most f) (t.class f) s a n) where
  abbrev ds : List ℕ
  ds = take (t.width f) s

  abbrev c : List ℕ
  c = take n (drop (t.width f) s)

  pub ds_long : length ds ≡ t.width f
  ds_long = length-take-le (t.width f) s g.whole

  pub c_long : length c ≡ n
  c_long = length-take-le n (drop (t.width f) s) (omega (arith, length-drop (t.width f) s, g.room))

  pub item_found : Item t f ds c
  unfolding length_of
  item_found =
      record {
        width = ds_long;
        digits = g.digits;
        fixed = λ z. c_long ∙ g.is_n ∙ rw (eq-eqb (t.width f) 0 z);
        spelt = λ z. c_long ∙ g.is_n ∙ rw (ne_eqb (t.width f) 0 z);
        allowed = rw c_long g.short;
        text = λ z. rw z at g.text;
      }

  pub item_parts : s ≡ ds ++ (c ++ drop (a + n) s)
  item_parts =
      sym
      (rw (g.start, ← drop-drop n (t.width f) s, take-append-drop n (drop (t.width f) s)) (take-append-drop (t.width f) s))

-- and an item of the language is read
module _ (t : Table) (f : ℕ) (ds c rest : List ℕ) (i : Item t f ds c) where
  pub read_item_lem : read_field t f (ds ++ (c ++ rest)) ≡ Ok (content_at (length ds) (length c))
  unfolding read_field length_of
  read_item_lem =
      let w = i.width in
      let d : take (t.width f) (ds ++ (c ++ rest)) ≡ ds = take_at ds (c ++ rest) (t.width f) w in
      let r : drop (t.width f) (ds ++ (c ++ rest)) ≡ c ++ rest = drop_at ds (c ++ rest) (t.width f) w in
      let k : take (length c) (c ++ rest) ≡ c = take-append_seam c rest in
      reads (t.width f) (t.most f) (t.class f) (ds ++ (c ++ rest)) (length ds) (length c)
      (record {
        start = w;
        whole = omega (arith, length-append ds (c ++ rest), w);
        digits = rw d i.digits;
        is_n =
            by_eq (t.width f) 0
            (λ z. i.fixed z ∙ rw (eq-eqb (t.width f) 0 z))
            (λ z. i.spelt z ∙ rw (ne_eqb (t.width f) 0 z, d));
        short = i.allowed;
        room = omega (arith, length-append ds (c ++ rest), length-append c rest, w);
        text = rw (r, k) (by_bool (is_binary (t.class f)) (λ z. rw z) (λ z. rw z (i.text z)));
      })

-- Sound: what is read to the end are fields of the language.
pub record Taken (t : Table) (at : ℕ) (fs s : List ℕ) (u : ℕ) : Type 0 where
  pub body : List ℕ
  pub after : List ℕ
  pub joined : s ≡ body ++ after
  pub long : at + length body ≡ u
  pub fields : Fields t at fs body (entries_of t at fs s)

pub by_read : {P : Type 0} (o : Result Content Cause) → ((n : Cause) → o ≡ Err n → P) → ((a n : ℕ) → o ≡ Ok (content_at a n) → P) → P
by_read (Err n) x y = x n refl
by_read (Ok c) x y = y c.start c.length refl

-- where all fields are read to the end, placing the first gives what reading it gives
pub first_placed : (t : Table) (at f : ℕ) (fs s : List ℕ) (u : ℕ) → read_fields t at (f ∷ fs) s ≡ Ok u → place_field t f s ≡ read_field t f s
first_placed t at f fs s u e =
    by_read (read_field t f s)
    (λ n r. never (refusal n f at) (fields_refused t at f fs s n r) e)
    (λ a n r. read_placed t f s a n r ∙ sym r)

taken_none : (t : Table) (at : ℕ) (s : List ℕ) (u : ℕ) → read_fields t at [] s ≡ Ok u → Taken t at [] s u
unfolding read_fields entries_of
taken_none t at s u e =
    let z : at ≡ u = cc in
    record { body = []; after = s; joined = refl; long = omega arith; fields = none }

fields_one : (t : Table) (at f a n : ℕ) (fs ds c rest : List ℕ) (es : List Entry) → length ds ≡ a → length c ≡ n → Item t f ds c
    → Fields t (at + (a + n)) fs rest es → Fields t at (f ∷ fs) (ds ++ (c ++ rest)) (entry f (at + a) n ∷ es)
fields_one t at f a n fs ds c rest es l m i k =
    rw (← l, ← m) (more {at = at} {f = f} {fs = fs} {es = es} ds c rest i refl (rw (l, m) k))

taken_more : (t : Table) (at f : ℕ) (fs s : List ℕ) (u a n : ℕ) → read_field t f s ≡ Ok (content_at a n)
    → Taken t (at + (a + n)) fs (drop (a + n) s) u → Taken t at (f ∷ fs) s u
taken_more t at f fs s u a n e k =
    let g = read_found t f s a n e in
    let l = ds_long t f s a n g in
    let m = c_long t f s a n g in
    let st : length (ds t f s a n g) ≡ a = l ∙ sym g.start in
    let parts : s ≡ ds t f s a n g ++ (c t f s a n g ++ (k.body ++ k.after)) =
    item_parts t f s a n g ∙ rw k.joined in
    let sized : length (ds t f s a n g ++ (c t f s a n g ++ k.body)) ≡ a + (n + length k.body) =
    length-append (ds t f s a n g) (c t f s a n g ++ k.body) ∙ omega (arith, length-append (c t f s a n g) k.body, st, m) in
    record {
      body = ds t f s a n g ++ (c t f s a n g ++ k.body);
      after = k.after;
      joined = parts ∙ sym (append_assoc (ds t f s a n g) (c t f s a n g ++ k.body) k.after ∙ rw (append_assoc (c t f s a n g) k.body k.after));
      long = omega (arith, sized, k.long);
      fields =
          rw (entries_read t at f fs s a n e)
          (fields_one t at f a n fs (ds t f s a n g) (c t f s a n g) k.body (entries_of t (at + (a + n)) fs (drop (a + n) s)) st m (item_found t f s a n g) k.fields);
    }

pub taken : (t : Table) (at : ℕ) (fs s : List ℕ) (u : ℕ) → read_fields t at fs s ≡ Ok u → Taken t at fs s u
taken t at [] s u e = taken_none t at s u e
taken t at (f ∷ fs) s u e =
    by_read (read_field t f s)
    (λ n r. never (refusal n f at) (fields_refused t at f fs s n r) e)
    (λ a n r. taken_more t at f fs s u a n r (taken t (at + (a + n)) fs (drop (a + n) s) u (sym (fields_read t at f fs s a n r) ∙ e)))

-- Complete: fields of the language are read to their end, whatever follows them.
pub record Given (t : Table) (at : ℕ) (fs bs after : List ℕ) (es : List Entry) : Type 0 where
  pub answer : read_fields t at fs (bs ++ after) ≡ Ok (at + length bs)
  pub entries : entries_of t at fs (bs ++ after) ≡ es

given_none : (t : Table) (at : ℕ) (after : List ℕ) → Given t at [] [] after []
unfolding read_fields entries_of
given_none t at after = record { answer = ap Ok (omega arith); entries = refl }

given_more : (t : Table) (at f : ℕ) (fs after ds c rest : List ℕ) (es : List Entry) → Item t f ds c
    → Given t (at + (length ds + length c)) fs rest after es → Given t at (f ∷ fs) (ds ++ (c ++ rest)) after (entry f (at + length ds) (length c) ∷ es)
given_more t at f fs after ds c rest es i k =
    let regroup : (ds ++ (c ++ rest)) ++ after ≡ ds ++ (c ++ (rest ++ after)) = simp append_assoc in
    let e : read_field t f (ds ++ (c ++ (rest ++ after))) ≡ Ok (content_at (length ds) (length c)) = read_item_lem t f ds c (rest ++ after) i in
    let d : drop (length ds + length c) (ds ++ (c ++ (rest ++ after))) ≡ rest ++ after =
    rw (← append_assoc ds c (rest ++ after)) (drop_at (ds ++ c) (rest ++ after) (length ds + length c) (length-append ds c)) in
    let n : length (ds ++ (c ++ rest)) ≡ length ds + (length c + length rest) = omega (arith, length-append ds (c ++ rest), length-append c rest) in
    let a : at + (length ds + length c) + length rest ≡ at + length (ds ++ (c ++ rest)) = omega arith in
    record {
      answer = rw regroup (fields_read t at f fs (ds ++ (c ++ (rest ++ after))) (length ds) (length c) e ∙ rw d (k.answer ∙ ap Ok a));
      entries = rw regroup (entries_read t at f fs (ds ++ (c ++ (rest ++ after))) (length ds) (length c) e ∙ rw d (ap (λ (l : List Entry). entry f (at + length ds) (length c) ∷ l) k.entries));
    }

pub given : (t : Table) {at : ℕ} {fs bs : List ℕ} {es : List Entry} → Fields t at fs bs es → (after : List ℕ) → Given t at fs bs after es
given t {at} none after = given_none t at after
given t {at} (more {f = f} {fs = fs} {es = es} ds c rest i b g) after = rw b (given_more t at f fs after ds c rest es i (given t g after))

-- no more entries than fields
pub entries_most : (t : Table) (at : ℕ) (fs s : List ℕ) → length (entries_of t at fs s) ≤ length fs
unfolding entries_of
entries_most t at [] s = omega arith
entries_most t at (f ∷ fs) s =
    by_read (read_field t f s)
    (λ n e. rw (entries_refused t at f fs s n e) (omega arith))
    (λ a n e. rw (entries_read t at f fs s a n e) (omega (arith, entries_most t (at + (a + n)) fs (drop (a + n) s))))
