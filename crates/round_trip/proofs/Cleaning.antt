-- The cleaning writer beside the exact one: alike where nothing is short, and else it pads the short fixed fields and names exactly those.
-- Assumes nothing.
use Prim.Native.Nat.{ℕ}
use mathlib.Core.Path.{◌≡◌, refl, sym, ap, ◌∙◌}
use mathlib.Core.Bool.{true, false}
use mathlib.Core.List.{List, [], ◌∷◌, ◌++◌, append-nil}
use native.Mathlib.Omega.{arith}
use lib.ListN.{length, replicate}
use Rattle.std.specs.Prelude.{Ok, Err}
use Rattle.octets.specs.Lists.{all}
use Rattle.octets.proofs.Cases.{false_true, by_bool, by_eq, by_le}
use Rattle.refusal.specs.Refusals.{good}
use Rattle.refusal.specs.declared.Refusal.{Refusal}
use Rattle.field_table.specs.Table.{Table}
use Rattle.field_write.specs.Fields.{exact_fault, clean_fault, is_short, missing, pad_byte, pads_left, padded, cleaned}
use Rattle.field_write.proofs.Cleaned.{not_short_whole, cleaned_exact}
use Rattle.bitmap.specs.Bits.{bit_of}
use Rattle.bitmap.specs.Bitmaps.{is_field, is_in, no_fields, set_of, set_from}
use Rattle.bitmap.proofs.Bits.{bit_zero, bit_past}
use Rattle.bitmap.proofs.Maps.{low_no_field, high_no_field}
use Rattle.bitmap.proofs.Sets.{none_is, from_is, bit_set, set_is}
use Rattle.message_language.specs.Language.{Entry}
use Rattle.message_contents.specs.Contents.{Content, content, contents_in, message_with, reading_of, cleaned_in, short_in}
use Rattle.message_contents.proofs.Made.{no_member}
use Rattle.message_notes.specs.Dialect.{Dialect, Sound}
use Rattle.message_notes.specs.Notes.{mti_in, count_in}
use Rattle.refusal.proofs.Results.{by_result}
use Rattle.message_walk.specs.Walk.{walked, entries_in}
use Rattle.message_walk.specs.Faults.{any, within}
use Rattle.message_walk.proofs.Agreeing.{Agree, same_walked, same_entries}
use Rattle.message_walk.proofs.Written.{Walkable, entries_walkable}
use Rattle.message_write.specs.Written.{exactly, cleanly, exact_message, clean_message, message_of, exact_answer, exact_output, clean_answer, clean_output, clean_padded}
use Rattle.message_write.proofs.Answered.{padded_written, padded_refused}
use Rattle.round_trip.specs.RoundTrip.{contents_named, Short, AgreesWithExact, PadsShortAlone}
use Rattle.round_trip.proofs.Rereading.{exact_inside, written, begins, begins_maps, reads_as, exact_named, clean_named, exact_wrote, clean_wrote}
use Rattle.round_trip.proofs.Shorts.{is_short_lem, outside_alike, short_fields, listed_short, short_listed, none_listed, none_alike, exact_long, exact_cleaned}
use Rattle.round_trip.proofs.RoundTrip.{read_answers, read_given_back}

-- a set has the bits of its fields, and no others
set_bit : (fs : List ℕ) (f : ℕ) → all is_field fs ≡ true → bit_of (set_of fs) f ≡ is_in f fs
set_bit fs f a =
    let e = set_is fs a in
    let l : length (set_of fs) ≡ 24 = ap length (sym e) ∙ (from_is fs no_fields none_is).long in
    by_eq f 0
    (λ z. sym (bit_zero (set_of fs) f z) ∙ sym (no_member fs f a (sym (low_no_field f (omega arith)))))
    (λ d. by_le f 192
    (λ b. ap (λ (s : List ℕ). bit_of s f) (sym e) ∙ bit_set fs f a (omega arith) b)
    (λ b. sym (bit_past (set_of fs) f d (omega arith)) ∙ sym (no_member fs f a (sym (high_no_field f (omega arith) b)))))

no_fields_lem : set_of [] ≡ no_fields
unfolding set_from
no_fields_lem = sym (set_is [] refl)

-- What the notes name.
module _ (d : Dialect) (v n : List ℕ) where
  abbrev t : Table
  t = d.table

  abbrev es : List Entry
  es = entries_in d (within v any) n

  passes : Walkable (within v any) (count_in n) 0 es
  passes = entries_walkable d (within v any) n

  is_listed : (f : ℕ) → Short t f (contents_named d v n) → is_in f (short_in t es) ≡ true
  is_listed f x = short_listed t v (count_in n) passes f x.before x.bytes x.after x.is (is_short_lem t f (length x.bytes) x.fixed x.short)

  -- where the cleaning writer writes
  module _ (out : List ℕ) (u : ℕ) (h : clean_answer d v n out ≡ Ok u) where
    pub padded_is : clean_padded d v n out ≡ set_of (short_in d.table (entries_in d (within v any) n))
    unfolding clean_padded
    padded_is =
        padded_written (clean_answer d v n out) (set_of (short_in t (entries_in d (cleanly d v) n))) u h
        ∙ ap (λ (l : List Entry). set_of (short_in t l)) (sym (clean_named d v n out u h))

    padded_bit : (f : ℕ) → bit_of (clean_padded d v n out) f ≡ is_in f (short_in t es)
    padded_bit f = ap (λ (s : List ℕ). bit_of s f) padded_is ∙ set_bit (short_in t es) f (short_fields t v (count_in n) passes)

    pub padded_short : (f : ℕ) → bit_of (clean_padded d v n out) f ≡ true → Short d.table f (contents_named d v n)
    padded_short f y = listed_short t v (count_in n) passes f (sym (padded_bit f) ∙ y)

    pub short_padded : (f : ℕ) → Short d.table f (contents_named d v n) → bit_of (clean_padded d v n out) f ≡ true
    short_padded f x = padded_bit f ∙ is_listed f x

    pub only_padded : (before : List Content) (f : ℕ) (c : List ℕ) (after : List Content) → contents_named d v n ≡ before ++ (content f c ∷ after)
        → bit_of (clean_padded d v n out) f ≡ false → cleaned d.table f c ≡ c
    only_padded before f c after e clear =
        not_short_whole t f c
        (by_bool (is_short t f (length c))
        (λ y. absurd (false_true (sym clear ∙ padded_bit f ∙ short_listed t v (count_in n) passes f before c after e y)))
        (λ y. y))

  pub refused_none : (out : List ℕ) (r : Refusal) → clean_answer d v n out ≡ Err r → clean_padded d v n out ≡ no_fields
  unfolding clean_padded
  refused_none out r h = padded_refused (clean_answer d v n out) (set_of (short_in t (entries_in d (cleanly d v) n))) r h

  -- nothing is short where the exact writer writes
  pub written_not_short : (out : List ℕ) (u : ℕ) → exact_answer d v n out ≡ Ok u → (f : ℕ) → Short d.table f (contents_named d v n) → ⊥
  unfolding exactly
  written_not_short out u h f x =
      let e : short_in t es ≡ [] = rw (exact_named d v n out u h) (exact_long t v (count_in n) (entries_walkable d (exactly d v) n)) in
      false_true (ap (is_in f) (sym e) ∙ is_listed f x)

  -- where nothing is short
  module _ (no_short : (f : ℕ) → Short t f (contents_named d v n) → ⊥) where
    outside : (e : Entry) → (within v any e ≡ good → ⊥) → cleanly d v e ≡ exactly d v e
    unfolding exactly cleanly
    outside e h = outside_alike v (exact_fault t) (clean_fault t) e h

    agree : Agree (exactly d v) (cleanly d v) es
    unfolding exactly cleanly
    agree = none_alike t v (count_in n) passes no_short

    walks : walked d (cleanly d v) n ≡ walked d (exactly d v) n
    walks = same_walked d (exactly d v) (cleanly d v) (within v any) outside (exact_inside d v) n agree

    entries : entries_in d (cleanly d v) n ≡ entries_in d (exactly d v) n
    entries = same_entries d (exactly d v) (cleanly d v) (within v any) outside (exact_inside d v) n agree

    messages : clean_message d v n ≡ exact_message d v n
    unfolding clean_message exact_message message_of exactly
    messages =
        ap (λ (l : List Entry). message_with t (mti_in n) (count_in n) (cleaned_in t (contents_in v l))) entries
        ∙ ap (message_with t (mti_in n) (count_in n)) (exact_cleaned t v (count_in n) (entries_walkable d (exactly d v) n))

    module _ (out : List ℕ) where
      pub answers_alike : clean_answer d v n out ≡ exact_answer d v n out
      unfolding clean_answer exact_answer
      answers_alike = rw (walks, messages)

      pub leaves_alike : clean_output d v n out ≡ exact_output d v n out
      unfolding clean_output exact_output
      leaves_alike = rw (walks, messages)

      pub none_padded : clean_padded d v n out ≡ no_fields
      none_padded =
          by_result (clean_answer d v n out)
          (refused_none out)
          (λ u h. padded_is out u h ∙ ap set_of (none_listed t v (count_in n) passes no_short) ∙ no_fields_lem)

pub agrees_with_exact : (d : Dialect) → AgreesWithExact d
agrees_with_exact d =
    record {
      same_answer = λ v n out no_short. answers_alike d v n no_short out;
      same_output = λ v n out no_short. leaves_alike d v n no_short out;
      none_padded = λ v n out no_short. none_padded d v n no_short out;
      exact_not_short = written_not_short d;
    }

in_one_piece : (t : Table) (f : ℕ) (c : List ℕ)
    → (i : ℕ) × ((j : ℕ) × (cleaned t f c ≡ replicate i (pad_byte (t.class f)) ++ (c ++ replicate j (pad_byte (t.class f)))))
unfolding cleaned padded
in_one_piece t f c =
    let k = missing t f (length c) in
    by_bool (pads_left (t.class f)) (λ y. (k, (0, rw (y, append-nil c)))) (λ s. (0, (k, rw s)))

pub pads_short_alone : (d : Dialect) → Sound d → PadsShortAlone d
pads_short_alone d sound =
    record {
      exact_writes = λ v n out u h. written d (exactly d v) n out (exact_output d v n out) u (contents_named d v n) (exact_wrote d v n out u h);
      clean_writes =
          λ v n out u h.
          written d (cleanly d v) n out (clean_output d v n out) u (cleaned_in d.table (contents_named d v n)) (clean_wrote d v n out u h);
      only_padded_differ = only_padded d;
      nothing_dropped = in_one_piece d.table;
      cleaned_taken = cleaned_exact d.table;
      padded_short = padded_short d;
      short_padded = short_padded d;
      refused_none = refused_none d;
      reads_back =
          λ v n out s b u h same room.
          reads_as d (cleanly d v) n out (clean_output d v n out) u (cleaned_in d.table (contents_named d v n)) (clean_wrote d v n out u h) sound s same b room;
      exact_again =
          λ v n out s b o u h same room enough.
          let cs = cleaned_in d.table (contents_named d v n) in
          let w = clean_wrote d v n out u h in
          let r = reading_of d.table (mti_in n) (count_in n) cs in
          let x = begins d (cleanly d v) n out (clean_output d v n out) u cs w sound s same in
          let maps = begins_maps d (cleanly d v) n out (clean_output d v n out) u cs w sound s same in (
            read_answers d sound s u r x maps o enough b room,
            read_given_back d sound s u r x maps o enough b room,
          );
    }
