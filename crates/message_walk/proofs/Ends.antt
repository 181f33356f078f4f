-- The ends of the walking routines, with the facts as the code has them. Assumes nothing.
use Prim.Native.Nat.{ℕ, ◌+◌, ◌-◌, ◌*◌, ◌/◌, ◌≤◌, ◌<◌}
use mathlib.Core.Path.{◌≡◌, refl, sym, ap, ◌∙◌}
use mathlib.Core.Bool.{Bool, true, false, cond}
use mathlib.Core.List.{List, []}
use native.Mathlib.Omega.{arith}
use native.Mathlib.Nat.{add-sub_cancel_left}
use lib.Dec.{leb, ltb}
use lib.ListN.{length, take, drop}
use borrow.Author.Tests.{le-leb, lt-leb, lt-ltb, le-ltb}
use Rattle.std.specs.Prelude.{Result, Err}
use Rattle.octets.specs.Lists.{all}
use Rattle.octets.specs.Numbers.{number, is_digit}
use Rattle.octets.proofs.Cases.{by_le, both_left}
use Rattle.octets.proofs.Lists.{below_low, above_high, is_between}
use Rattle.refusal.specs.Numbers.{mti_not_digits, note_malformed, outside_values}
use Rattle.refusal.specs.Refusals.{plain, Test, good, bad}
use Rattle.refusal.specs.declared.Cause.{Cause}
use Rattle.refusal.specs.declared.Refusal.{Refusal}
use Rattle.refusal.proofs.Tests.{bad_good}
use Rattle.bitmap.specs.Bitmaps.{is_field}
use Rattle.bitmap.proofs.Maps.{field_low}
use Rattle.message_language.specs.Language.{Entry, entry}
use Rattle.message_contents.specs.Contents.{number_allowed}
use Rattle.message_notes.specs.Dialect.{Form, plain_form, head_size, Dialect}
use Rattle.message_notes.specs.Notes.{is_head, mti_in, count_in, is_marked, note_at}
use Rattle.message_notes.specs.declared.Note.TheVariants.{Field as FieldNote}
use Rattle.message_walk.specs.declared.Judged.{Judged}
use Rattle.message_walk.specs.declared.Flaw.{Flaw}
use Rattle.message_walk.specs.declared.Ended.{Ended}
use Rattle.message_walk.specs.Walk.{Fault, head_number, judged_field, judged, ending, walked}
use Rattle.message_walk.specs.Faults.{within}
use Rattle.message_walk.proofs.Steps.{judged_note}

-- `head_fault`, where three bitmaps are taken
module _ (n : List ℕ) (flag : Bool) (headed : flag ≡ is_head n) where
  pub head_not : flag ≡ false → bad note_malformed ≡ head_number 3 n
  unfolding head_number
  head_not h = rw (← headed, h)

  module _ (y : flag ≡ true) (k : ℕ) (counted : k ≡ count_in n) where
    pub head_none : k < 1 → bad note_malformed ≡ head_number 3 n
    unfolding head_number
    head_none h = rw (← headed, y, ← counted, below_low 1 3 k h)

    module _ (least : 1 ≤ k) where
      pub head_many : 3 < k → bad note_malformed ≡ head_number 3 n
      unfolding head_number
      head_many h = rw (← headed, y, ← counted, above_high 1 3 k least h)

      module _ (few : k ≤ 3) (mti : List ℕ) (part : mti ≡ cond (leb head_size (length n)) (mti_in n) []) (flag2 : Bool) (digits : flag2 ≡ all is_digit mti) where
        long : leb head_size (length n) ≡ true
        unfolding is_head
        long = both_left (leb head_size (length n)) _ (sym headed ∙ y)

        is_mti : flag2 ≡ all is_digit (mti_in n)
        is_mti = digits ∙ ap (all is_digit) part ∙ ap (λ (b : Bool). all is_digit (cond b (mti_in n) [])) long

        pub head_mti : flag2 ≡ false → bad mti_not_digits ≡ head_number 3 n
        unfolding head_number
        head_mti t = rw (← headed, y, ← counted, is_between 1 3 k least few, le-leb k 3 few, ← is_mti, t)

        pub head_good : flag2 ≡ true → good ≡ head_number 3 n
        unfolding head_number
        head_good t = rw (← headed, y, ← counted, is_between 1 3 k least few, le-leb k 3 few, ← is_mti, t)

-- `is_number_allowed`
module _ (m last f : ℕ) where
  pub not_above : f ≤ last → number_allowed m last f ≡ false
  unfolding number_allowed
  not_above h = rw (le-ltb last f h)

  module _ (above : last < f) (flag : Bool) (tested : flag ≡ is_field f) where
    pub no_number : flag ≡ false → number_allowed m last f ≡ false
    unfolding number_allowed
    no_number t = rw (lt-ltb last f above, ← tested, t)

    pub in_bitmaps : flag ≡ true → ltb ((f - 1) / 64) m ≡ number_allowed m last f
    unfolding number_allowed
    in_bitmaps t =
        let l = field_low f (sym tested ∙ t) in
        rw (lt-ltb last f above, ← tested, t)
        (by_le f (64 * m)
        (λ h. lt-ltb ((f - 1) / 64) m (omega arith) ∙ sym (le-leb f (64 * m) h))
        (λ h. le-ltb ((f - 1) / 64) m (omega arith) ∙ sym (lt-leb f (64 * m) h)))

-- `place_fault`
module _ (o n size : ℕ) where
  pub place_outside : {c : Cause} → bad c ≡ cond (leb (o + n) size) good (bad outside_values) → size < o + n
  place_outside {c} h = by_le (o + n) size (λ l. bad_good c (h ∙ rw (le-leb (o + n) size l))) (λ g. g)

  pub place_inside : good ≡ cond (leb (o + n) size) good (bad outside_values) → o + n ≤ size
  place_inside h = by_le (o + n) size (λ l. l) (λ g. bad_good outside_values (sym (h ∙ rw (lt-leb (o + n) size g))))

-- `fault_of`
module _ (q : ℕ → List ℕ → Test) (v : List ℕ) (f o n : ℕ) where
  pub fault_outside : (c : Cause) → bad c ≡ cond (leb (o + n) (length v)) good (bad outside_values) → bad c ≡ within v q (entry f o n)
  unfolding within
  fault_outside c h = h ∙ rw (lt-leb (o + n) (length v) (place_outside o n (length v) h))

  pub fault_inside : (x : Test) → good ≡ cond (leb (o + n) (length v)) good (bad outside_values) → x ≡ q f (take (o + n - o) (drop o v)) → x ≡ within v q (entry f o n)
  unfolding within
  fault_inside x h e = rw (le-leb (o + n) (length v) (place_inside o n (length v) h)) (e ∙ ap (λ (k : ℕ). q f (take k (drop o v))) (add-sub_cancel_left o n))

-- 01's form has no mark
pub plain_marked : (f : ℕ) (s : List ℕ) → is_marked plain_form f s ≡ true
unfolding is_marked number
plain_marked f s = refl

-- `judge`: the fault x that was found is what p finds
pub judged_plain : (p : Fault) (m last : ℕ) (s : List ℕ) (f a n : ℕ) (x : Test) (r : Result Judged Flaw) → note_at plain_form s ≡ FieldNote f a n → x ≡ p (entry f a n)
    → r ≡ judged_field true (λ (e : Entry). x) m last f a n → r ≡ judged plain_form p m last s
unfolding judged_field
judged_plain p m last s f a n x r h i e =
    e
    ∙ ap (λ (y : Test). judged_field true (λ (z : Entry). y) m last f a n) i
    ∙ ap (λ (b : Bool). judged_field b p m last f a n) (sym (plain_marked f s))
    ∙ sym (judged_note plain_form p m last s f a n h)

-- `walk_fields`
pub counted : (F : Form) (p : Fault) (m m' last : ℕ) (s : List ℕ) (o : Result Judged Flaw) → o ≡ judged F p m last s → m ≡ m' → o ≡ judged F p m' last s
counted F p m m' last s o e h = e ∙ ap (λ (x : ℕ). judged F p x last s) h

-- `walk`
module _ (d : Dialect) (p : Fault) (n : List ℕ) where
  pub walk_head : {c : Cause} → bad c ≡ head_number d.most n → Err (plain c) ≡ walked d p n
  unfolding walked
  walk_head h = rw (walked, ← h)

  pub walk_ended : {w : Result Ended Refusal} → good ≡ head_number d.most n → w ≡ ending d.form p (count_in n) (length n) 0 head_size (drop head_size n) → w ≡ walked d p n
  unfolding walked
  walk_ended h e = rw (walked, ← h) e
