-- The ends of the writers' routines, with the facts as the code has them. Assumes nothing.
use Prim.Native.Nat.{ℕ, zero, suc, ◌+◌, ◌-◌, ◌*◌, ◌≤◌, ◌<◌, min}
use mathlib.Core.Path.{◌≡◌, refl, sym, ap, subst, ◌∙◌}
use mathlib.Core.Bool.{Bool, cond}
use mathlib.Core.List.{List, [], ◌∷◌, ◌++◌, append_assoc}
use native.Mathlib.Omega.{arith}
use lib.Dec.{leb}
use lib.ListN.{length, take, replicate, length-append, length-replicate}
use lib.Seq.{length-take-le}
use borrow.Author.Tests.{eq-eqb, ne_eqb, le-leb, lt-leb}
use borrow.Rule.Slice.PartMut.{mid_of, put_mid}
use Rattle.std.specs.Prelude.{Result, Ok, Err}
use Rattle.octets.specs.Lists.{lay, placed}
use Rattle.octets.proofs.Lists.{placed_short, placed_fits}
use Rattle.octets.proofs.Parts.{lay_part, placed_part}
use Rattle.refusal.specs.Numbers.{end_differs, output_too_short}
use Rattle.refusal.specs.Refusals.{refusal, good}
use Rattle.refusal.specs.declared.Refusal.{Refusal}
use Rattle.field_table.specs.Table.{Table}
use Rattle.field_table.proofs.Rows.{Bounded}
use Rattle.field_write.specs.Fields.{exact_fault}
use Rattle.bitmap.specs.Bits.{bytes_of}
use Rattle.bitmap.specs.Bitmaps.{map_bit, maps_for, set_of}
use Rattle.message_language.specs.Language.{Entry}
use Rattle.message_contents.specs.Contents.{content_of, contents_in, numbers_of, bitmaps_with, message_with, cleaned_in, short_in}
use Rattle.message_contents.proofs.Cleaning.{contents_numbers, cleaned_numbers, exact_whole}
use Rattle.message_notes.specs.Dialect.{plain_form, head_size, Dialect, dialect}
use Rattle.message_notes.specs.Notes.{mti_in, count_in}
use Rattle.message_walk.specs.declared.Rule.{Rule}
use Rattle.message_walk.specs.declared.Rule.TheVariants.{Exact, Clean}
use Rattle.message_walk.specs.declared.Ended.{Ended}
use Rattle.message_walk.specs.Walk.{Fault, walked, entries_in, listed_in}
use Rattle.message_walk.specs.Faults.{asked, within, fault_by}
use Rattle.message_walk.proofs.Heads.{Head, ended_head, good_head}
use Rattle.message_walk.proofs.Naming.{AllGood, entries_good}
use Rattle.message_walk.proofs.Weaker.{walked_listed, weaker_entries}
use Rattle.message_walk.proofs.Within.{is_inside, within_weaker}
use Rattle.message_write.specs.Written.{exactly, cleanly, exact_message, clean_message, answered, laid_out, exact_answer, exact_output, clean_answer, clean_output, padded_on, clean_padded, body_of, message_of, entries_by, answer_by, output_by, padded_by, Asked, Sums, size_in}
use Rattle.message_write.proofs.Writing.{body_size, cleared}

-- sizes
bytes_long : (p : ℕ → Bool) (k f : ℕ) → length (bytes_of p k f) ≡ k
unfolding bytes_of
bytes_long p zero f = refl
bytes_long p (suc k) f = ap suc (bytes_long p k (f + 8))

maps_long : (m : ℕ) (s : List ℕ) → m ≤ 3 → length (maps_for m s) ≡ 24
unfolding maps_for
maps_long m s h =
    length-append (bytes_of (map_bit m s) (8 * m) 1) (replicate (24 - 8 * m) 0)
    ∙ omega (arith, bytes_long (map_bit m s) (8 * m) 1, length-replicate {A = ℕ} (24 - 8 * m) 0)

pub made_long : (made s : List ℕ) (m : ℕ) → made ≡ maps_for m s → m ≤ 3 → length made ≡ 24
made_long made s m e h = ap length e ∙ maps_long m s h

bitmaps_long : (m : ℕ) (fs : List ℕ) → m ≤ 3 → length (bitmaps_with m fs) ≡ 8 * m
unfolding bitmaps_with
bitmaps_long m fs h = length-take-le (8 * m) (maps_for m (set_of fs)) (omega (arith, maps_long m (set_of fs) h))

-- the message in its parts
pub message_parts : (t : Table) (v mti : List ℕ) (m : ℕ) (es : List Entry) → message_of t v mti m es ≡ mti ++ (bitmaps_with m (numbers_of es) ++ body_of t v es)
unfolding message_of message_with body_of
message_parts t v mti m es = rw (cleaned_numbers t (contents_in v es), contents_numbers v es)

pub message_long : (t : Table) (v mti : List ℕ) (m : ℕ) (es : List Entry) → length mti ≡ 4 → m ≤ 3 → length (message_of t v mti m es) ≡ 4 + 8 * m + length (body_of t v es)
message_long t v mti m es four h =
    ap length (message_parts t v mti m es)
    ∙ omega (arith, length-append mti (bitmaps_with m (numbers_of es) ++ body_of t v es), length-append (bitmaps_with m (numbers_of es)) (body_of t v es), bitmaps_long m (numbers_of es) h)

-- `write_ended`
module _ (x : Ended) (bytes d : List ℕ) (k : ℕ) (sized : length bytes ≡ k) where
  pub ended_differs : (r : Refusal) → (x.said ≡ k → ⊥) → r ≡ refusal end_differs 0 x.at → Err r ≡ answered (Ok x) bytes d
  unfolding answered
  ended_differs r h e = rw (sized, ne_eqb x.said k h, e)

  pub differs_left : (x.said ≡ k → ⊥) → d ≡ laid_out (Ok x) bytes d
  unfolding laid_out
  differs_left h = rw (sized, ne_eqb x.said k h)

  module _ (same : x.said ≡ k) where
    pub ended_short : (r : Refusal) → length d < k → r ≡ refusal output_too_short 0 x.at → Err r ≡ answered (Ok x) bytes d
    unfolding answered
    ended_short r h e = rw (sized, eq-eqb x.said k same, lt-leb k (length d) h, e)

    pub short_left : length d < k → d ≡ laid_out (Ok x) bytes d
    unfolding laid_out
    short_left h = rw (sized, eq-eqb x.said k same) (placed_short bytes d k sized h)

    pub ended_written : k ≤ length d → Ok k ≡ answered (Ok x) bytes d
    unfolding answered
    ended_written h = rw (sized, eq-eqb x.said k same, le-leb k (length d) h)

    pub written_laid : (o : List ℕ) → k ≤ length d → o ≡ lay bytes d → o ≡ laid_out (Ok x) bytes d
    unfolding laid_out
    written_laid o h e = rw (sized, eq-eqb x.said k same) (e ∙ sym (placed_fits bytes d k sized h))

-- `write_ended` and `write_message`, where their message may be written
module _ {t : Table} {v n s : List ℕ} (asked : Asked t v n s) where
  abbrev m : ℕ
  m = count_in n

  abbrev es : List Entry
  es = listed_in plain_form n

  pub asked_head : Head 3 n
  asked_head = good_head 3 n asked.head

  pub asked_long : length (message_of t v (mti_in n) m es) ≡ 4 + 8 * m + length (body_of t v es)
  asked_long = message_long t v (mti_in n) m es asked_head.four asked_head.three

  pub asked_size : Bounded t → {k size : ℕ} → k ≡ m → size ≡ size_in t es → length (message_of t v (mti_in n) m es) ≡ 4 + 8 * k + size
  asked_size small {k} {size} counted e = omega (arith, asked_long, counted, e, body_size t v m es small (cleared t v n es asked.clean))

  -- the count is k, and the output d bytes long
  pub asked_few : {k : ℕ} → k ≡ m → k ≤ 3
  asked_few {k} counted = omega (arith, asked_head.three)

  pub asked_room : {k d : ℕ} → k ≡ m → length (message_of t v (mti_in n) m es) ≤ d → (k ≤ 3) × (4 + 8 * k + length (body_of t v es) ≤ d)
  asked_room {k} {d} counted room = (omega (arith, asked_head.three), omega (arith, asked_long))

  -- the count is k, mti is the MTI's part of the notes, and maps are the bitmaps made for the set s
  module _ (k : ℕ) (counted : k ≡ m) (mti : List ℕ) (part : mti ≡ cond (leb head_size (length n)) (mti_in n) []) (maps : List ℕ) (made : maps ≡ maps_for (min k 3) s) where
    mti_is : mti ≡ mti_in n
    mti_is = part ∙ rw (le-leb head_size (length n) asked_head.whole)

    maps_are : take (8 * k - 0) maps ≡ bitmaps_with m (numbers_of es)
    unfolding bitmaps_with
    maps_are =
        let least : min k 3 ≡ m = omega (arith, asked_head.three) in
        let all : 8 * k - 0 ≡ 8 * m = omega arith in
        rw (made, asked.named, least, all)

    -- d is the output before; it is e once the MTI is written, and f and g are its rests once the bitmaps and the fields are written there
    pub message_written :
        (d e f g : List ℕ) →
        length (message_of t v (mti_in n) m es) ≤ length d →
        e ≡ placed mti d →
        f ≡ placed (take (8 * k - 0) maps) (mid_of 4 (length e - 4) e) →
        g ≡ lay (body_of t v es) (mid_of (4 + 8 * k) (length (put_mid 4 (length e - 4) e f) - (4 + 8 * k)) (put_mid 4 (length e - 4) e f)) →
        put_mid (4 + 8 * k) (length (put_mid 4 (length e - 4) e f) - (4 + 8 * k)) (put_mid 4 (length e - 4) e f) g ≡ lay (message_of t v (mti_in n) m es) d
    message_written d e f g room he hf hg =
        let four = asked_head.four in
        let b = bitmaps_with m (numbers_of es) in
        let long = bitmaps_long m (numbers_of es) asked_head.three in
        let head : e ≡ lay (mti_in n) d = he ∙ ap (λ (x : List ℕ). placed x d) mti_is ∙ placed_fits (mti_in n) d 4 four (omega (arith, asked_long, room)) in
        let front : put_mid 4 (length e - 4) e f ≡ lay (mti_in n ++ b) d =
        placed_part (mti_in n) b d e f 4 head four (omega (arith, long, asked_long, room)) (hf ∙ ap (λ (x : List ℕ). placed x (mid_of 4 (length e - 4) e)) maps_are) in
        lay_part (mti_in n ++ b) (body_of t v es) d _ g (4 + 8 * k) front (omega (arith, length-append (mti_in n) b, four, long, counted)) hg
        ∙ ap (λ (x : List ℕ). lay x d) (append_assoc (mti_in n) b (body_of t v es) ∙ sym (message_parts t v (mti_in n) m es))

-- `write_by`
module _ (t : Table) (r : Rule) (v n d : List ℕ) where
  -- a walk that is refused
  module _ {x : Refusal} (e : Err x ≡ walked (dialect t) (fault_by t v r) n) where
    pub by_refused : Err x ≡ answer_by t v r n d
    unfolding answer_by answered
    by_refused = rw (answer_by, ← e)

    pub refused_left : d ≡ output_by t v r n d
    unfolding output_by laid_out
    refused_left = rw (output_by, ← e)

  -- one that comes to the end note
  module _ {x : Ended} (e : Ok x ≡ walked (dialect t) (fault_by t v r) n) where
    listed : listed_in plain_form n ≡ entries_by t v r n
    unfolding entries_by
    listed = walked_listed (dialect t) (fault_by t v r) n x (sym e)

    pub by_asked : ((f : ℕ) (c : List ℕ) → asked t r f c ≡ good → asked t Clean f c ≡ good) → (s : List ℕ) → s ≡ set_of (numbers_of (entries_by t v r n)) → Asked t v n s
    unfolding entries_by fault_by
    by_asked weaker s i =
        record {
          head = ended_head (dialect t) (fault_by t v r) n x (sym e);
          clean = listed ∙ sym (weaker_entries (dialect t) (fault_by t v r) n x (sym e) (fault_by t v Clean) (within_weaker v (asked t r) (asked t Clean) weaker));
          named = i ∙ ap (λ (l : List Entry). set_of (numbers_of l)) (sym listed);
        }

    pub by_sums : {s q : List ℕ} {size : ℕ} → Sums t (entries_by t v r n) s q size → Sums t (listed_in plain_form n) s q size
    by_sums {s} {q} {size} sums = subst (λ (l : List Entry). Sums t l s q size) (sym listed) sums

    pub by_answered : {o : Result ℕ Refusal} → o ≡ answered (Ok x) (message_of t v (mti_in n) (count_in n) (listed_in plain_form n)) d → o ≡ answer_by t v r n d
    unfolding answer_by
    by_answered a = a ∙ rw (answer_by, ← e, listed)

    pub by_laid : {o : List ℕ} → o ≡ laid_out (Ok x) (message_of t v (mti_in n) (count_in n) (listed_in plain_form n)) d → o ≡ output_by t v r n d
    unfolding output_by
    by_laid a = a ∙ rw (output_by, ← e, listed)

  pub by_padded : {o : Result ℕ Refusal} {s : List ℕ} → o ≡ answer_by t v r n d → s ≡ set_of (short_in t (entries_by t v r n)) → padded_on o s ≡ padded_by t v r n d
  unfolding padded_by
  by_padded a i = rw (a, i)

-- `write_clean`: the numbers that it lends stand for another table
module _ (t u : Table) (v n d : List ℕ) (same : t ≡ u) where
  by_clean : fault_by u v Clean ≡ cleanly (dialect u) v
  unfolding fault_by asked cleanly
  by_clean = refl

  pub clean_answer_lem : (o : Result ℕ Refusal) → o ≡ answer_by t v Clean n d → o ≡ clean_answer (dialect u) v n d
  unfolding answer_by entries_by clean_answer clean_message
  clean_answer_lem o e =
      e ∙ ap (λ (x : Table). answer_by x v Clean n d) same
      ∙ ap (λ (p : Fault). answered (walked (dialect u) p n) (message_of u v (mti_in n) (count_in n) (entries_in (dialect u) p n)) d) by_clean

  pub clean_output_lem : (o : List ℕ) → o ≡ output_by t v Clean n d → o ≡ clean_output (dialect u) v n d
  unfolding output_by entries_by clean_output clean_message
  clean_output_lem o e =
      e ∙ ap (λ (x : Table). output_by x v Clean n d) same
      ∙ ap (λ (p : Fault). laid_out (walked (dialect u) p n) (message_of u v (mti_in n) (count_in n) (entries_in (dialect u) p n)) d) by_clean

  pub clean_padded_lem : (o : List ℕ) → o ≡ padded_by t v Clean n d → o ≡ clean_padded (dialect u) v n d
  unfolding padded_by answer_by entries_by clean_padded clean_answer clean_message
  clean_padded_lem o e =
      e ∙ ap (λ (x : Table). padded_by x v Clean n d) same
      ∙ ap (λ (p : Fault). padded_on (answered (walked (dialect u) p n) (message_of u v (mti_in n) (count_in n) (entries_in (dialect u) p n)) d) (set_of (short_in u (entries_in (dialect u) p n)))) by_clean

-- `write_exact`: what it takes is short nowhere, so nothing is padded
exact_contents : (t : Table) (v : List ℕ) (m : ℕ) (es : List Entry) → AllGood (within v (exact_fault t)) m es → cleaned_in t (contents_in v es) ≡ contents_in v es
unfolding AllGood cleaned_in contents_in
exact_contents t v m [] a = refl
exact_contents t v m (x ∷ es) a =
    let i = is_inside v (exact_fault t) x a.0.1.ruled in
    rw (exact_whole t x.number (content_of v x.offset x.size) i.fault, exact_contents t v m es a.1)

pub exact_message_lem : (d : Dialect) (v n : List ℕ) → message_of d.table v (mti_in n) (count_in n) (entries_in d (exactly d v) n) ≡ exact_message d v n
unfolding message_of exact_message exactly
exact_message_lem d v n =
    ap (message_with d.table (mti_in n) (count_in n)) (exact_contents d.table v (count_in n) (entries_in d (exactly d v) n) (entries_good d (exactly d v) n))

module _ (t u : Table) (v n d : List ℕ) (same : t ≡ u) where
  by_exact : fault_by u v Exact ≡ exactly (dialect u) v
  unfolding fault_by asked exactly
  by_exact = refl

  pub exact_answer_lem : (o : Result ℕ Refusal) → o ≡ answer_by t v Exact n d → o ≡ exact_answer (dialect u) v n d
  unfolding answer_by entries_by exact_answer
  exact_answer_lem o e =
      e ∙ ap (λ (x : Table). answer_by x v Exact n d) same
      ∙ ap (λ (p : Fault). answered (walked (dialect u) p n) (message_of u v (mti_in n) (count_in n) (entries_in (dialect u) p n)) d) by_exact
      ∙ ap (λ (x : List ℕ). answered (walked (dialect u) (exactly (dialect u) v) n) x d) (exact_message_lem (dialect u) v n)

  pub exact_output_lem : (o : List ℕ) → o ≡ output_by t v Exact n d → o ≡ exact_output (dialect u) v n d
  unfolding output_by entries_by exact_output
  exact_output_lem o e =
      e ∙ ap (λ (x : Table). output_by x v Exact n d) same
      ∙ ap (λ (p : Fault). laid_out (walked (dialect u) p n) (message_of u v (mti_in n) (count_in n) (entries_in (dialect u) p n)) d) by_exact
      ∙ ap (λ (x : List ℕ). laid_out (walked (dialect u) (exactly (dialect u) v) n) x d) (exact_message_lem (dialect u) v n)
