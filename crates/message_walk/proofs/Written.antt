-- Walking notes that were written: the notes of entries that pass, one after the other, are walked to their end. Assumes nothing.
use Prim.Native.Nat.{ℕ, zero, suc, ◌+◌, ◌*◌, ◌^◌, ◌≤◌, ◌<◌}
use mathlib.Core.Path.{◌≡◌, sym, ap, ◌∙◌}
use mathlib.Core.Bool.{true}
use mathlib.Core.List.{List, [], ◌∷◌, ◌++◌, append_assoc}
use native.Mathlib.Omega.{arith}
use native.Mathlib.Nat.{mul-zero, mul-suc, le-mul_of_pos_right, mul_comm}
use lib.ListN.{length, take, drop, get_or, length-append}
use lib.Seq.{take_at, drop_at, drop-drop, get_or-drop}
use borrow.Author.Tests.{eq-eqb, le-leb}
use Rattle.octets.specs.Lists.{all}
use Rattle.octets.specs.Numbers.{is_digit, big_endian, digits}
use Rattle.octets.proofs.Lists.{is_between}
use Rattle.std.specs.Prelude.{Ok}
use Rattle.refusal.specs.Refusals.{good}
use Rattle.message_language.specs.Language.{Entry, entry, Reading}
use Rattle.message_notes.specs.Dialect.{Form, note_size, head_kind, head_size, end_size, end_kind, Dialect}
use Rattle.message_notes.specs.Notes.{head_note, field_note, end_note, field_notes, notes_of, is_head, mti_in, count_in}
use Rattle.message_notes.proofs.Sizes.{head_long, field_long, notes_long}
use Rattle.message_notes.proofs.Spelling.{Fits, AllFit, mark_back}
use Rattle.message_notes.proofs.Reading.{field_back, end_back}
use Rattle.message_walk.specs.declared.Judged.TheVariants.{Passed, End}
use Rattle.message_walk.specs.Walk.{ended, Fault, head_number, judged, passed, ending, walked, entries_in}
use Rattle.message_walk.proofs.Steps.{by_judged, Good, passing, is_passing, judged_end, ending_end, ending_more, passed_bad, passed_end, passed_more}

-- entries that pass one after the other, the first above last
pub data Walkable (p : Fault) (m : ℕ) : ℕ → List Entry → Type 0 where
  none : {last : ℕ} → Walkable p m last []
  more : {last f a n : ℕ} {es : List Entry} → Good p m last f a n → Walkable p m f es → Walkable p m last (entry f a n ∷ es)

-- as those do that a walk passes
pub walkable : (F : Form) (p : Fault) (m k last : ℕ) (s : List ℕ) → Walkable p m last (passed F p m k last s)
unfolding passed
walkable F p m zero last s = none
walkable F p m (suc k) last s =
    by_judged (judged F p m last s)
    (λ x e. rw (passed_bad F p m k last s x e) none)
    (λ u e. rw (passed_end F p m k last s u e) none)
    (λ f a c e. rw (passed_more F p m k last s f a c e) (more (passing F p m last s f a c e).good (walkable F p m k f (drop (note_size F) s))))

pub entries_walkable : (d : Dialect) (p : Fault) (n : List ℕ) → Walkable p (count_in n) 0 (entries_in d p n)
unfolding entries_in
entries_walkable d p n = walkable d.form p (count_in n) (length n) 0 (drop head_size n)

module _ (F : Form) (apart : F.kind ≡ end_kind → ⊥) (marks : (f : ℕ) → F.mark f < 256 ^ F.extra) (p : Fault) (m u : ℕ) (z : List ℕ) (small : u < 4294967296) where
  abbrev tail : List ℕ
  tail = end_note u ++ z

  -- what is walked, and how it ends
  pub record Walks (es : List Entry) (k last at : ℕ) : Type 0 where
    pub all : passed F p m k last (field_notes F es ++ tail) ≡ es
    pub end : ending F p m k last at (field_notes F es ++ tail) ≡ Ok (ended (at + note_size F * length es) u)

  walks_none : (k last at : ℕ) → Walks [] (suc k) last at
  unfolding field_notes
  walks_none k last at =
      let e : judged F p m last tail ≡ Ok (End u) = judged_end F p m last tail u (end_back F u z apart small) in
      record {
        all = passed_end F p m k last tail u e;
        end = ending_end F p m k last at tail u e ∙ ap (λ (n : ℕ). Ok (ended n u)) (omega (arith, mul-zero (note_size F)));
      }

  walks_more : (e : Entry) (es : List Entry) (k last at : ℕ) → Fits e → Good p m last e.number e.offset e.size
      → Walks es k e.number (at + note_size F) → Walks (e ∷ es) (suc k) last at
  unfolding field_notes
  walks_more e es k last at f g w =
      let s = field_note F e ++ (field_notes F es ++ tail) in
      let a : (field_note F e ++ field_notes F es) ++ tail ≡ s = append_assoc (field_note F e) (field_notes F es) tail in
      let j : judged F p m last s ≡ Ok (Passed e.number e.offset e.size) =
      is_passing F p m last s e.number e.offset e.size
      (record { note = field_back F e (field_notes F es ++ tail) f; marked = mark_back F e (field_notes F es ++ tail) (marks e.number); good = g }) in
      let d : drop (note_size F) s ≡ field_notes F es ++ tail = drop_at (field_note F e) (field_notes F es ++ tail) (note_size F) (field_long F e) in
      let n : at + note_size F + note_size F * length es ≡ at + note_size F * suc (length es) = omega (arith, mul-suc (note_size F) (length es)) in
      record {
        all = rw a (passed_more F p m k last s e.number e.offset e.size j ∙ rw d (ap (λ (l : List Entry). e ∷ l) w.all));
        end = rw a (ending_more F p m k last at s e.number e.offset e.size j ∙ rw d (w.end ∙ ap (λ (x : ℕ). Ok (ended x u)) n));
      }

  pub walks : {last : ℕ} {es : List Entry} → Walkable p m last es → AllFit es → (k at : ℕ) → length es < k → Walks es k last at
  unfolding AllFit
  walks none a zero at h = absurd (omega arith)
  walks {last} none a (suc k) at h = walks_none k last at
  walks (more g w) a zero at h = absurd (omega arith)
  walks {last} (more {f = f} {a = o} {n = n} {es = es} g w) a (suc k) at h =
      walks_more (entry f o n) es k last at a.0 g (walks w a.1 k (at + note_size F) (omega arith))

-- The head of written notes is good.
module _ (F : Form) (r : Reading) (u : ℕ) (z : List ℕ) (four : length r.mti ≡ 4) (digit : all is_digit r.mti ≡ true) (least : 1 ≤ r.count) (three : r.count ≤ 3) where
  abbrev notes : List ℕ
  notes = notes_of F r u ++ z

  abbrev behind : List ℕ
  behind = field_notes F r.entries ++ (end_note u ++ z)

  parts : notes ≡ head_note r.mti r.count ++ behind
  unfolding notes_of
  parts = simp append_assoc

  head_six : length (head_note r.mti r.count) ≡ head_size
  head_six = head_long r.mti r.count ∙ omega arith

  pub from_head : drop head_size notes ≡ behind
  from_head = ap (drop head_size) parts ∙ drop_at (head_note r.mti r.count) behind head_size head_six

  inner : drop 1 (head_note r.mti r.count ++ behind) ≡ r.mti ++ (big_endian 1 r.count ++ behind)
  unfolding head_note
  inner = append_assoc r.mti (big_endian 1 r.count) behind

  pub mti_in_lem : mti_in notes ≡ r.mti
  mti_in_lem = ap (λ (l : List ℕ). take 4 (drop 1 l)) parts ∙ ap (take 4) inner ∙ take_at r.mti (big_endian 1 r.count ++ behind) 4 four

  kind_is : get_or notes 0 0 ≡ head_kind
  unfolding head_note
  kind_is = ap (λ (l : List ℕ). get_or l 0 0) parts

  pub count_in_lem : count_in notes ≡ r.count
  unfolding digits
  count_in_lem =
      let d : drop 5 (head_note r.mti r.count ++ behind) ≡ big_endian 1 r.count ++ behind =
      sym (drop-drop 4 1 (head_note r.mti r.count ++ behind)) ∙ ap (drop 4) inner ∙ drop_at r.mti (big_endian 1 r.count ++ behind) 4 four in
      let g : get_or notes 5 0 ≡ get_or (drop 5 notes) 0 0 = sym (get_or-drop 5 notes 0 0) in
      g ∙ ap (λ (l : List ℕ). get_or (drop 5 l) 0 0) parts ∙ ap (λ (l : List ℕ). get_or l 0 0) d ∙ omega arith

  long : length notes ≡ head_size + note_size F * length r.entries + end_size + length z
  long = length-append (notes_of F r u) z ∙ omega (arith, notes_long F r u four)

  pub head_good : (m : ℕ) → r.count ≤ m → head_number m notes ≡ good
  unfolding head_number is_head
  head_good m few =
      rw (le-leb head_size (length notes) (omega (arith, long)), eq-eqb (get_or notes 0 0) head_kind kind_is, is_between 1 3 (get_or notes 5 0) (omega (arith, count_in_lem)) (omega (arith, count_in_lem)), le-leb (get_or notes 5 0) m (omega (arith, count_in_lem)), mti_in_lem, digit)

  module _ (d : Dialect) (formed : d.form ≡ F) (few : r.count ≤ d.most) (apart : F.kind ≡ end_kind → ⊥) (marks : (f : ℕ) → F.mark f < 256 ^ F.extra)
      (p : Fault) (small : u < 4294967296) (fit : AllFit r.entries) (w : Walkable p r.count 0 r.entries) where
    whole : Walks F apart marks p r.count u z small r.entries (length notes) 0 head_size
    whole =
        walks F apart marks p r.count u z small w fit (length notes) head_size
        (omega (arith, long, le-mul_of_pos_right {m = note_size F} (length r.entries) (omega arith), mul_comm (length r.entries) (note_size F)))

    pub written_walked : walked d p notes ≡ Ok (ended (head_size + note_size F * length r.entries) u)
    unfolding walked
    written_walked = rw (walked, head_good d.most few, count_in_lem, from_head, formed) whole.end

    pub written_entries : entries_in d p notes ≡ r.entries
    unfolding entries_in
    written_entries = rw (count_in_lem, from_head, formed) whole.all
