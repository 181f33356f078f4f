-- Bytes behind notes that were written: no walk looks at them, whatever it asks of the fields. Assumes nothing.
use Prim.Native.Nat.{ℕ, zero, suc, ◌+◌, ◌^◌, ◌≤◌, ◌<◌}
use mathlib.Core.Path.{◌≡◌, refl, sym, ap, ◌∙◌}
use mathlib.Core.Bool.{Bool, true}
use mathlib.Core.List.{List, [], ◌∷◌, ◌++◌, append_assoc}
use native.Mathlib.Omega.{arith}
use native.Mathlib.Nat.{le-mul_of_pos_right, mul_comm}
use lib.ListN.{length, drop, length-append}
use lib.Seq.{drop_at}
use Rattle.std.specs.Prelude.{Ok}
use Rattle.octets.specs.Lists.{all}
use Rattle.octets.specs.Numbers.{is_digit}
use Rattle.message_language.specs.Language.{Entry, Reading}
use Rattle.message_notes.specs.Dialect.{Form, note_size, head_size, end_kind, Dialect}
use Rattle.message_notes.specs.Notes.{field_note, end_note, field_notes, notes_of}
use Rattle.message_notes.proofs.Sizes.{field_long, notes_long}
use Rattle.message_notes.proofs.Spelling.{Fits, AllFit, mark_back}
use Rattle.message_notes.proofs.Reading.{field_back, end_back}
use Rattle.message_walk.specs.declared.Judged.TheVariants.{Passed, End}
use Rattle.message_walk.specs.Walk.{Fault, judged_field, judged, passed, ending, walked, entries_in}
use Rattle.message_walk.proofs.Steps.{passes, by_field, judged_end, judged_note, ending_bad, ending_end, ending_more, passed_bad, passed_end, passed_more}
use Rattle.message_walk.proofs.Written.{from_head, count_in_lem, head_good}

module _ (F : Form) (apart : F.kind ≡ end_kind → ⊥) (marks : (f : ℕ) → F.mark f < 256 ^ F.extra) (p : Fault) (m u : ℕ) (small : u < 4294967296) (y z : List ℕ) where
  -- walks over the notes of the entries es, y behind the one and z behind the other; k and j bound the notes still to be judged
  record Same (es : List Entry) (k j last at : ℕ) : Type 0 where
    pub end : ending F p m k last at (field_notes F es ++ (end_note u ++ y)) ≡ ending F p m j last at (field_notes F es ++ (end_note u ++ z))
    pub entries : passed F p m k last (field_notes F es ++ (end_note u ++ y)) ≡ passed F p m j last (field_notes F es ++ (end_note u ++ z))

  same_end : (k j last at : ℕ) → Same [] (suc k) (suc j) last at
  unfolding field_notes
  same_end k j last at =
      let a : judged F p m last (end_note u ++ y) ≡ Ok (End u) = judged_end F p m last (end_note u ++ y) u (end_back F u y apart small) in
      let b : judged F p m last (end_note u ++ z) ≡ Ok (End u) = judged_end F p m last (end_note u ++ z) u (end_back F u z apart small) in
      record {
        end = ending_end F p m k last at (end_note u ++ y) u a ∙ sym (ending_end F p m j last at (end_note u ++ z) u b);
        entries = passed_end F p m k last (end_note u ++ y) u a ∙ sym (passed_end F p m j last (end_note u ++ z) u b);
      }

  judged_first : (last : ℕ) (e : Entry) (x : List ℕ) → Fits e → judged F p m last (field_note F e ++ x) ≡ judged_field true p m last e.number e.offset e.size
  judged_first last e x f =
      judged_note F p m last (field_note F e ++ x) e.number e.offset e.size (field_back F e x f)
      ∙ ap (λ (b : Bool). judged_field b p m last e.number e.offset e.size) (mark_back F e x (marks e.number))

  same_more : (e : Entry) (es : List Entry) (k j last at : ℕ) → Fits e → Same es k j e.number (at + note_size F) → Same (e ∷ es) (suc k) (suc j) last at
  unfolding field_notes
  same_more e es k j last at f w =
      let v = field_notes F es ++ (end_note u ++ y) in
      let x = field_notes F es ++ (end_note u ++ z) in
      let a : (field_note F e ++ field_notes F es) ++ (end_note u ++ y) ≡ field_note F e ++ v = append_assoc (field_note F e) (field_notes F es) (end_note u ++ y) in
      let b : (field_note F e ++ field_notes F es) ++ (end_note u ++ z) ≡ field_note F e ++ x = append_assoc (field_note F e) (field_notes F es) (end_note u ++ z) in
      let c = judged_first last e v f in
      let d = judged_first last e x f in
      by_field true p m last e.number e.offset e.size
      (λ w' q. record {
        end = rw (a, b) (ending_bad F p m k last at (field_note F e ++ v) w' (c ∙ q) ∙ sym (ending_bad F p m j last at (field_note F e ++ x) w' (d ∙ q)));
        entries = rw (a, b) (passed_bad F p m k last (field_note F e ++ v) w' (c ∙ q) ∙ sym (passed_bad F p m j last (field_note F e ++ x) w' (d ∙ q)));
      })
      (λ o g.
      let q : judged_field true p m last e.number e.offset e.size ≡ Ok (Passed e.number e.offset e.size) = passes true p m last e.number e.offset e.size refl g in
      let r : drop (note_size F) (field_note F e ++ v) ≡ v = drop_at (field_note F e) v (note_size F) (field_long F e) in
      let s : drop (note_size F) (field_note F e ++ x) ≡ x = drop_at (field_note F e) x (note_size F) (field_long F e) in
      record {
        end =
            rw (a, b)
            (ending_more F p m k last at (field_note F e ++ v) e.number e.offset e.size (c ∙ q)
            ∙ ap (ending F p m k e.number (at + note_size F)) r
            ∙ w.end
            ∙ sym (ending_more F p m j last at (field_note F e ++ x) e.number e.offset e.size (d ∙ q) ∙ ap (ending F p m j e.number (at + note_size F)) s));
        entries =
            rw (a, b)
            (passed_more F p m k last (field_note F e ++ v) e.number e.offset e.size (c ∙ q)
            ∙ ap (λ (l : List ℕ). e ∷ passed F p m k e.number l) r
            ∙ ap (λ (l : List Entry). e ∷ l) w.entries
            ∙ sym (passed_more F p m j last (field_note F e ++ x) e.number e.offset e.size (d ∙ q) ∙ ap (λ (l : List ℕ). e ∷ passed F p m j e.number l) s));
      })

  same : (es : List Entry) → AllFit es → (k j last at : ℕ) → length es < k → length es < j → Same es k j last at
  unfolding AllFit
  same es a zero j last at h i = absurd (omega arith)
  same es a (suc k) zero last at h i = absurd (omega arith)
  same [] a (suc k) (suc j) last at h i = same_end k j last at
  same (e ∷ es) a (suc k) (suc j) last at h i = same_more e es k j last at a.0 (same es a.1 k j e.number (at + note_size F) (omega arith) (omega arith))

module _ (d : Dialect) (apart : d.form.kind ≡ end_kind → ⊥) (marks : (f : ℕ) → d.form.mark f < 256 ^ d.form.extra) (p : Fault) (r : Reading) (u : ℕ)
    (four : length r.mti ≡ 4) (digit : all is_digit r.mti ≡ true) (least : 1 ≤ r.count) (three : r.count ≤ 3) (few : r.count ≤ d.most)
    (small : u < 4294967296) (fit : AllFit r.entries) where
  abbrev F : Form
  F = d.form

  abbrev notes : List ℕ → List ℕ
  notes z = notes_of F r u ++ z

  abbrev behind : List ℕ → List ℕ
  behind z = field_notes F r.entries ++ (end_note u ++ z)

  walked_from : (z : List ℕ) → walked d p (notes z) ≡ ending F p r.count (length (notes z)) 0 head_size (behind z)
  unfolding walked
  walked_from z =
      rw (walked, (head_good F r u z four digit least three d.most few), count_in_lem F r u z four digit least three, from_head F r u z four digit least three)

  entries_from : (z : List ℕ) → entries_in d p (notes z) ≡ passed F p r.count (length (notes z)) 0 (behind z)
  unfolding entries_in
  entries_from z = rw (count_in_lem F r u z four digit least three, from_head F r u z four digit least three)

  enough : (z : List ℕ) → length r.entries < length (notes z)
  enough z =
      omega (arith, length-append (notes_of F r u) z, notes_long F r u four, le-mul_of_pos_right {m = note_size F} (length r.entries) (omega arith), mul_comm (length r.entries) (note_size F))

  module _ (y z : List ℕ) where
    alike : Same F apart marks p r.count u small y z r.entries (length (notes y)) (length (notes z)) 0 head_size
    alike = same F apart marks p r.count u small y z r.entries fit (length (notes y)) (length (notes z)) 0 head_size (enough y) (enough z)

    pub behind_walked : walked d p (notes_of F r u ++ y) ≡ walked d p (notes_of F r u ++ z)
    behind_walked = walked_from y ∙ alike.end ∙ sym (walked_from z)

    pub behind_entries : entries_in d p (notes_of F r u ++ y) ≡ entries_in d p (notes_of F r u ++ z)
    behind_entries = entries_from y ∙ alike.entries ∙ sym (entries_from z)
