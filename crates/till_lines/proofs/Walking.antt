-- Walking the notes of a message and writing a line for each field, on plain values: d is the text where the walk begins. Assumes nothing.
use Prim.Native.Nat.{ℕ, ◌+◌, ◌-◌, ◌≤◌, ◌<◌}
use mathlib.Core.Path.{◌≡◌, refl, sym, ap, ◌∙◌}
use mathlib.Core.List.{List, [], ◌∷◌, ◌++◌, append_assoc, append-nil}
use native.Mathlib.Omega.{arith}
use lib.ListN.{length, take, drop, length-append, length-drop}
use lib.Seq.{drop_at, drop-drop}
use borrow.Rule.Slice.PartMut.{mid_of, put_mid}
use Rattle.octets.specs.Lists.{lay}
use Rattle.octets.specs.Texts.{text}
use Rattle.octets.proofs.Lists.{placed_fits}
use Rattle.octets.proofs.Parts.{to_end, Written, written_room, written_more, written_end}
use Rattle.message_language.specs.Language.{Entry, entry}
use Rattle.message_notes.specs.declared.Note.{Note}
use Rattle.message_notes.specs.declared.Note.TheVariants.{Field, End}
use Rattle.message_notes.specs.Dialect.{plain_form, note_size, end_size}
use Rattle.message_notes.specs.Notes.{field_note, field_notes, end_note, note_at}
use Rattle.message_notes.proofs.Sizes.{field_long, end_long}
use Rattle.message_notes.proofs.Spelling.{AllFit}
use Rattle.message_notes.proofs.Sound.{plain_apart}
use Rattle.message_notes.proofs.Reading.{field_back, end_back}
use Rattle.till_lines.specs.Lines.{newline, named, field_line, field_lines}
use Rattle.till_lines.proofs.Writing.{part_size}

abbrev used_line : ℕ → List ℕ
used_line u = named (text "used") u newline

-- a note is read from the part of the notes that starts at its place
pub note_part : (notes : List ℕ) (at : ℕ) (r q : Note) → r ≡ note_at plain_form (take (length notes - at) (drop at notes)) → r ≡ q → note_at plain_form (drop at notes) ≡ q
note_part notes at r q e h = ap (note_at plain_form) (sym (to_end at notes)) ∙ sym e ∙ h

-- the notes that are left begin with a field's, or with the end's
pub record First (f p n : ℕ) (left : List Entry) : Type 0 where
  pub others : List Entry
  pub is : left ≡ entry f p n ∷ others

module _ (u : ℕ) (small : u < 4294967296) (after : List ℕ) where
  abbrev coming : List Entry → List ℕ
  coming es = field_notes plain_form es ++ (end_note u ++ after)

  none_noted : note_at plain_form (coming []) ≡ End u
  unfolding field_notes
  none_noted = end_back plain_form u after plain_apart small

  first_noted : (e : Entry) (es : List Entry) → AllFit (e ∷ es) → note_at plain_form (coming (e ∷ es)) ≡ Field e.number e.offset e.size
  unfolding field_notes AllFit
  first_noted e es a = rw (append_assoc (field_note plain_form e) (field_notes plain_form es) (end_note u ++ after)) (field_back plain_form e (coming es) a.0)

  field_first : (left : List Entry) → AllFit left → (f p n : ℕ) → note_at plain_form (coming left) ≡ Field f p n → First f p n left
  field_first [] a f p n h =
      let e = none_noted in
      let z : ◌≡◌ {A = ℕ} 0 1 = cc in
      absurd (omega arith)
  field_first (e ∷ es) a f p n h =
      let k = first_noted e es a in
      let i : e.number ≡ f = cc in
      let j : e.offset ≡ p = cc in
      let l : e.size ≡ n = cc in
      let q : e ≡ entry f p n = λ x. record { number = i x; offset = j x; size = l x } in
      record { others = es; is = ap (λ (x : Entry). x ∷ es) q }

  end_last : (left : List Entry) → AllFit left → (v : ℕ) → note_at plain_form (coming left) ≡ End v → left ≡ []
  end_last [] a v h = refl
  end_last (e ∷ es) a v h =
      let k = first_noted e es a in
      let z : ◌≡◌ {A = ℕ} 0 1 = cc in
      absurd (omega arith)

  end_noted : (left : List Entry) → AllFit left → ((f p n : ℕ) → note_at plain_form (coming left) ≡ Field f p n → ⊥) → note_at plain_form (coming left) ≡ End u
  end_noted [] a none = none_noted
  end_noted (e ∷ es) a none = absurd (none e.number e.offset e.size (first_noted e es a))

-- The notes from `at` on are those of the fields that are left and the end; what is written and their lines make the whole.
pub record Walked (whole d notes : List ℕ) (u : ℕ) (o : List ℕ) (at w : ℕ) : Type 0 where
  pub small : u < 4294967296
  pub room : length whole ≤ length d
  pub left : List Entry
  pub after : List ℕ
  pub fit : AllFit left
  pub rest : drop at notes ≡ field_notes plain_form left ++ (end_note u ++ after)
  pub written : Written whole d o (field_lines left ++ used_line u) w

module _ {whole d notes : List ℕ} {u : ℕ} {o : List ℕ} {at w : ℕ} (c : Walked whole d notes u o at w) where
  pub walked_inside : at + end_size ≤ length notes
  walked_inside =
      let l = length-append (field_notes plain_form c.left) (end_note u ++ c.after) in
      let k = length-append (end_note u) c.after in
      omega (arith, ap length c.rest, length-drop at notes, end_long u)

  line_room : (r rest : List ℕ) → field_lines c.left ++ used_line u ≡ r ++ rest → length r ≤ length (mid_of w (length o - w) o)
  line_room r rest h =
      omega (arith, written_room whole d o _ w c.written, ap length h, length-append r rest, c.written.size, c.room, part_size w o)

  line_written : (r rest g : List ℕ) (k : ℕ) → field_lines c.left ++ used_line u ≡ r ++ rest → k ≡ length r → g ≡ lay r (mid_of w (length o - w) o)
      → Written whole d (put_mid w (length o - w) o g) rest (w + k)
  line_written r rest g k h hk hg =
      let l = line_room r rest h in
      written_more whole d o _ r rest g w k c.written h (sym hk) (omega (arith, part_size w o, c.written.within))
      (hg ∙ sym (placed_fits r (mid_of w (length o - w) o) (length r) refl l))

  module _ {f p n : ℕ} (note : note_at plain_form (drop at notes) ≡ Field f p n) where
    here : First f p n c.left
    here = field_first u c.small c.after c.left c.fit f p n (ap (note_at plain_form) (sym c.rest) ∙ note)

    lines_here : field_lines c.left ++ used_line u ≡ field_line (entry f p n) ++ (field_lines here.others ++ used_line u)
    unfolding field_lines
    lines_here =
        ap (λ (es : List Entry). field_lines es ++ used_line u) here.is
        ∙ append_assoc (field_line (entry f p n)) (field_lines here.others) (used_line u)

    notes_here : drop at notes ≡ field_note plain_form (entry f p n) ++ (field_notes plain_form here.others ++ (end_note u ++ c.after))
    unfolding field_notes
    notes_here =
        c.rest ∙ ap (λ (es : List Entry). field_notes plain_form es ++ (end_note u ++ c.after)) here.is
        ∙ append_assoc (field_note plain_form (entry f p n)) (field_notes plain_form here.others) (end_note u ++ c.after)

    fit_here : AllFit (entry f p n ∷ here.others)
    fit_here = rw here.is at c.fit

    pub field_room : length (field_line (entry f p n)) ≤ length (mid_of w (length o - w) o)
    field_room = line_room (field_line (entry f p n)) (field_lines here.others ++ used_line u) lines_here

    pub field_within : w + length (field_line (entry f p n)) ≤ length whole
    field_within =
        omega (
          arith,
          written_room whole d o _ w c.written,
          ap length lines_here,
          length-append (field_line (entry f p n)) (field_lines here.others ++ used_line u),
        )

    pub field_inside : at + note_size plain_form ≤ length notes
    field_inside =
        omega (
          arith,
          ap length notes_here,
          length-drop at notes,
          length-append (field_note plain_form (entry f p n)) (field_notes plain_form here.others ++ (end_note u ++ c.after)),
          field_long plain_form (entry f p n),
        )

    pub walked_field : {g : List ℕ} {k : ℕ} → k ≡ length (field_line (entry f p n)) → g ≡ lay (field_line (entry f p n)) (mid_of w (length o - w) o)
        → Walked whole d notes u (put_mid w (length o - w) o g) (at + note_size plain_form) (w + k)
    unfolding AllFit
    walked_field {g} {k} hk hg =
        record {
          small = c.small;
          room = c.room;
          left = here.others;
          after = c.after;
          fit = fit_here.1;
          rest =
              sym (drop-drop (note_size plain_form) at notes) ∙ ap (drop (note_size plain_form)) notes_here
              ∙ drop_at (field_note plain_form (entry f p n)) (field_notes plain_form here.others ++ (end_note u ++ c.after)) (note_size plain_form) (field_long plain_form (entry f p n));
          written = line_written (field_line (entry f p n)) (field_lines here.others ++ used_line u) g k lines_here hk hg;
        }

  -- a note that is no field's is the end's
  pub is_end : (r : Note) → r ≡ note_at plain_form (take (length notes - at) (drop at notes)) → ((f p n : ℕ) → r ≡ Field f p n → ⊥) → note_at plain_form (drop at notes) ≡ End u
  is_end r e none =
      ap (note_at plain_form) c.rest
      ∙ end_noted u c.small c.after c.left c.fit (λ f p n h. none f p n (e ∙ ap (note_at plain_form) (to_end at notes ∙ c.rest) ∙ h))

  module _ {v : ℕ} (note : note_at plain_form (drop at notes) ≡ End v) where
    last_line : field_lines c.left ++ used_line u ≡ used_line u ++ []
    unfolding field_lines
    last_line =
        rw (end_last u c.small c.after c.left c.fit v (ap (note_at plain_form) (sym c.rest) ∙ note)) (sym (append-nil (used_line u)))

    pub end_room : length (used_line u) ≤ length (mid_of w (length o - w) o)
    end_room = line_room (used_line u) [] last_line

    pub walked_end : {g : List ℕ} {k : ℕ} → k ≡ length (used_line u) → g ≡ lay (used_line u) (mid_of w (length o - w) o)
        → (w + k ≡ length whole) × (put_mid w (length o - w) o g ≡ lay whole d)
    walked_end {g} {k} hk hg = written_end whole d _ [] (w + k) (line_written (used_line u) [] g k last_line hk hg) refl
