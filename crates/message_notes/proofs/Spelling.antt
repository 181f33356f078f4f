-- Notes spell the entries that they were written from. Assumes nothing.
use Prim.Native.Nat.{ℕ, zero, suc, ◌+◌, ◌*◌, ◌^◌, ◌<◌}
use mathlib.Core.Bool.{true}
use borrow.Author.Tests.{eq-eqb}
use native.Mathlib.Nat.{mul-suc}
use mathlib.Core.Path.{◌≡◌, sym, ap, ◌∙◌}
use mathlib.Core.List.{List, [], ◌∷◌, ◌++◌, append_assoc}
use mathlib.Core.Option.{some}
use native.Mathlib.Omega.{arith}
use lib.ListN.{length, take, drop, get_elem?, length-append}
use lib.Seq.{take_at, drop_at, drop-drop, drop-append-le}
use Rattle.octets.specs.Numbers.{big_endian, big_endian_of}
use Rattle.octets.proofs.Numbers.{number_digits}
use Rattle.message_language.specs.Language.{Entry}
use Rattle.message_notes.specs.Dialect.{Form, note_size, head_size}
use Rattle.message_notes.specs.Notes.{head_note, field_note, field_notes, entry_of, entry_at, is_marked}
use Rattle.message_notes.proofs.Sizes.{bytes_long, head_long, field_long}

-- an entry whose numbers fit in its note
pub record Fits (e : Entry) : Type 0 where
  pub number : e.number < 256
  pub offset : e.offset < 4294967296
  pub size : e.size < 65536

unfoldable pub AllFit : List Entry → Type 0
AllFit [] = Unit {0}
AllFit (e ∷ es) = Fits e × AllFit es

-- Its bytes: the kind, then each number.
module _ (F : Form) (e : Entry) where
  abbrev b1 : List ℕ
  b1 = big_endian 1 e.number

  abbrev b4 : List ℕ
  b4 = big_endian 4 e.offset

  abbrev b2 : List ℕ
  b2 = big_endian 2 e.size

  abbrev b : List ℕ
  b = big_endian F.extra (F.mark e.number)

  at_2 : drop 1 (b1 ++ (b4 ++ (b2 ++ b))) ≡ b4 ++ (b2 ++ b)
  at_2 = drop_at b1 (b4 ++ (b2 ++ b)) 1 (bytes_long 1 e.number)

  at_6 : drop 5 (b1 ++ (b4 ++ (b2 ++ b))) ≡ b2 ++ b
  at_6 = sym (drop-drop 4 1 (b1 ++ (b4 ++ (b2 ++ b)))) ∙ ap (drop 4) at_2 ∙ drop_at b4 (b2 ++ b) 4 (bytes_long 4 e.offset)

  at_8 : drop 7 (b1 ++ (b4 ++ (b2 ++ b))) ≡ b
  at_8 = sym (drop-drop 2 5 (b1 ++ (b4 ++ (b2 ++ b)))) ∙ ap (drop 2) at_6 ∙ drop_at b2 b 2 (bytes_long 2 e.size)

  pub entry_back : Fits e → entry_of (field_note F e) ≡ e
  unfolding entry_of field_note
  entry_back f =
      let t1 : take 1 (b1 ++ (b4 ++ (b2 ++ b))) ≡ b1 = take_at b1 (b4 ++ (b2 ++ b)) 1 (bytes_long 1 e.number) in
      let t4 : take 4 (b4 ++ (b2 ++ b)) ≡ b4 = take_at b4 (b2 ++ b) 4 (bytes_long 4 e.offset) in
      let t2 : take 2 (b2 ++ b) ≡ b2 = take_at b2 b 2 (bytes_long 2 e.size) in
      let e1 : big_endian_of b1 ≡ e.number = number_digits 256 0 1 e.number (omega arith) f.number in
      let e4 : big_endian_of b4 ≡ e.offset = number_digits 256 0 4 e.offset (omega arith) f.offset in
      let e2 : big_endian_of b2 ≡ e.size = number_digits 256 0 2 e.size (omega arith) f.size in
      λ i. record {
        number = (ap big_endian_of t1 ∙ e1) i;
        offset = (ap (λ (l : List ℕ). big_endian_of (take 4 l)) at_2 ∙ ap big_endian_of t4 ∙ e4) i;
        size = (ap (λ (l : List ℕ). big_endian_of (take 2 l)) at_6 ∙ ap big_endian_of t2 ∙ e2) i;
      }

  pub mark_back : (tail : List ℕ) → F.mark e.number < 256 ^ F.extra → is_marked F e.number (field_note F e ++ tail) ≡ true
  unfolding is_marked field_note
  mark_back tail h =
      let l : length (b1 ++ (b4 ++ (b2 ++ b))) ≡ 7 + F.extra =
      omega (arith, length-append b1 (b4 ++ (b2 ++ b)), length-append b4 (b2 ++ b), length-append b2 b, bytes_long 1 e.number, bytes_long 4 e.offset, bytes_long 2 e.size, bytes_long F.extra (F.mark e.number)) in
      let d : drop 7 ((b1 ++ (b4 ++ (b2 ++ b))) ++ tail) ≡ b ++ tail = drop-append-le 7 (b1 ++ (b4 ++ (b2 ++ b))) tail (omega arith) ∙ ap (λ (x : List ℕ). x ++ tail) at_8 in
      let t : take F.extra (b ++ tail) ≡ b = take_at b tail F.extra (bytes_long F.extra (F.mark e.number)) in
      eq-eqb _ _ (ap (λ (x : List ℕ). big_endian_of (take F.extra x)) d ∙ ap big_endian_of t ∙ number_digits 256 0 F.extra (F.mark e.number) (omega arith) h)

-- the field note i stands behind the head and a note for each before it
note_at_lem : (F : Form) (es : List Entry) (tail : List ℕ) (i : ℕ) (e : Entry) → get_elem? es i ≡ some e → take (note_size F) (drop (note_size F * i) (field_notes F es ++ tail)) ≡ field_note F e
unfolding field_notes
note_at_lem F [] tail i e h = let z : ◌≡◌ {A = ℕ} 0 1 = cc in absurd (omega arith)
note_at_lem F (x ∷ es) tail zero e h =
    let z : x ≡ e = cc in
    let n : note_size F * 0 ≡ 0 = omega arith in
    rw (append_assoc (field_note F x) (field_notes F es) tail, n) (take_at (field_note F x) (field_notes F es ++ tail) (note_size F) (field_long F x) ∙ ap (field_note F) z)
note_at_lem F (x ∷ es) tail (suc i) e h =
    let n : note_size F * suc i ≡ note_size F + note_size F * i = omega (arith, mul-suc (note_size F) i) in
    rw (append_assoc (field_note F x) (field_notes F es) tail, n, ← drop-drop (note_size F * i) (note_size F) (field_note F x ++ (field_notes F es ++ tail)), drop_at (field_note F x) (field_notes F es ++ tail) (note_size F) (field_long F x))
    (note_at_lem F es tail i e h)

fit_at : (es : List Entry) (i : ℕ) (e : Entry) → AllFit es → get_elem? es i ≡ some e → Fits e
unfolding AllFit
fit_at [] i e a h = let z : ◌≡◌ {A = ℕ} 0 1 = cc in absurd (omega arith)
fit_at (x ∷ es) zero e a h = let z : x ≡ e = cc in rw (← z) a.0
fit_at (x ∷ es) (suc i) e a h = fit_at es i e a.1 h

-- each field note of notes spells its entry, whatever follows
pub entry_at_lem : (F : Form) (mti : List ℕ) (m : ℕ) (es : List Entry) (tail : List ℕ) (i : ℕ) (e : Entry) → length mti ≡ 4 → AllFit es → get_elem? es i ≡ some e
    → entry_at F (head_note mti m ++ (field_notes F es ++ tail)) i ≡ e
unfolding entry_at
entry_at_lem F mti m es tail i e l a h =
    let n : length (head_note mti m) ≡ head_size = head_long mti m ∙ omega arith in
    let d : drop (head_size + note_size F * i) (head_note mti m ++ (field_notes F es ++ tail)) ≡ drop (note_size F * i) (field_notes F es ++ tail) =
    sym (drop-drop (note_size F * i) head_size (head_note mti m ++ (field_notes F es ++ tail))) ∙ ap (drop (note_size F * i)) (drop_at (head_note mti m) (field_notes F es ++ tail) head_size n) in
    ap (λ (q : List ℕ). entry_of (take (note_size F) q)) d ∙ ap entry_of (note_at_lem F es tail i e h) ∙ entry_back F e (fit_at es i e a h)
