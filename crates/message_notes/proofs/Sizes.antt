-- How long notes are. Assumes nothing.
use Prim.Native.Nat.{ℕ, ◌+◌, ◌*◌}
use mathlib.Core.Path.{◌≡◌, sym}
use mathlib.Core.List.{List, [], ◌∷◌, ◌++◌}
use native.Mathlib.Nat.{mul-zero, mul-suc}
use native.Mathlib.Omega.{arith}
use lib.ListN.{length, length-append}
use Rattle.octets.specs.Numbers.{big_endian}
use Rattle.octets.proofs.Numbers.{digits_length}
use Rattle.message_language.specs.Language.{Entry, Reading}
use Rattle.message_notes.specs.Dialect.{Form, note_size, head_size, end_size}
use Rattle.message_notes.specs.Notes.{head_note, field_note, end_note, field_notes, notes_of}

pub bytes_long : (w n : ℕ) → length (big_endian w n) ≡ w
bytes_long w n = digits_length 256 0 w n

pub head_long : (mti : List ℕ) (m : ℕ) → length (head_note mti m) ≡ 2 + length mti
unfolding head_note
head_long mti m = omega (arith, length-append mti (big_endian 1 m), bytes_long 1 m)

pub field_long : (F : Form) (e : Entry) → length (field_note F e) ≡ note_size F
unfolding field_note
field_long F e =
    let b1 = big_endian 1 e.number in
    let b4 = big_endian 4 e.offset in
    let b2 = big_endian 2 e.size in
    let b = big_endian F.extra (F.mark e.number) in
    omega (
      arith,
      length-append b1 (b4 ++ (b2 ++ b)),
      length-append b4 (b2 ++ b),
      length-append b2 b,
      bytes_long 1 e.number,
      bytes_long 4 e.offset,
      bytes_long 2 e.size,
      bytes_long F.extra (F.mark e.number),
    )

pub end_long : (u : ℕ) → length (end_note u) ≡ end_size
unfolding end_note
end_long u = omega (arith, bytes_long 4 u)

pub fields_long : (F : Form) (es : List Entry) → length (field_notes F es) ≡ note_size F * length es
unfolding field_notes
fields_long F [] = sym (mul-zero (note_size F))
fields_long F (e ∷ es) =
    omega (arith, length-append (field_note F e) (field_notes F es), field_long F e, fields_long F es, mul-suc (note_size F) (length es))

pub notes_long : (F : Form) (r : Reading) (u : ℕ) → length r.mti ≡ 4 → length (notes_of F r u) ≡ head_size + note_size F * length r.entries + end_size
unfolding notes_of
notes_long F r u h =
    omega (
      arith,
      length-append (head_note r.mti r.count) (field_notes F r.entries ++ end_note u),
      length-append (field_notes F r.entries) (end_note u),
      head_long r.mti r.count,
      fields_long F r.entries,
      end_long u,
    )
