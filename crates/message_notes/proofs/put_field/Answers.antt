-- The kind is stored, and each number laid behind what is there.
use mathlib.Core.Path.{refl, sym, ap, ◌∙◌}
use mathlib.Core.List.{List, [], ◌∷◌, ◌++◌, append_assoc, append-nil}
use Prim.Native.Nat.{ℕ}
use lib.ListN.{set, length-append}
use Rattle.octets.specs.Lists.{lay}
use Rattle.octets.specs.Numbers.{digits, big_endian}
use Rattle.octets.proofs.Lists.{placed_short, placed_done}
use Rattle.octets.proofs.Parts.{lay_one, placed_part}
use Rattle.message_language.specs.Language.{entry}
use Rattle.message_notes.specs.Dialect.{plain_form}
use Rattle.message_notes.specs.Notes.{field_note}
use Rattle.message_notes.proofs.Sizes.{bytes_long, field_long}
use native.Mathlib.Omega.{arith}
use Rattle.message_notes.proofs.put_field.Goals as goal

pub returns-then-out-lt-FIELD_NOTE_SIZE : goal.returns-then-out-lt-FIELD_NOTE_SIZE
returns-then-out-lt-FIELD_NOTE_SIZE c = placed_short _ _ _ (field_long plain_form _) c.if-out-lt-FIELD_NOTE_SIZE.true

pub returns : goal.returns
unfolding field_note digits
returns c = let f = big_endian 1 c.args.number in
    let o = big_endian 4 c.args.offset in
    let n = big_endian 2 c.args.length in
    let n1 = bytes_long 1 c.args.number in
    let n4 = bytes_long 4 c.args.offset in
    let n2 = bytes_long 2 c.args.length in
    let n5 = length-append f o in
    let e1 = placed_part (2 ∷ []) f c.args.out.now (set c.args.out.now 0 2) _ 1 (lay_one 2 c.args.out.now (omega arith)) refl (omega arith) c.put_big_endian.ensures in
    let e2 = placed_part (2 ∷ f) o c.args.out.now _ _ 2 e1 (omega arith) (omega arith) c.put_big_endian-2.ensures in
    let e3 = placed_part (2 ∷ (f ++ o)) n c.args.out.now _ _ 6 e2 (omega arith) (omega arith) c.put_big_endian-3.ensures in
    placed_done _ _ _ (field_long plain_form (entry c.args.number c.args.offset c.args.length)) _ (omega arith) (e3 ∙ ap (λ (l : List ℕ). lay (2 ∷ l) c.args.out.now) (append_assoc f o n ∙ ap (λ (l : List ℕ). f ++ (o ++ l)) (sym (append-nil n))))
