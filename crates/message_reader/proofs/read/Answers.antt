-- One law for each end, in Answers; the numbers that are lent stand for the house table.
use mathlib.Core.Path.{sym, ap}
use Rattle.message_reader.specs.Reader.{told_read}
use Rattle.message_reader.proofs.Answers.{ends_short, ends_head, ends_passed, answer_by_lem, notes_by, tells_by}
use borrow.Author.Rules.{rules}
use Rattle.message_reader.proofs.read.Goals as goal

pub returns-then-notes-lt-NOTES_ROOM : goal.returns-then-notes-lt-NOTES_ROOM
returns-then-notes-lt-NOTES_ROOM c = let e = ends_short _ _ _ c.if-notes-lt-NOTES_ROOM.true c.at.ensures in
    record { answers = e.answer; writes = e.notes; tells = ap told_read e.answer }

pub returns-in_err-bitmaps : goal.returns-in_err-bitmaps
returns-in_err-bitmaps c =
    let e = ends_passed c.from_residual.ensures.1 (ends_head _ _ _ c.if-notes-lt-NOTES_ROOM.false _ (sym c.in_err-bitmaps.ensures)) in
    record { answers = e.answer; writes = e.notes; tells = ap told_read e.answer }

pub read_by-requires : goal.read_by-requires
read_by-requires c = record { headed = sym c.in_ok-bitmaps.ensures; room = c.if-notes-lt-NOTES_ROOM.false }

pub returns : goal.returns
returns c = search (answer_by_lem, notes_by, tells_by, rules)
