-- What is looked through from the front is what is still to come (Finding), in a loop that reads notes (Loops of message_walk).
use mathlib.Core.Path.{ap}
use Rattle.std.specs.Prelude.{Err}
use Rattle.message_walk.proofs.Loops.{reading_first, read_done, read_here, read_next, read_of}
use Rattle.message_lookup.specs.Lookup.{found_in}
use Rattle.message_lookup.proofs.Finding.{finding_first, finding_none, finding_here, finding_next}
use Rattle.message_lookup.proofs.find.Goals as goal

pub loop-here-init : goal.loop-here-init
loop-here-init c = reading_first c.requires finding_first

pub returns-then-here-number : goal.returns-then-here-number
returns-then-here-number c =
    let read = read_of c.loop-here.invariant c.read_note.ensures in
    finding_here (read_here read c.in-Field.is) c.if-here-number.true

pub loop-here-preserved : goal.loop-here-preserved
loop-here-preserved c =
    let read = read_of c.loop-here.invariant c.read_note.ensures in
    read_next read c.in-Field.is (finding_next (read_here read c.in-Field.is) c.if-here-number.false)

pub returns : goal.returns
unfolding found_in
returns c =
    let read = read_of c.loop-here.invariant c.read_note.ensures in
    finding_none (read_done read c.in_default.not-Field) (ap Err c.at.ensures)
