-- Each end of the code is a case of the report.
use mathlib.Core.Path.{sym, ◌∙◌}
use Rattle.field_table.specs.House.{house}
use Rattle.message_notes.specs.Dialect.{dialect}
use Rattle.till_lines.proofs.Reports.{answered, noted, too_long, refused_lines, accepted_lines, report_short, report_written}
use Rattle.till_lines.proofs.report.Goals as goal

pub returns-then-text-lt-TEXT_ROOM : goal.returns-then-text-lt-TEXT_ROOM
returns-then-text-lt-TEXT_ROOM c = let r = report_short (dialect house) _ _ c.if-text-lt-TEXT_ROOM.true in record { answers = r.0; writes = r.1 }

pub returns-then-input-gt-INPUT_MOST : goal.returns-then-input-gt-INPUT_MOST
returns-then-input-gt-INPUT_MOST c = let r = report_written (dialect house) c.args.input.now c.args.text.now c.if-text-lt-TEXT_ROOM.false _ _ _ (too_long (dialect house) c.args.input.now c.if-input-gt-INPUT_MOST.true c.at.ensures) c.put_refused.ensures.size c.put_refused.ensures.writes in record {
  answers = r.0;
  writes = r.1;
}

pub put_reading-requires : goal.put_reading-requires
put_reading-requires c = let g = sym c.read.ensures.answers ∙ c.in-Ok.is in
    let m = answered (dialect house) c.args.input.now _ g in
    record {
      short = c.if-input-gt-INPUT_MOST.false;
      read = m;
      noted = noted (dialect house) c.args.input.now _ _ _ g c.read.ensures.writes;
      room = c.if-text-lt-TEXT_ROOM.false;
    }

pub returns-in-Err : goal.returns-in-Err
returns-in-Err c = let g = sym c.read.ensures.answers ∙ c.in-Err.is in
    let m = answered (dialect house) c.args.input.now _ g in
    let r = report_written (dialect house) c.args.input.now c.args.text.now c.if-text-lt-TEXT_ROOM.false _ _ _ (refused_lines (dialect house) c.args.input.now c.if-input-gt-INPUT_MOST.false _ m) c.put_refused-in-Err.ensures.size c.put_refused-in-Err.ensures.writes in record {
      answers = r.0;
      writes = r.1;
    }

pub returns-in-Ok : goal.returns-in-Ok
returns-in-Ok c = let g = sym c.read.ensures.answers ∙ c.in-Ok.is in
    let m = answered (dialect house) c.args.input.now _ g in
    let r = report_written (dialect house) c.args.input.now c.args.text.now c.if-text-lt-TEXT_ROOM.false _ _ _ (accepted_lines (dialect house) c.args.input.now c.if-input-gt-INPUT_MOST.false _ _ m) c.put_reading.ensures.size c.put_reading.ensures.writes in record {
      answers = r.0;
      writes = r.1;
    }
