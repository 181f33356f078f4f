-- What was read is all that a report needs.
use Rattle.std.proofs.lemmas.Option.{IfSome_then}
use Rattle.std.proofs.lemmas.Result.{on_ok_weaker}
use Rattle.field_table.specs.House.{house}
use Rattle.message_notes.specs.Dialect.{dialect}
use Rattle.till_report.proofs.Reading.{first_read, taken, report_whole}
use Rattle.till_report.proofs.try_print_report.Goals as goal

pub returns-clause-reads : goal.returns-clause-reads
returns-clause-reads g c =
    let r = c.read_full-n.ensures in
    on_ok_weaker c.read_full-n.result.1 (λ end. taken _ _ _ 60001 r.bytes (first_read _ _ _ 60001 _ r.bytes c.read_full-n.auto.buf r.within end)) r.end

pub returns-clause-prints : goal.returns-clause-prints
returns-clause-prints g c =
    let r = c.read_full-n.ensures in
    on_ok_weaker c.read_full-n.result.1 (λ end. IfSome_then _ (first_read _ _ _ 60001 _ r.bytes c.read_full-n.auto.buf r.within end) (λ xs e. report_whole (dialect house) _ xs _ _ e c.in_ok-print_lines.ensures)) r.end
