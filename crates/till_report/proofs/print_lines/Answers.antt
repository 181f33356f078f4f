-- The text's front is the report.
use Rattle.std.proofs.Common.{◌≡◌, ◌≤◌, ℕ, length, take, sym, arith, length-take-le}
use Rattle.std.proofs.lemmas.List.{length-replicate}
use Rattle.field_table.specs.House.{house}
use Rattle.message_notes.specs.Dialect.{dialect}
use Rattle.till_lines.specs.Lines.{report_of}
use Rattle.till_report.proofs.Reading.{fronts}
use Rattle.till_report.proofs.print_lines.Given.{Over}
use Rattle.till_report.proofs.print_lines.Goals as goal
use Rattle.till_report.proofs.print_lines.Goals.{After-report-length}

front : (g : Over) (c : After-report-length g) → (c.report-length.result ≤ length c.report-length.new.text) × (take c.report-length.result c.report-length.new.text ≡ report_of (dialect house) c.args.input.now)
front g c = fronts (dialect house) _ _ _ _ (omega (arith, length-replicate {A = ℕ} 8192 0)) c.report-length.auto.text c.report-length.ensures.answers c.report-length.ensures.writes

pub slice_bounds-text-end : goal.slice_bounds-text-end
slice_bounds-text-end g c = (front g (goal.at.slice_bounds-text-end g c).After-report-length).0

pub slice_bounds-write_all-end : goal.slice_bounds-write_all-end
slice_bounds-write_all-end g c = sym (length-take-le _ _ (front g (goal.at.slice_bounds-write_all-end g c).After-report-length).0)

pub returns : goal.returns
returns g c = let r = (front g (goal.at.returns g c).After-report-length).1 in rw r at c.write_all.ensures.bytes
