-- One more read.
use Rattle.std.proofs.Common.{rules}
use Rattle.till_report.proofs.Reading.{read_more}
use Rattle.till_report.proofs.read_full.Goals as goal

pub loop-done-preserved : goal.loop-done-preserved
loop-done-preserved g c = (search rules, search rules, read_more _ _ _ _ _ _ _ c.loop-done.invariant.1 c.loop-done.invariant.2 c.in-Ok.ensures.bytes.0)
