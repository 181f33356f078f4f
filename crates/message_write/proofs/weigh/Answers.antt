-- A bad head is refused; behind a good one what the fields gave.
use mathlib.Core.Path.{ap, ◌∙◌}
use Rattle.field_table.specs.Codes.{decoded}
use Rattle.message_notes.specs.Dialect.{dialect}
use Rattle.refusal.proofs.Tests.{handed_on}
use Rattle.message_walk.specs.Faults.{fault_by}
use Rattle.message_walk.proofs.Ends.{walk_head, walk_ended}
use Rattle.message_walk.proofs.Heads.{head_long}
use Rattle.message_write.specs.Written.{weighed_end}
use Rattle.message_write.proofs.weigh.Goals as goal

pub returns-in_err-head_fault-clause-end : goal.returns-in_err-head_fault-clause-end
returns-in_err-head_fault-clause-end c =
    ap weighed_end (handed_on c.from_residual.ensures.1)
    ∙ walk_head (dialect (decoded c.args.ask.now.table.now)) (fault_by (decoded c.args.ask.now.table.now) c.args.values.now c.args.ask.now.rule) _ c.in_err-head_fault.ensures

pub weigh_fields-requires : goal.weigh_fields-requires
weigh_fields-requires c = head_long 3 _ c.in_ok-head_fault.ensures

pub returns-clause-end : goal.returns-clause-end
returns-clause-end c =
    walk_ended (dialect (decoded c.args.ask.now.table.now)) (fault_by (decoded c.args.ask.now.table.now) c.args.values.now c.args.ask.now.rule) _ c.in_ok-head_fault.ensures c.weigh_fields.ensures.end
