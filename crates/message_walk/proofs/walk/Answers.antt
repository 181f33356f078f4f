-- The head, and then the fields.
use mathlib.Core.Path.{ap, ◌∙◌}
use Rattle.refusal.proofs.Tests.{handed_on}
use Rattle.field_table.specs.House.{house}
use Rattle.message_notes.specs.Dialect.{dialect}
use Rattle.message_walk.specs.Faults.{any, within}
use Rattle.message_walk.specs.Walk.{gathered_end, gathered_fields, fields_in, fields_on}
use Rattle.message_walk.proofs.Heads.{head_long}
use Rattle.message_walk.proofs.Ends.{walk_head, walk_ended}
use Rattle.message_walk.proofs.walk.Goals as goal

pub returns-in_err-head_fault : goal.returns-in_err-head_fault
unfolding fields_in fields_on
returns-in_err-head_fault c =
    let r = handed_on c.from_residual.ensures.1 in
    let e = walk_head (dialect house) (within c.args.values.now any) _ c.in_err-head_fault.ensures in
    record { end = ap gathered_end r ∙ e; fields = ap gathered_fields r ∙ rw (fields_in, ← e) }

pub walk_fields-requires : goal.walk_fields-requires
walk_fields-requires c = head_long 3 _ c.in_ok-head_fault.ensures

pub returns : goal.returns
unfolding fields_in
returns c =
    let e = walk_ended (dialect house) (within c.args.values.now any) _ c.in_ok-head_fault.ensures c.walk_fields.ensures.end in
    record { end = e; fields = rw (fields_in, ← e) c.walk_fields.ensures.fields }
