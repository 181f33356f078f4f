-- The word is laid, then the MTI and the end behind it.
use Rattle.till_lines.proofs.Writing.{MtiBegun, as_long, mti_line_long, mti_room, mti_begun_size, mti_put_size, mti_ended}
use native.Mathlib.Omega.{arith}
use Rattle.till_lines.proofs.put_mti.Goals as goal

pub slice_bounds-put-count : goal.slice_bounds-put-count
slice_bounds-put-count c =
    let mti_begun : MtiBegun c.args.mti.now c.args.out.now c.put.new.out = record { room = c.requires; word = c.put.ensures } in
    omega (arith, mti_begun_size mti_begun, mti_room mti_begun)

pub slice_bounds-put-start : goal.slice_bounds-put-start
slice_bounds-put-start c =
    let mti_begun : MtiBegun c.args.mti.now c.args.out.now c.put.new.out = record { room = c.requires; word = c.put.ensures } in
    omega (arith, mti_begun_size mti_begun, mti_room mti_begun)

pub bounds-out-end : goal.bounds-out-end
bounds-out-end c =
    let mti_begun : MtiBegun c.args.mti.now c.args.out.now c.put.new.out = record { room = c.requires; word = c.put.ensures } in
    omega (arith, mti_put_size mti_begun c.put-2.ensures, mti_room mti_begun)

pub shape_of-out : goal.shape_of-out
shape_of-out c =
    let mti_begun : MtiBegun c.args.mti.now c.args.out.now c.put.new.out = record { room = c.requires; word = c.put.ensures } in
    as_long _ _ _ (mti_ended mti_begun c.put-2.ensures) c.requires

pub returns : goal.returns
returns c =
    let mti_begun : MtiBegun c.args.mti.now c.args.out.now c.put.new.out = record { room = c.requires; word = c.put.ensures } in
    record { size = omega (arith, mti_line_long c.args.mti.now); writes = mti_ended mti_begun c.put-2.ensures }
