-- Each word with its number is laid behind the last.
use Rattle.till_lines.proofs.Writing.{as_long, tripled_long, once_room, once_size, second_fits, twice_room, twice_size, third_fits, third_laid, twice_of, once_of}
use native.Mathlib.Omega.{arith}
use Rattle.till_lines.proofs.put_tripled.Goals as goal

pub put_named-first-requires : goal.put_named-first-requires
put_named-first-requires c = omega (arith, tripled_long c.args.a.now c.args.x c.args.b.now c.args.y c.args.c.now c.args.z, c.requires)

pub slice_bounds-put_named-count : goal.slice_bounds-put_named-count
slice_bounds-put_named-count c =
    let once = once_of c.requires c.put_named-first.ensures.size c.put_named-first.ensures.writes in
    omega (arith, once_size once, once_room once)

pub slice_bounds-put_named-start : goal.slice_bounds-put_named-start
slice_bounds-put_named-start c =
    let once = once_of c.requires c.put_named-first.ensures.size c.put_named-first.ensures.writes in
    omega (arith, once_size once, once_room once)

pub put_named-requires : goal.put_named-requires
put_named-requires c =
    let once = once_of c.requires c.put_named-first.ensures.size c.put_named-first.ensures.writes in
    second_fits once

pub overflow_add-second : goal.overflow_add-second
overflow_add-second c =
    let once = once_of c.requires c.put_named-first.ensures.size c.put_named-first.ensures.writes in
    let twice = twice_of once c.put_named.ensures.size c.put_named.ensures.writes in
    omega (arith, twice_room twice, c.requires)

pub slice_bounds-put_named-count-2 : goal.slice_bounds-put_named-count-2
slice_bounds-put_named-count-2 c =
    let once = once_of c.requires c.put_named-first.ensures.size c.put_named-first.ensures.writes in
    let twice = twice_of once c.put_named.ensures.size c.put_named.ensures.writes in
    omega (arith, twice_size twice, twice_room twice, c.requires)

pub slice_bounds-put_named-start-2 : goal.slice_bounds-put_named-start-2
slice_bounds-put_named-start-2 c =
    let once = once_of c.requires c.put_named-first.ensures.size c.put_named-first.ensures.writes in
    let twice = twice_of once c.put_named.ensures.size c.put_named.ensures.writes in
    omega (arith, twice_size twice, twice_room twice, c.requires)

pub put_named-requires-2 : goal.put_named-requires-2
put_named-requires-2 c =
    let once = once_of c.requires c.put_named-first.ensures.size c.put_named-first.ensures.writes in
    let twice = twice_of once c.put_named.ensures.size c.put_named.ensures.writes in
    third_fits twice

pub overflow_add-result : goal.overflow_add-result
overflow_add-result c =
    let once = once_of c.requires c.put_named-first.ensures.size c.put_named-first.ensures.writes in
    let twice = twice_of once c.put_named.ensures.size c.put_named.ensures.writes in
    let e = twice in
    omega (arith, twice_room e, c.put_named-2.ensures.size, c.requires)

pub shape_of-out : goal.shape_of-out
shape_of-out c =
    let once = once_of c.requires c.put_named-first.ensures.size c.put_named-first.ensures.writes in
    let twice = twice_of once c.put_named.ensures.size c.put_named.ensures.writes in
    as_long _ _ _ (third_laid twice c.put_named-2.ensures.writes) c.requires

pub returns : goal.returns
returns c =
    let once = once_of c.requires c.put_named-first.ensures.size c.put_named-first.ensures.writes in
    let twice = twice_of once c.put_named.ensures.size c.put_named.ensures.writes in
    let e = twice in
    record { size = omega (arith, twice_room e, c.put_named-2.ensures.size); writes = third_laid e c.put_named-2.ensures.writes }
