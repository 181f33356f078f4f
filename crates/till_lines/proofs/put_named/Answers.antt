-- The word is laid, then the space, the number and the end, each behind the last.
use mathlib.Core.Path.{sym, ◌∙◌}
use lib.ListN.{length-set}
use Rattle.till_lines.proofs.Writing.{named_room, worded_size, spaced_size, numbered_room, numbered_size, end_laid, worded_of, numbered_of}
use native.Mathlib.Omega.{arith}
use Rattle.till_lines.proofs.put_named.Goals as goal

pub bounds-out-space : goal.bounds-out-space
bounds-out-space c =
    let worded = worded_of c.requires c.put.ensures in
    omega (arith, worded_size worded, named_room worded)

pub slice_bounds-put_numeral-count : goal.slice_bounds-put_numeral-count
slice_bounds-put_numeral-count c =
    let worded = worded_of c.requires c.put.ensures in
    omega (arith, spaced_size worded, named_room worded)

pub slice_bounds-put_numeral-start : goal.slice_bounds-put_numeral-start
slice_bounds-put_numeral-start c =
    let worded = worded_of c.requires c.put.ensures in
    omega (arith, spaced_size worded, named_room worded)

pub overflow_add-stop : goal.overflow_add-stop
overflow_add-stop c =
    let worded = worded_of c.requires c.put.ensures in
    let numbered = numbered_of worded c.put_numeral.ensures.size c.put_numeral.ensures.writes in
    omega (arith, numbered_room numbered, c.requires)

pub bounds-out-stop : goal.bounds-out-stop
bounds-out-stop c =
    let worded = worded_of c.requires c.put.ensures in
    let numbered = numbered_of worded c.put_numeral.ensures.size c.put_numeral.ensures.writes in
    omega (arith, numbered_size numbered, numbered_room numbered, c.requires)

pub overflow_add-result : goal.overflow_add-result
overflow_add-result c =
    let worded = worded_of c.requires c.put.ensures in
    let numbered = numbered_of worded c.put_numeral.ensures.size c.put_numeral.ensures.writes in
    omega (arith, numbered_room numbered, c.requires)

pub shape_of-out : goal.shape_of-out
shape_of-out c =
    let worded = worded_of c.requires c.put.ensures in
    let numbered = numbered_of worded c.put_numeral.ensures.size c.put_numeral.ensures.writes in
    sym (sym (numbered_size numbered) ∙ simp length-set)

pub returns : goal.returns
returns c =
    let worded = worded_of c.requires c.put.ensures in
    let numbered = numbered_of worded c.put_numeral.ensures.size c.put_numeral.ensures.writes in
    record { size = numbered_room numbered; writes = end_laid numbered }
