-- One law for each end, in Ends.
use Prim.Native.Nat.{◌<◌}
use mathlib.Core.Logic.{⊎_elim}
use native.Mathlib.Omega.{arith}
use Rattle.message_walk.proofs.Ends.{head_not, head_none, head_many, head_mti, head_good}
use borrow.Author.Rules.{rules}
use Rattle.message_walk.proofs.head_fault.Goals as goal

pub returns-then-not-is_head : goal.returns-then-not-is_head
returns-then-not-is_head c =
    ⊎_elim
    (λ n. head_not _ _ c.is_head.ensures n)
    (⊎_elim
    (λ n. head_none _ _ c.is_head.ensures n.0 _ c.count_in-count.ensures n.1)
    (λ n. let many : 3 < c.count_in-count.result = omega arith in head_many _ _ c.is_head.ensures n.0 _ c.count_in-count.ensures n.1 many))
    c.then-not-is_head.either

pub returns-then-not-all_between : goal.returns-then-not-all_between
returns-then-not-all_between c = search (head_mti, rules)

pub returns : goal.returns
returns c = search (head_good, rules)
