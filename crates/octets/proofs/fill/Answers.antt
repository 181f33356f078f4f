-- The bytes fit and are laid over the output, or they do not and it is left.
use mathlib.Core.Path.{ap, ◌∙◌}
use Prim.Native.Nat.{ℕ}
use lib.ListN.{replicate, length-replicate}
use lib.Seq.{length-take-le}
use borrow.Author.Rules.{rules}
use Rattle.octets.proofs.Lists.{placed_short, placed_front}
use Rattle.octets.proofs.fill.Goals as goal

pub returns-then-n-out : goal.returns-then-n-out
returns-then-n-out c =
    placed_front _ _ _ (length-replicate _ _) _ c.if-n-out.true
    (c.fill.ensures.after (λ y e. e) ∙ ap (λ (k : ℕ). replicate k c.args.b) (length-take-le c.args.n c.args.out.now c.if-n-out.true))

pub returns-else-n-out : goal.returns-else-n-out
returns-else-n-out c = search (placed_short, length-replicate, rules)
