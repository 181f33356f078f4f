-- The leading 0 stands at 0 where the count is odd, and the others one place further.
use mathlib.Core.Path.{sym, ap}
use Prim.Native.Nat.{ℕ, ◌%◌, ◌-◌}
use lib.ListN.{length}
use Rattle.octets.specs.Numbers.{is_digit}
use Rattle.octets.proofs.Lists.{between_low, between_high, all_at}
use Rattle.encoding_bcd.proofs.Packing.{evened_length, value_spare, value_real}
use borrow.Author.Rules.{rules}
use native.Mathlib.Omega.{arith}
use Rattle.encoding_bcd.proofs.value_at.Goals as goal

pub returns-then-j-odd-clause-value : goal.returns-then-j-odd-clause-value
returns-then-j-odd-clause-value c = search (value_spare, rules)

pub bounds-src-j : goal.bounds-src-j
bounds-src-j c = omega (arith, evened_length c.args.src.now)

pub overflow_sub-result-else-j-odd : goal.overflow_sub-result-else-j-odd
overflow_sub-result-else-j-odd c = between_low 48 57 _ (all_at is_digit c.args.src.now (c.args.j - length c.args.src.now % 2) (search rules) (omega (arith, evened_length c.args.src.now)))

pub returns-else-j-odd-clause-value : goal.returns-else-j-odd-clause-value
returns-else-j-odd-clause-value c = ap (λ (x : ℕ). x - 48) (sym (value_real c.args.src.now c.args.j (search rules)))

pub returns-else-j-odd-clause-small : goal.returns-else-j-odd-clause-small
returns-else-j-odd-clause-small c = omega (arith, between_high 48 57 _ (all_at is_digit c.args.src.now (c.args.j - length c.args.src.now % 2) (search rules) (omega (arith, evened_length c.args.src.now))))
