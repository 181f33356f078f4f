-- The byte holds two digits, the first in its high half.
use Rattle.encoding_bcd.proofs.Unpacking.{spread_even, spread_odd}
use borrow.Author.Rules.{rules}
use Rattle.encoding_bcd.proofs.digit_at.Goals as goal

pub returns-then-j-eq0 : goal.returns-then-j-eq0
returns-then-j-eq0 c = search (spread_even, rules)

pub returns-else-j-eq0 : goal.returns-else-j-eq0
returns-else-j-eq0 c = search (spread_odd, rules)
