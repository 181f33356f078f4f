-- The line is one of three words and their numbers.
use Rattle.till_lines.specs.Lines.{field_line}
use Rattle.till_lines.proofs.Writing.{tripled_long, named_long}
use native.Mathlib.Omega.{arith}
use Rattle.till_lines.proofs.put_field.Goals as goal

pub put_tripled-requires : goal.put_tripled-requires
unfolding field_line
put_tripled-requires c = simp (tripled_long, named_long) (omega (arith, simp (tripled_long, named_long) at c.requires))

pub returns : goal.returns
unfolding field_line
returns c = record { size = c.put_tripled.ensures.size; writes = c.put_tripled.ensures.writes }
