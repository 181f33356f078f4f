-- The line is one of three words and their numbers, which are a machine's.
use Prim.Native.Nat.{◌<◌}
use mathlib.Core.Path.{◌≡◌, ◌∙◌}
use Rattle.refusal.specs.Numbers.{number_of}
use Rattle.till_lines.specs.Lines.{refused_line}
use Rattle.till_lines.proofs.Sizes.{refused_most}
use native.Mathlib.Omega.{arith}
use Rattle.till_lines.proofs.put_refused.Goals as goal

pub put_tripled-requires : goal.put_tripled-requires
unfolding refused_line
put_tripled-requires c =
    let e : c.from-number.result ≡ number_of c.args.refusal.cause = c.from-number.ensures ∙ c.number.ensures in
    let n : number_of c.args.refusal.cause < 256 = omega arith in
    let f : c.args.refusal.field < 18446744073709551616 = omega arith in
    let p : c.args.refusal.position < 18446744073709551616 = omega arith in
    rw e (omega (arith, refused_most c.args.refusal n f p, c.requires))

pub returns : goal.returns
unfolding refused_line
returns c =
    let e : c.from-number.result ≡ number_of c.args.refusal.cause = c.from-number.ensures ∙ c.number.ensures in
    record {
      size = rw (← e) c.put_tripled.ensures.size;
      writes = rw (← e) c.put_tripled.ensures.writes;
    }
