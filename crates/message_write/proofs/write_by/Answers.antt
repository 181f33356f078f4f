-- A refused walk is passed on; one that comes to the end note is written.
use mathlib.Core.Path.{refl, ap, ◌∙◌}
use Rattle.refusal.proofs.Tests.{handed_on}
use Rattle.message_write.specs.Written.{cleaned_answer, cleaned_padded, padded_on}
use Rattle.message_write.proofs.Ends.{by_refused, refused_left, by_asked, by_sums, by_answered, by_laid, by_padded}
use Rattle.message_write.proofs.write_by.Goals as goal

pub returns-in_err-weighed : goal.returns-in_err-weighed
unfolding padded_on
returns-in_err-weighed c =
    let r = handed_on c.from_residual.ensures.1 in
    let a = by_refused _ _ _ _ c.args.out.now c.in_err-weighed.ensures.end in
    record {
      answers = ap cleaned_answer r ∙ a;
      padded = ap cleaned_padded r ∙ by_padded _ _ _ _ _ a refl;
      writes = refused_left _ _ _ _ _ c.in_err-weighed.ensures.end;
    }

pub write_ended-requires : goal.write_ended-requires
write_ended-requires c =
    record {
      asked = by_asked _ _ _ _ c.args.out.now c.in_ok-weighed.ensures.end c.requires _ c.in_ok-weighed.ensures.sums.named;
      sums = by_sums _ _ _ _ c.args.out.now c.in_ok-weighed.ensures.end c.in_ok-weighed.ensures.sums;
    }

pub returns-in_err-length : goal.returns-in_err-length
unfolding padded_on
returns-in_err-length c =
    let r = handed_on c.from_residual-in_err-length.ensures.1 in
    let a = by_answered _ _ _ _ c.args.out.now c.in_ok-weighed.ensures.end c.in_err-length.ensures.answers in
    record {
      answers = ap cleaned_answer r ∙ a;
      padded = ap cleaned_padded r ∙ by_padded _ _ _ _ _ a refl;
      writes = by_laid _ _ _ _ _ c.in_ok-weighed.ensures.end c.in_err-length.ensures.writes;
    }

pub returns : goal.returns
unfolding padded_on
returns c =
    let a = by_answered _ _ _ _ c.args.out.now c.in_ok-weighed.ensures.end c.in_ok-length.ensures.answers in
    record { answers = a; padded = by_padded _ _ _ _ _ a c.in_ok-weighed.ensures.sums.short; writes = by_laid _ _ _ _ _ c.in_ok-weighed.ensures.end c.in_ok-length.ensures.writes }
