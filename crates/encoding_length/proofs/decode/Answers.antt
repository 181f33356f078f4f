-- One law for each end, in the order of the tests.
use mathlib.Core.Path.{refl, sym, ap, ◌∙◌}
use Rattle.std.specs.Prelude.{Err}
use Rattle.refusal.proofs.Tests.{handed_on}
use Rattle.encoding_length.proofs.Measures.{measures, digits_wrong, bytes_wrong, passed_up, read_room, read_count, read_few, measured_text}
use Rattle.encoding_length.proofs.decode.Goals as goal

pub returns-then-not-is_width : goal.returns-then-not-is_width
returns-then-not-is_width c =
    let r = measures (ap Err c.into.ensures ∙ digits_wrong _ _ _ (sym c.is_width.ensures ∙ c.if-not-is_width.true)) in
    record { answers = r.answers; tells = r.tells }

pub returns-then-src-size_of : goal.returns-then-src-size_of
returns-then-src-size_of c =
    let wide = sym c.is_width.ensures ∙ c.if-not-is_width.false in
    let r = measures (ap Err c.into-then-src-size_of.ensures ∙ bytes_wrong _ _ _ wide (λ h. c.if-src-size_of.true (h ∙ sym c.size_of.ensures))) in
    record { answers = r.answers; tells = r.tells }

pub returns-in_err-n : goal.returns-in_err-n
returns-in_err-n c =
    let wide = sym c.is_width.ensures ∙ c.if-not-is_width.false in
    let r = measures (handed_on c.from_residual.ensures.1 ∙ passed_up _ _ _ _ wide (c.if-src-size_of.false ∙ c.size_of.ensures) refl c.in_err-n.ensures.answers) in
    record { answers = r.answers; tells = r.tells }

pub slice_bounds-text-end : goal.slice_bounds-text-end
slice_bounds-text-end c =
    let wide = sym c.is_width.ensures ∙ c.if-not-is_width.false in
    read_room _ _ _ _ wide (c.if-src-size_of.false ∙ c.size_of.ensures) refl c.in_ok-n.ensures.answers _ c.put_text.ensures.writes

pub slice_bounds-measure-end : goal.slice_bounds-measure-end
slice_bounds-measure-end c =
    let wide = sym c.is_width.ensures ∙ c.if-not-is_width.false in
    read_count _ _ _ _ wide (c.if-src-size_of.false ∙ c.size_of.ensures) refl c.in_ok-n.ensures.answers _ c.put_text.ensures.writes

pub measure-requires : goal.measure-requires
measure-requires c =
    let wide = sym c.is_width.ensures ∙ c.if-not-is_width.false in
    read_few _ _ _ _ wide (c.if-src-size_of.false ∙ c.size_of.ensures) refl c.in_ok-n.ensures.answers _ c.put_text.ensures.writes

pub returns : goal.returns
returns c =
    let wide = sym c.is_width.ensures ∙ c.if-not-is_width.false in
    let text = measured_text _ _ _ _ wide (c.if-src-size_of.false ∙ c.size_of.ensures) refl c.in_ok-n.ensures.answers _ c.put_text.ensures.writes c.measure.ensures in
    let r = measures text in
    record { answers = r.answers; tells = r.tells }
