-- Each byte is tested; x+n, whose contents begin with a sign, was taken out before.
use Rattle.std.proofs.Common.{◌∙◌, rules, tests}
use Rattle.std.proofs.lemmas.Iterator.{YieldsList-from_slice}
use Rattle.std.proofs.lemmas.Iterator.Search.{all_from_yields_List}
use Rattle.field_class.specs.Classes.{allows}
use Rattle.field_class.proofs.Classes.{all_tested, conforms_bytes}
use Rattle.field_class.proofs.is_of_class.Goals as goal

pub returns-in_default : goal.returns-in_default
returns-in_default c =
    all_from_yields_List (allows c.args.class) _ _ _ c.all.ensures.ran (YieldsList-from_slice c.args.content.now cc) (λ x b q k. search (rules, tests))
    ∙ all_tested (allows c.args.class) c.args.content.now ∙ conforms_bytes c.args.class c.args.content.now c.in_default.not-Xn
