-- By the numbers that are lent, which stand for the house table.
use mathlib.Core.Path.{ap}
use Rattle.refusal.specs.Refusals.{told}
use Rattle.message_write.proofs.Ends.{clean_answer_lem, clean_output_lem, clean_padded_lem}
use Rattle.message_write.proofs.write_clean.Goals as goal

pub returns : goal.returns
returns c =
    let a = clean_answer_lem _ _ _ _ _ c.house_table-table.ensures.means _ c.write_by.ensures.answers in
    record {
      answers = a;
      tells = ap told a;
      padded = clean_padded_lem _ _ _ _ _ c.house_table-table.ensures.means _ c.write_by.ensures.padded;
      writes = clean_output_lem _ _ _ _ _ c.house_table-table.ensures.means _ c.write_by.ensures.writes;
    }
