-- No refusal changes a lent buffer (specs/Refusals.antt). Assumes nothing.
use Prim.Native.Nat.{ℕ}
use mathlib.Core.Path.{◌≡◌}
use mathlib.Core.List.{List}
use native.Mathlib.Omega.{arith}
use Rattle.std.proofs.lemmas.Bool.Decides.{nat_tests}
use Rattle.std.specs.Prelude.{Err}
use Rattle.octets.specs.Lists.{placed}
use Rattle.refusal.specs.Refusals.{Test, converted, converted_into}
use Rattle.refusal.specs.declared.Refusal.{Refusal}
use Rattle.message_notes.specs.Dialect.{Dialect}
use Rattle.message_reader.specs.Reader.{read_answer, notes_after}
use Rattle.message_walk.specs.Walk.{walked}
use Rattle.message_write.specs.Written.{exactly, cleanly, exact_message, clean_message, exact_answer, exact_output, clean_answer, clean_output}
use Rattle.message_write.proofs.Answered.{refused_kept}
use Rattle.round_trip.specs.Refusals.{Keeps}

kept_notes : (d : Dialect) (s b : List ℕ) (r : Refusal) → read_answer d s b ≡ Err r → notes_after d s b ≡ b
unfolding notes_after
kept_notes d s b r e = rw (notes_after, e)

kept_exact : (d : Dialect) (v n out : List ℕ) (r : Refusal) → exact_answer d v n out ≡ Err r → exact_output d v n out ≡ out
unfolding exact_answer exact_output
kept_exact d v n out r e = refused_kept (walked d (exactly d v) n) (exact_message d v n) out r e

kept_clean : (d : Dialect) (v n out : List ℕ) (r : Refusal) → clean_answer d v n out ≡ Err r → clean_output d v n out ≡ out
unfolding clean_answer clean_output
kept_clean d v n out r e = refused_kept (walked d (cleanly d v) n) (clean_message d v n) out r e

-- bytes are laid only where they fit, and there the length is answered
kept_converted : (t : Test) (c out : List ℕ) (r : Refusal) → converted t c out ≡ Err r → converted_into t c out ≡ out
unfolding converted converted_into placed
kept_converted t c out r e = grind (arith, nat_tests)

pub keeps : (d : Dialect) → Keeps d
keeps d = record { notes = kept_notes d; exact_output_lem = kept_exact d; clean_output_lem = kept_clean d; conversion = kept_converted }
