-- The ends of the check of required fields, with the facts as its code has them. Assumes nothing.
use Prim.Native.Nat.{ℕ}
use mathlib.Core.Path.{◌≡◌, sym, ap, ◌∙◌}
use mathlib.Core.Bool.{Bool, true, cond}
use mathlib.Core.List.{List, []}
use lib.ListN.{length}
use lib.Dec.{leb}
use borrow.Author.Tests.{le-leb}
use Rattle.octets.specs.Lists.{between, all}
use Rattle.octets.proofs.Cases.{by_bool}
use Rattle.refusal.specs.declared.Refusal.{Refusal}
use Rattle.std.specs.Prelude.{Option, Ok, Err}
use Rattle.bitmap.specs.Bitmaps.{is_field, has_field}
use Rattle.message_notes.specs.Dialect.{head_size, Dialect}
use Rattle.message_notes.specs.Notes.{mti_in}
use Rattle.message_walk.specs.declared.Ended.{Ended}
use Rattle.message_walk.specs.Walk.{walked, fields_in}
use Rattle.message_walk.specs.Faults.{any, within}
use Rattle.message_walk.proofs.Heads.{Head, good_head, ended_head}
use Rattle.validation_required.specs.Required.{is_card_request, is_response, required_of_response, required_more, required_by, is_present, first_missing, missing_answer, required_after, required_in}
use Rattle.validation_required.proofs.Present.{has_present, same_missing}

-- The fields that are asked for are fields.
pub required_fields : (m : List ℕ) → all is_field (required_by m) ≡ true
unfolding required_by required_more required_of_response is_field between
required_fields m =
    by_bool (is_card_request m)
    (λ y. by_bool (is_response m) (λ z. rw (y, z)) (λ z. rw (y, z)))
    (λ y. by_bool (is_response m) (λ z. rw (y, z)) (λ z. rw (y, z)))

-- `check_required`: malformed notes are answered as by lookup
module _ (d : Dialect) (v n : List ℕ) where
  pub required_malformed : {r : Refusal} → Err r ≡ walked d (within v any) n → Err r ≡ required_in d v n
  unfolding required_in required_after
  required_malformed e = rw (required_in, ← e)

  module _ {end : Ended} (e : Ok end ≡ walked d (within v any) n) {mti : List ℕ} (part : mti ≡ cond (leb head_size (length n)) (mti_in n) []) {s : List ℕ} (gathered : s ≡ fields_in d (within v any) n) where
    head : Head d.most n
    head = good_head d.most n (ended_head d (within v any) n end (sym e))

    is_mti : mti ≡ mti_in n
    is_mti = part ∙ ap (λ (b : Bool). cond b (mti_in n) []) (le-leb head_size (length n) head.whole)

    is_missing : first_missing (has_field s) (required_by mti) ≡ first_missing (is_present d v n) (required_by (mti_in n))
    is_missing =
        ap (λ (m : List ℕ). first_missing (has_field s) (required_by m)) is_mti
        ∙ same_missing (has_field s) (is_present d v n)
        (λ f z. ap (λ (x : List ℕ). has_field x f) gathered ∙ has_present d v n end (sym e) f z)
        (required_by (mti_in n)) (required_fields (mti_in n))

    pub required_walked : {m : Option ℕ} → m ≡ first_missing (has_field s) (required_by mti) → missing_answer m ≡ required_in d v n
    unfolding required_in required_after
    required_walked k = rw (required_in, ← e) (ap missing_answer (k ∙ is_missing))
