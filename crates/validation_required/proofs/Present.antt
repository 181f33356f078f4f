-- Which fields are there: the set that a walk gathered has those that lookup finds. Assumes nothing.
use Prim.Native.Nat.{ℕ}
use mathlib.Core.Path.{◌≡◌, refl, sym, ap, ◌∙◌}
use mathlib.Core.Bool.{Bool, true}
use mathlib.Core.List.{List, [], ◌∷◌}
use lib.Dec.{eqb}
use Rattle.octets.specs.Lists.{all}
use Rattle.octets.proofs.Cases.{by_bool, both_left, both_right}
use Rattle.bitmap.specs.Bitmaps.{is_field, has_field, is_in, set_of}
use Rattle.bitmap.proofs.Sets.{set_is, has_set}
use Rattle.message_language.specs.Language.{Entry}
use Rattle.message_contents.specs.Contents.{numbers_of}
use Rattle.message_notes.specs.Dialect.{Dialect}
use Rattle.message_notes.specs.Notes.{count_in}
use Rattle.message_walk.specs.declared.Ended.{Ended}
use Rattle.std.specs.Prelude.{Ok}
use Rattle.message_walk.specs.Walk.{walked, entries_in, fields_on, fields_in}
use Rattle.message_walk.specs.Faults.{any, within}
use Rattle.message_walk.proofs.Naming.{entries_good, numbers_are}
use Rattle.message_lookup.specs.Lookup.{found_in, found_by, looked_up}
use Rattle.validation_required.specs.Required.{is_found, is_present, first_missing}

found_in_lem : (f at : ℕ) (es : List Entry) → is_found (found_in f at es) ≡ is_in f (numbers_of es)
unfolding found_in numbers_of
found_in_lem f at [] = refl
found_in_lem f at (e ∷ es) =
    by_bool (eqb e.number f)
    (λ y. rw y)
    (λ n. rw n (found_in_lem f at es))

-- where the walk came to the end note
module _ (d : Dialect) (v n : List ℕ) (e : Ended) (ended : walked d (within v any) n ≡ Ok e) where
  abbrev numbers : List ℕ
  numbers = numbers_of (entries_in d (within v any) n)

  are_fields : all is_field numbers ≡ true
  are_fields = numbers_are (within v any) (count_in n) (entries_in d (within v any) n) (entries_good d (within v any) n)

  present_is : (f : ℕ) → is_present d v n f ≡ is_in f numbers
  unfolding is_present looked_up found_by
  present_is f = rw (looked_up, ended) (found_in_lem f e.at (entries_in d (within v any) n))

  gathered_is : fields_in d (within v any) n ≡ set_of numbers
  unfolding fields_in fields_on
  gathered_is = rw (fields_in, ended)

  pub has_present : (f : ℕ) → is_field f ≡ true → has_field (fields_in d (within v any) n) f ≡ is_present d v n f
  has_present f z =
      ap (λ (s : List ℕ). has_field s f) (gathered_is ∙ sym (set_is numbers are_fields))
      ∙ has_set numbers f are_fields z
      ∙ sym (present_is f)

-- tests that agree on fields have the same first field missing
pub same_missing : (p q : ℕ → Bool) → ((f : ℕ) → is_field f ≡ true → p f ≡ q f) → (fs : List ℕ) → all is_field fs ≡ true → first_missing p fs ≡ first_missing q fs
unfolding first_missing
same_missing p q same [] a = refl
same_missing p q same (f ∷ fs) a =
    rw (same f (both_left (is_field f) (all is_field fs) a), same_missing p q same fs (both_right (is_field f) (all is_field fs) a))
