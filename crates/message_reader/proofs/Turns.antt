-- The loop that reads the fields fs of the message s, on plain values: the first is at start, the loop has come to the place at and to
-- number i of the list. Assumes nothing.
use Prim.Native.Nat.{ℕ, ◌+◌, ◌-◌, ◌≤◌, ◌<◌}
use mathlib.Core.Path.{◌≡◌, refl, sym, ap, ◌∙◌}
use mathlib.Core.List.{List, [], ◌∷◌}
use native.Mathlib.Omega.{arith}
use lib.ListN.{length, take, drop, get_or, length-drop, drop_of_length-le}
use lib.Seq.{drop-cons, drop-drop}
use native.Mathlib.Numerals.{add-one}
use Rattle.std.specs.Prelude.{Result, Ok, Err}
use Rattle.octets.proofs.Parts.{to_end}
use Rattle.refusal.specs.Refusals.{refusal}
use Rattle.refusal.specs.declared.Cause.{Cause}
use Rattle.refusal.specs.declared.Refusal.{Refusal}
use Rattle.field_table.specs.Table.{Table}
use Rattle.field_read.specs.Items.{content_at, read_field}
use Rattle.field_read.specs.declared.Content.{Content}
use Rattle.message_reader.specs.Reader.{read_fields}
use Rattle.message_reader.proofs.Fields.{fields_refused, fields_read, read_within}

-- A turn for the field f: read at the place `at`, it gives o.
pub record Met (t : Table) (s fs : List ℕ) (at i f : ℕ) (o : Result Content Cause) : Type 0 where
  pub here : drop i fs ≡ f ∷ drop (i + 1) fs
  pub gives : o ≡ read_field t f (drop at s)

pub met : (t : Table) (s fs : List ℕ) (at i f : ℕ) (o : Result Content Cause) → i < length fs → f ≡ get_or fs i 0
    → o ≡ read_field t f (take (length s - at) (drop at s)) → Met t s fs at i f o
met t s fs at i f o low e r =
    record { here = rw (e, add-one) (drop-cons fs i 0 low); gives = r ∙ ap (read_field t f) (to_end at s) }

-- `read_fields`: reading from the start is reading what is left from where the loop has come to.
pub record Scanned (t : Table) (s fs : List ℕ) (start at i : ℕ) : Type 0 where
  pub inside : at ≤ length s
  pub whole : read_fields t start fs (drop start s) ≡ read_fields t at (drop i fs) (drop at s)

pub scan_first : {t : Table} {s fs : List ℕ} {start : ℕ} → start ≤ length s → Scanned t s fs start start 0
scan_first h = record { inside = h; whole = refl }

module _ {t : Table} {s fs : List ℕ} {start at i : ℕ} (c : Scanned t s fs start at i) where
  pub scan_end : length fs ≤ i → read_fields t at [] (drop at s) ≡ read_fields t start fs (drop start s)
  scan_end h = sym (c.whole ∙ rw (drop_of_length-le fs h))

  module _ {f : ℕ} {o : Result Content Cause} (k : Met t s fs at i f o) where
    begins : read_fields t start fs (drop start s) ≡ read_fields t at (f ∷ drop (i + 1) fs) (drop at s)
    begins = c.whole ∙ ap (λ (l : List ℕ). read_fields t at l (drop at s)) k.here

    pub scan_refused : {n : Cause} {r : Refusal} → o ≡ Err n → r ≡ refusal n f at → Err r ≡ read_fields t start fs (drop start s)
    scan_refused is e = ap Err e ∙ sym (begins ∙ fields_refused t at f (drop (i + 1) fs) (drop at s) _ (sym k.gives ∙ is))

    module _ {a n : ℕ} (is : o ≡ Ok (content_at a n)) where
      pub scan_within : at + (a + n) ≤ length s
      scan_within = omega (arith, read_within t f (drop at s) a n (sym k.gives ∙ is), length-drop at s, c.inside)

      pub scan_read : Scanned t s fs start (at + (a + n)) (i + 1)
      scan_read =
          record {
            inside = scan_within;
            whole =
                begins ∙ fields_read t at f (drop (i + 1) fs) (drop at s) a n (sym k.gives ∙ is)
                ∙ ap (read_fields t (at + (a + n)) (drop (i + 1) fs)) (drop-drop (a + n) at s);
          }
