-- Writing the fields that notes name, one behind the other, where every content may be written. Assumes nothing.
use Prim.Native.Nat.{ℕ, ◌+◌, ◌-◌, ◌≤◌}
use mathlib.Core.Path.{◌≡◌, sym, ap, subst, ◌∙◌}
use mathlib.Core.Bool.{cond}
use mathlib.Core.List.{List, [], ◌∷◌, ◌++◌}
use native.Mathlib.Omega.{arith}
use native.Mathlib.Nat.{add-sub_cancel_left}
use lib.Dec.{leb}
use lib.ListN.{length, take, drop, length-append}
use borrow.Rule.Slice.PartMut.{mid_of, put_mid}
use Rattle.octets.specs.Lists.{lay}
use Rattle.octets.proofs.Parts.{Written, written_none, written_more, written_end, written_room}
use Rattle.refusal.specs.Refusals.{good}
use Rattle.field_table.specs.Table.{Table}
use Rattle.field_table.proofs.Rows.{Bounded}
use Rattle.field_write.specs.Fields.{clean_fault, field_bytes, field_into, written_size, longest}
use Rattle.field_write.proofs.Allowed.{clean_passed}
use Rattle.field_write.proofs.Cleaned.{clean_size}
use Rattle.field_write.proofs.Padding.{into_fits}
use Rattle.message_language.specs.Language.{Entry, entry}
use Rattle.message_contents.specs.Contents.{content_of}
use Rattle.message_contents.proofs.Cleaning.{body_none, body_more}
use Rattle.message_notes.specs.Dialect.{dialect}
use Rattle.message_notes.specs.Notes.{count_in}
use Rattle.message_walk.specs.declared.Rule.TheVariants.{Clean}
use Rattle.message_walk.specs.Faults.{asked, fault_by}
use Rattle.message_walk.proofs.Naming.{AllGood, entries_good}
use Rattle.message_walk.proofs.Within.{is_inside}
use Rattle.message_write.specs.Written.{body_of, entries_by, size_in}
use Rattle.message_write.proofs.Weighing.{taken}

-- A field whose content the cleaning writer takes: where it lies, and what it takes.
pub record Taken (t : Table) (v : List ℕ) (f a z : ℕ) : Type 0 where
  pub place : a + z ≤ length v
  pub clean : clean_fault t f (content_of v a z) ≡ good
  pub sized : length (content_of v a z) ≡ z

is_taken : (t : Table) (v : List ℕ) (f a z : ℕ) → fault_by t v Clean (entry f a z) ≡ good → Taken t v f a z
unfolding fault_by asked
is_taken t v f a z h = let i = is_inside v (clean_fault t) (entry f a z) h in record { place = i.place; clean = i.fault; sized = i.sized }

taken_size : {t : Table} {v : List ℕ} {f a z : ℕ} → Bounded t → Taken t v f a z → length (field_bytes t f (content_of v a z)) ≡ taken t f z
taken_size {t} {v} {f} {a} {z} small k =
    sym (ap (λ (q : ℕ). cond (leb q longest) (written_size t f q) 0) (sym k.sized) ∙ clean_size t f (content_of v a z) small k.clean)

-- the size that was reckoned is the size of the bytes
pub body_size : (t : Table) (v : List ℕ) (m : ℕ) (es : List Entry) → Bounded t → AllGood (fault_by t v Clean) m es → size_in t es ≡ length (body_of t v es)
unfolding AllGood size_in body_of
body_size t v m [] small a = sym (ap length (body_none t v))
body_size t v m (e ∷ es) small a =
    let k = is_taken t v e.number e.offset e.size a.0.1.ruled in
    let b = field_bytes t e.number (content_of v e.offset e.size) in
    omega (
      arith,
      ap length (body_more t v e.number e.offset e.size es k.clean),
      length-append b (body_of t v es),
      taken_size small k,
      body_size t v m es small a.1,
    )

pub cleared : (t : Table) (v n : List ℕ) (es : List Entry) → es ≡ entries_by t v Clean n → AllGood (fault_by t v Clean) (count_in n) es
unfolding entries_by
cleared t v n es e = subst (AllGood (fault_by t v Clean) (count_in n)) (sym e) (entries_good (dialect t) (fault_by t v Clean) n)

-- `write_body`: d is the output where the loop began, o as it is now, w how much of it is written.
pub record Writing (t : Table) (v : List ℕ) (m : ℕ) (whole : List Entry) (d o : List ℕ) (w : ℕ) (es : List Entry) : Type 0 where
  pub good : AllGood (fault_by t v Clean) m es
  pub written : Written (body_of t v whole) d o (body_of t v es) w

module _ {t : Table} {v : List ℕ} {m : ℕ} {whole : List Entry} {d : List ℕ} where
  pub writing_first : AllGood (fault_by t v Clean) m whole → Writing t v m whole d d 0 whole
  writing_first a = record { good = a; written = written_none (body_of t v whole) d }

  module _ {o : List ℕ} {w : ℕ} where
    pub writing_done : Writing t v m whole d o w [] → o ≡ lay (body_of t v whole) d
    unfolding body_of
    writing_done c = (written_end (body_of t v whole) d o (body_of t v []) w c.written (body_none t v)).1

    module _ (small : Bounded t) {f a z : ℕ} {es : List Entry} (c : Writing t v m whole d o w (entry f a z ∷ es)) where
      pub writing_taken : Taken t v f a z
      unfolding AllGood
      writing_taken = is_taken t v f a z c.good.0.1.ruled

      abbrev bytes : List ℕ
      bytes = field_bytes t f (content_of v a z)

      more : body_of t v (entry f a z ∷ es) ≡ bytes ++ body_of t v es
      unfolding body_of
      more = body_more t v f a z es writing_taken.clean

      module _ {size : ℕ} (sized : size ≡ taken t f z) (room : length (body_of t v whole) ≤ length d) where
        pub writing_fits : w + size ≤ length o
        writing_fits =
            omega (
              arith,
              written_room (body_of t v whole) d o (body_of t v (entry f a z ∷ es)) w c.written,
              ap length more,
              length-append bytes (body_of t v es),
              taken_size small writing_taken,
              sized,
              c.written.size,
              room,
            )

        pub writing_more : {q : List ℕ} → q ≡ field_into t f (take (a + z - a) (drop a v)) (mid_of w (length o - w) o)
            → Writing t v m whole d (put_mid w (length o - w) o q) (w + size) es
        unfolding AllGood
        writing_more {q} h =
            record {
              good = c.good.1;
              written =
                  written_more (body_of t v whole) d o (body_of t v (entry f a z ∷ es)) bytes (body_of t v es) q w size c.written more
                  (taken_size small writing_taken ∙ sym sized) writing_fits
                  (h
                  ∙ ap (λ (x : ℕ). field_into t f (take x (drop a v)) (mid_of w (length o - w) o)) (add-sub_cancel_left a z)
                  ∙ into_fits t f (content_of v a z) (mid_of w (length o - w) o) (clean_passed t f (content_of v a z) writing_taken.clean).most);
            }
