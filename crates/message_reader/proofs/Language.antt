-- The reader accepts exactly the inputs that begin with a message of the language, and there is one such message with one reading.
-- Assumes nothing.
use Prim.Native.Nat.{ℕ, ◌+◌, ◌*◌, ◌≤◌}
use mathlib.Core.Path.{◌≡◌, refl, sym, ap, ◌∙◌}
use mathlib.Core.List.{List, ◌++◌, append_assoc}
use native.Mathlib.Omega.{arith}
use lib.ListN.{length, take, drop, length-append, length-drop, take-append-drop}
use lib.Seq.{length-take-le, take_at, drop_at, drop-drop}
use Rattle.std.specs.Prelude.{Result, Ok, Err}
use Rattle.refusal.specs.declared.Refusal.{Refusal}
use Rattle.bitmap.specs.Bitmaps.{fields_of}
use Rattle.bitmap_read.specs.Found.{maps_of}
use Rattle.field_table.specs.Table.{Table}
use Rattle.message_language.specs.Language.{Reading, Message, Begins}
use Rattle.message_notes.specs.Dialect.{Dialect, Sound}
use Rattle.message_reader.specs.declared.Accepted.{Accepted}
use Rattle.message_reader.specs.Reader.{acceptance, head_read, entries_of, read_body, read_message, reading_with}
use Rattle.refusal.proofs.Results.{by_result, never, same_ok}
use Rattle.message_reader.proofs.Heads.{Headed, head_found, head_reads}
use Rattle.message_reader.proofs.Fields.{taken, Given, given}

-- the answer, by its two parts
pub message_head_refused : (t : Table) (m : ℕ) (s : List ℕ) (r : Refusal) → head_read m s ≡ Err r → read_message t m s ≡ Err r
unfolding read_message
message_head_refused t m s r e = rw (read_message, e)

module _ (t : Table) (m : ℕ) (s : List ℕ) (k : ℕ) (head : head_read m s ≡ Ok k) where
  pub message_refused : (r : Refusal) → read_body t s k ≡ Err r → read_message t m s ≡ Err r
  unfolding read_message
  message_refused r e = rw (read_message, head, e)

  pub message_read : (u : ℕ) → read_body t s k ≡ Ok u → read_message t m s ≡ Ok (acceptance u k)
  unfolding read_message
  message_read u e = rw (read_message, head, e)

-- what an acceptance says of the parts
pub record Parts (t : Table) (m : ℕ) (s : List ℕ) (u k : ℕ) : Type 0 where
  pub head : head_read m s ≡ Ok k
  pub body : read_body t s k ≡ Ok u

same_acceptance : {u k v l : ℕ} → ◌≡◌ {A = Result Accepted Refusal} (Ok (acceptance v l)) (Ok (acceptance u k)) → (v ≡ u) × (l ≡ k)
same_acceptance e = (ap (λ (x : Accepted). x.used) (same_ok e), ap (λ (x : Accepted). x.bitmaps) (same_ok e))

pub parts_of : (t : Table) (m : ℕ) (s : List ℕ) (u k : ℕ) → read_message t m s ≡ Ok (acceptance u k) → Parts t m s u k
parts_of t m s u k e =
    by_result (head_read m s)
    (λ r h. never r (message_head_refused t m s r h) e)
    (λ l h. by_result (read_body t s l)
    (λ r b. never r (message_refused t m s l h r b) e)
    (λ v b.
    let same = same_acceptance (sym (message_read t m s l h v b) ∙ e) in
    record { head = h ∙ ap Ok same.1; body = rw (← same.1) (b ∙ ap Ok same.0) }))

-- the head's bytes, and what follows
module _ (s : List ℕ) (k : ℕ) (long : 4 + 8 * k ≤ length s) where
  abbrev rest : List ℕ
  rest = drop (4 + 8 * k) s

  pub maps_long : length (maps_of 4 s k) ≡ 8 * k
  unfolding maps_of
  maps_long = length-take-le (8 * k) (drop 4 s) (omega (arith, length-drop 4 s))

  pub mti_long : length (take 4 s) ≡ 4
  mti_long = length-take-le 4 s (omega arith)

  pub head_parts : s ≡ take 4 s ++ (maps_of 4 s k ++ rest)
  unfolding maps_of
  head_parts = sym (rw (← drop-drop (8 * k) 4 s, take-append-drop (8 * k) (drop 4 s)) (take-append-drop 4 s))

-- Sound: an accepted input begins with a message that has the reading that the notes spell.
pub accepts : (d : Dialect) → Sound d → (s : List ℕ) (u k : ℕ) → read_message d.table d.most s ≡ Ok (acceptance u k)
    → Begins d.table d.most s u (reading_with d.table s k)
unfolding read_body reading_with
accepts d sound s u k e =
    let p = parts_of d.table d.most s u k e in
    let h = head_found d.most s k sound.least p.head in
    let l = h.maps.long in
    let b = taken d.table (4 + 8 * k) (fields_of (maps_of 4 s k) k) (drop (4 + 8 * k) s) u p.body in
    record {
      message = take 4 s ++ (maps_of 4 s k ++ b.body);
      after = b.after;
      joined = head_parts s k l ∙ ap (λ (x : List ℕ). take 4 s ++ (maps_of 4 s k ++ x)) b.joined ∙ simp append_assoc;
      long =
          omega (
            arith,
            length-append (take 4 s) (maps_of 4 s k ++ b.body),
            length-append (maps_of 4 s k) b.body,
            maps_long s k l,
            mti_long s k l,
            b.long,
          );
      is =
          record {
            four = mti_long s k l;
            digits = h.digits;
            maps = maps_of 4 s k;
            chained = h.maps.chained;
            whole = maps_long s k l;
            few = h.maps.few;
            body = b.body;
            spelt = refl;
            fields = b.fields;
          };
    }

-- Complete: an input that begins with a message is accepted, with that message's length and reading.
module _ (d : Dialect) (s : List ℕ) (u : ℕ) (r : Reading) (b : Begins d.table d.most s u r) where
  abbrev M : Message d.table d.most b.message r
  M = b.is

  joined : s ≡ r.mti ++ (M.maps ++ (M.body ++ b.after))
  joined = b.joined ∙ ap (λ (l : List ℕ). l ++ b.after) M.spelt ∙ simp append_assoc

  mti_is : take 4 s ≡ r.mti
  mti_is = ap (take 4) joined ∙ (take_at r.mti (M.maps ++ (M.body ++ b.after)) 4 M.four)

  from_4 : drop 4 s ≡ M.maps ++ (M.body ++ b.after)
  from_4 = ap (drop 4) joined ∙ (drop_at r.mti (M.maps ++ (M.body ++ b.after)) 4 M.four)

  maps_are : maps_of 4 s r.count ≡ M.maps
  unfolding maps_of
  maps_are = ap (take (8 * r.count)) from_4 ∙ (take_at M.maps (M.body ++ b.after) (8 * r.count) M.whole)

  rest_is : drop (4 + 8 * r.count) s ≡ M.body ++ b.after
  rest_is = sym (drop-drop (8 * r.count) 4 s) ∙ ap (drop (8 * r.count)) from_4 ∙ (drop_at M.maps (M.body ++ b.after) (8 * r.count) M.whole)

  message_long : length b.message ≡ 4 + (8 * r.count + length M.body)
  message_long =
      ap length M.spelt
      ∙ omega (arith, length-append r.mti (M.maps ++ M.body), length-append M.maps M.body, M.four, M.whole)

  headed : Headed d.most s r.count
  headed =
      record {
        digits = rw mti_is M.digits;
        maps =
            record {
              chained = rw maps_are M.chained;
              long = omega (arith, ap length b.joined ∙ length-append b.message b.after, message_long);
              few = M.few;
            };
      }

  is_given : Given d.table (4 + 8 * r.count) (fields_of M.maps r.count) M.body b.after r.entries
  is_given = given d.table M.fields b.after

  used_is : 4 + 8 * r.count + length M.body ≡ u
  used_is = omega (arith, message_long, b.long)

  pub accepted : read_message d.table d.most s ≡ Ok (acceptance u r.count)
  unfolding read_body
  accepted =
      message_read d.table d.most s r.count (head_reads d.most s r.count headed) u
      (rw (maps_are, rest_is) (is_given.answer ∙ ap Ok used_is))

  entries_are : entries_of d.table (4 + 8 * r.count) (fields_of (maps_of 4 s r.count) r.count) (drop (4 + 8 * r.count) s) ≡ r.entries
  entries_are = rw (maps_are, rest_is) is_given.entries

  pub reading_is : reading_with d.table s r.count ≡ r
  unfolding reading_with
  reading_is = λ i. record { mti = mti_is i; count = r.count; entries = entries_are i }

-- Unique: one message of the language begins an input, and it has one reading.
module _ (d : Dialect) (s : List ℕ) (u u' : ℕ) (r r' : Reading) (b : Begins d.table d.most s u r) (b' : Begins d.table d.most s u' r') where
  both_accepted : (u ≡ u') × (r.count ≡ r'.count)
  both_accepted = same_acceptance (sym (accepted d s u r b) ∙ accepted d s u' r' b')

  pub one_length : u ≡ u'
  one_length = both_accepted.0

  one_count : r.count ≡ r'.count
  one_count = both_accepted.1

  pub one_reading : r ≡ r'
  one_reading = sym (reading_is d s u r b) ∙ rw one_count (reading_is d s u' r' b')

  pub one_message : b.message ≡ b'.message
  one_message =
      let e : take u s ≡ b.message = ap (take u) b.joined ∙ (take_at b.message b.after u b.long) in
      let e' : take u' s ≡ b'.message = ap (take u') b'.joined ∙ (take_at b'.message b'.after u' b'.long) in
      sym e ∙ ap (λ (n : ℕ). take n s) one_length ∙ e'
