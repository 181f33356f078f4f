-- The statements of specs/Trips.antt. Assumes nothing.
use Prim.Native.Nat.{ℕ, ◌≤◌, ◌<◌}
use mathlib.Core.Path.{◌≡◌, refl, sym, ap, ◌∙◌}
use mathlib.Core.List.{List, [], ◌++◌, append-nil}
use native.Mathlib.Omega.{arith}
use lib.Dec.{leb}
use lib.ListN.{length, take, drop, take-append-drop}
use lib.Seq.{take_at, drop_at, take-length}
use borrow.Author.Tests.{le-leb, lt-leb, leb-true}
use Rattle.std.specs.Prelude.{Ok, Err}
use Rattle.octets.specs.Lists.{lay}
use Rattle.octets.proofs.Cases.{by_bool}
use Rattle.refusal.specs.Numbers.{output_too_short}
use Rattle.refusal.specs.Refusals.{plain}
use Rattle.refusal.specs.declared.Refusal.{Refusal}
use Rattle.field_table.specs.Table.{Table, Small}
use Rattle.field_table.specs.House.{house}
use Rattle.field_table.proofs.Rows.{house_small}
use Rattle.message_language.specs.Language.{Reading, Begins}
use Rattle.message_contents.specs.Contents.{contents_in}
use Rattle.refusal.proofs.Results.{by_result, never, same_ok}
use Rattle.packed_field.specs.declared.Script.{Script}
use Rattle.packed_field.specs.declared.Script.TheVariants.{Plain, Packed}
use Rattle.packed_field.specs.Scripts.{other}
use Rattle.packed_link.specs.declared.Translated.{Translated}
use Rattle.packed_link.specs.Link.{translated, link_judged, link_carried, link_answer, link_output}
use Rattle.packed_language.specs.Packed.{AllDigits, Parts, IsMessage, plain_bytes, packed_bytes, Starts}
use Rattle.packed_language.proofs.Plain.{plain_message, plain_contents, all_digits, saying, saying_is, saying_bytes, saying_reading}
use Rattle.packed_trips.specs.Trips.{says, form_of, Links, Packs, Returns, Leaves, HouseLinks}
use Rattle.packed_trips.proofs.Forms.{bytes_in, plain_is, packed_is, shorter_form}
use Rattle.packed_trips.proofs.Messages.{sound, judged_good, carried_is, one_message}

-- An answer is what was judged, and room.
module _ (S : Script) (t : Table) (m : ℕ) (s out : List ℕ) where
  answered : (u w : ℕ) → link_judged S t m s ≡ Ok (translated u w) → w ≤ length out → link_answer S t m s out ≡ Ok (translated u w)
  unfolding link_answer
  answered u w e h = rw (link_answer, e, le-leb w (length out) h)

  done_output : (u w : ℕ) → link_answer S t m s out ≡ Ok (translated u w) → link_output S t m s out ≡ lay (link_carried S t m s) out
  unfolding link_output
  done_output u w e = rw (link_output, e)

  kept : (r : Refusal) → link_answer S t m s out ≡ Err r → link_output S t m s out ≡ out
  unfolding link_output
  kept r e = rw (link_output, e)

  record Judging (u w : ℕ) : Type 0 where
    good : link_judged S t m s ≡ Ok (translated u w)
    room : w ≤ length out

  judging : (u w : ℕ) → link_answer S t m s out ≡ Ok (translated u w) → Judging u w
  unfolding link_answer
  judging u w e =
      by_result (link_judged S t m s)
      (λ r h. never r (rw (link_answer, h)) e)
      (λ d h. by_bool (leb d.written (length out))
      (λ y.
      let i : d ≡ translated u w = same_ok (sym (rw (link_answer, h, y)) ∙ e) in
      record { good = h ∙ ap Ok i; room = rw (← ap (λ (x : Translated). x.written) i) (leb-true d.written (length out) y) })
      (λ n. never (plain output_too_short) (rw (link_answer, h, n)) e))

-- What is accepted, over the script.
record Accepted (S : Script) (t : Table) (m : ℕ) (s out : List ℕ) (u w : ℕ) : Type 0 where
  parts : Parts
  is : IsMessage t m parts
  after : List ℕ
  joined : s ≡ bytes_in S t parts ++ after
  long : length (bytes_in S t parts) ≡ u
  written : w ≡ length (bytes_in (other S) t parts)
  output : link_output S t m s out ≡ lay (bytes_in (other S) t parts) out
  room : w ≤ length out

accepted : (S : Script) (t : Table) → Small t → (m : ℕ) → 2 ≤ m → (s out : List ℕ) (u w : ℕ) → link_answer S t m s out ≡ Ok (translated u w) → Accepted S t m s out u w
accepted S t small m least s out u w e =
    let j = judging S t m s out u w e in
    let c = sound S t small m least s u w j.good in
    record {
      parts = c.0;
      is = c.1.is;
      after = c.1.after;
      joined = c.1.joined;
      long = c.1.long;
      written = c.1.written;
      output = done_output S t m s out u w e ∙ ap (λ (l : List ℕ). lay l out) c.1.output;
      room = j.room;
    }

module _ (S : Script) (t : Table) (m : ℕ) (p : Parts) (is : IsMessage t m p) (s after out : List ℕ) (j : s ≡ bytes_in S t p ++ after) where
  accepts : length (bytes_in (other S) t p) ≤ length out → link_answer S t m s out ≡ Ok (translated (length (bytes_in S t p)) (length (bytes_in (other S) t p)))
  accepts room = answered S t m s out _ _ (judged_good S t m p is s after j) room

  outputs : length (bytes_in (other S) t p) ≤ length out → link_output S t m s out ≡ lay (bytes_in (other S) t p) out
  outputs room = done_output S t m s out _ _ (accepts room) ∙ ap (λ (l : List ℕ). lay l out) (carried_is S t m p is s after j)

  refuses : length out < length (bytes_in (other S) t p) → link_answer S t m s out ≡ Err (plain output_too_short)
  unfolding link_answer
  refuses short = rw (link_answer, judged_good S t m p is s after j, lt-leb (length (bytes_in (other S) t p)) (length out) short)

-- the form of the language is that over the script
form_is : (S : Script) (t : Table) (p : Parts) → bytes_in S t p ≡ form_of S t p
form_is Plain t p = plain_is t p
form_is Packed t p = packed_is t p

begun : (S : Script) (t : Table) (p : Parts) (s : List ℕ) (u : ℕ) (st : Starts s (form_of S t p) u) → s ≡ bytes_in S t p ++ st.after
begun S t p s u st = st.joined ∙ ap (λ (x : List ℕ). x ++ st.after) (sym (form_is S t p))

module _ (t : Table) (small : Small t) (m : ℕ) (least : 2 ≤ m) where
  pub links : (S : Script) → Links S t m
  links S =
      record {
        only_messages = λ s out u w e.
            let a = accepted S t small m least s out u w e in
            let p = a.parts in (
              p,
              record {
                is = a.is;
                starts = record { after = a.after; joined = a.joined ∙ ap (λ (x : List ℕ). x ++ a.after) (form_is S t p); long = ap length (sym (form_is S t p)) ∙ a.long };
                written = a.written ∙ ap length (form_is (other S) t p);
                output = a.output ∙ ap (λ (l : List ℕ). lay l out) (form_is (other S) t p);
              },
            );
        all_messages = λ s out u p is st room.
            let j = begun S t p s u st in
            let f = form_is (other S) t p in
            let r : length (bytes_in (other S) t p) ≤ length out = rw f room in (
              accepts S t m p is s st.after out j r ∙ (λ i. Ok (translated ((ap length (form_is S t p) ∙ st.long) i) (ap length f i))),
              record { is = is; starts = st; written = refl; output = outputs S t m p is s st.after out j r ∙ ap (λ (l : List ℕ). lay l out) f },
            );
        no_room = λ s out u p is st short. refuses S t m p is s st.after out (begun S t p s u st) (rw (form_is (other S) t p) short);
        one_message = λ s u v p q ip iq sp sq.
            let e = one_message S t m p q ip iq s sp.after sq.after (begun S t p s u sp) (begun S t q s v sq) in
            (e, sym sp.long ∙ ap (λ (x : Parts). length (form_of S t x)) e ∙ sq.long);
      }

  -- the message at the front of an input, and what it says
  module _ (s : List ℕ) (u : ℕ) (r : Reading) (b : Begins t m s u r) (dg : AllDigits t (contents_in s r.entries)) where
    there : AllDigits t (contents_in (b.message ++ b.after) r.entries)
    there = rw (← b.joined) dg

    p : Parts
    p = saying t m b.message b.after r b.is there

    said : IsMessage t m p × Starts s (plain_bytes t p) u × (says t p ≡ r) × (p.contents ≡ contents_in s r.entries)
    unfolding p saying
    said =
        let y : plain_bytes t p ≡ b.message = saying_bytes t m b.message b.after r b.is there in (
          saying_is t m b.message b.after r b.is there,
          record { after = b.after; joined = b.joined ∙ ap (λ (x : List ℕ). x ++ b.after) (sym y); long = ap length y ∙ b.long },
          saying_reading t m b.message b.after r b.is there,
          ap (λ (x : List ℕ). contents_in x r.entries) (sym b.joined),
        )

  pub packs : Packs t m
  packs =
      record {
        plain_is_message = λ p is. plain_message t m p is;
        plain_contents = λ p after is. plain_contents t m p is after;
        plain_digits = λ p is. all_digits t is.allowed;
        message_says = λ s u r b dg. (p s u r b dg, said s u r b dg);
        never_longer = λ p. shorter_form t p;
      }

  -- there and back, over the script
  back : (S : Script) → other (other S) ≡ S → (s out home : List ℕ) (u w : ℕ) → link_answer S t m s out ≡ Ok (translated u w) → u ≤ length home
      → (link_answer (other S) t m (take w (link_output S t m s out)) home ≡ Ok (translated w u)) × (link_output (other S) t m (take w (link_output S t m s out)) home ≡ lay (take u s) home)
  unfolding lay
  back S twice s out home u w e room =
      let a = accepted S t small m least s out u w e in
      let p = a.parts in
      let x = bytes_in (other S) t p in
      let y = bytes_in S t p in
      let sent : take w (link_output S t m s out) ≡ x = ap (take w) a.output ∙ take_at x (drop (length x) out) w (sym a.written) in
      let z : bytes_in (other (other S)) t p ≡ y = ap (λ (q : Script). bytes_in q t p) twice in
      let n : length (bytes_in (other (other S)) t p) ≡ u = ap length z ∙ a.long in
      let j : take w (link_output S t m s out) ≡ x ++ [] = sent ∙ sym (append-nil x) in
      let r : length (bytes_in (other (other S)) t p) ≤ length home = rw n room in
      let front : take u s ≡ y = ap (take u) a.joined ∙ take_at y a.after u a.long in (
        accepts (other S) t m p a.is (take w (link_output S t m s out)) [] home j r ∙ (λ i. Ok (translated (sym a.written i) (n i))),
        outputs (other S) t m p a.is (take w (link_output S t m s out)) [] home j r ∙ ap (λ (l : List ℕ). lay l home) (z ∙ sym front),
      )

  round : (S : Script) (s out home : List ℕ) (u w : ℕ) → link_answer S t m s out ≡ Ok (translated u w) → u ≤ length home
      → (link_answer (other S) t m (take w (link_output S t m s out)) home ≡ Ok (translated w u)) × (link_output (other S) t m (take w (link_output S t m s out)) home ≡ lay (take u s) home)
  round Plain = back Plain refl
  round Packed = back Packed refl

  pub returns : Returns t m
  returns =
      record {
        message_returns = λ bs out home r is dg room wide.
            let b : Begins t m bs (length bs) r = record { message = bs; after = []; joined = sym (append-nil bs); long = refl; is = is } in
            let q = said bs (length bs) r b dg in
            let v = p bs (length bs) r b dg in
            let fits : length (packed_bytes t v) ≤ length out = omega (arith, shorter_form t v, q.1.long, room) in
            let e = ((links Plain).all_messages bs out (length bs) v q.0 q.1 fits).0 in
            let h = (round Plain bs out home (length bs) (length (packed_bytes t v)) e wide).1 in
            (length (packed_bytes t v), (e, h ∙ ap (λ (l : List ℕ). lay l home) (take-length bs)));
        accepted_returns = round;
      }

  pub leaves : Leaves t m
  unfolding lay
  leaves =
      record {
        only_used = λ S s q out u w e same.
            let a = accepted S t small m least s out u w e in
            let y = bytes_in S t a.parts in
            let f : take u q ≡ y = same ∙ ap (take u) a.joined ∙ take_at y a.after u a.long in
            let j : q ≡ y ++ drop u q = sym (take-append-drop u q) ∙ ap (λ (l : List ℕ). l ++ drop u q) f in
            let r : length (bytes_in (other S) t a.parts) ≤ length out = rw (← a.written) a.room in
            (accepts S t m a.parts a.is q (drop u q) out j r ∙ (λ i. Ok (translated (a.long i) (sym a.written i))), outputs S t m a.parts a.is q (drop u q) out j r ∙ sym a.output);
        only_written = λ S s out u w e.
            let a = accepted S t small m least s out u w e in
            let x = bytes_in (other S) t a.parts in
            (a.room, ap (drop w) a.output ∙ drop_at x (drop (length x) out) w (sym a.written) ∙ ap (λ (n : ℕ). drop n out) (sym a.written));
        refusal_leaves = λ S s out r e. kept S t m s out r e;
      }

-- Of the house table.
pub house_links : HouseLinks
house_links =
    record {
      packing = links house house_small 3 (omega arith) Plain;
      unpacking = links house house_small 3 (omega arith) Packed;
      packs = packs house house_small 3 (omega arith);
      returns = returns house house_small 3 (omega arith);
      leaves = leaves house house_small 3 (omega arith);
    }
