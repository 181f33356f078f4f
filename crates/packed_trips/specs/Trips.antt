-- What the packed link does, in the terms of the two languages: it accepts exactly the inputs that begin with a message, writes the same message
-- in the other form, and the trip there and back returns every byte used. Proved in proofs/Trips.antt for every small table (`Small` of
-- field_table/specs/Table.antt) and at most m bitmaps, m two or more; said of the house table and three.
--
--   says t p                   == the reading of the plain form of what p says: its MTI, its count of bitmaps, and where its contents stand
--   Carries S t m s out u w p  == p is what the message at the front of the input s says, u bytes long in the script S, and the w bytes of its
--                           other form stand over the front of the output out afterwards
--   form_of S t p              == the bytes of p in the script S: `plain_bytes` or `packed_bytes` (packed_language/specs/Packed.antt)
--   Links S t m                == of the way out of the script S: it accepts exactly the inputs that begin with a message in S, and carries it over
--   Packs t m                  == of packing, in the terms of demand 3's language, `Message t m bs r`, `Begins t m s u r`
--   Returns t m                == of the trip, either way round
--   Leaves t m                 == what it neither looks at nor touches
--   HouseLinks                 == all of it, of the house table and three bitmaps
--
-- Assumes nothing: these are definitions and statements.
use Rattle.std.specs.Prelude.{ℕ, ◌≤◌, ◌<◌, ◌≡◌, List, ◌++◌, length, take, drop, Ok, Err}
use Rattle.octets.specs.Lists.{lay}
use Rattle.refusal.specs.Numbers.{output_too_short}
use Rattle.refusal.specs.Refusals.{plain}
use Rattle.refusal.specs.declared.Refusal.{Refusal}
use Rattle.field_table.specs.Table.{Table}
use Rattle.field_table.specs.House.{house}
use Rattle.bitmap.specs.Bitmaps.{count_of}
use Rattle.message_language.specs.Language.{Reading, Message, Begins}
use Rattle.message_contents.specs.Contents.{contents_in, reading_of}
use Rattle.packed_field.specs.declared.Script.{Script}
use Rattle.packed_field.specs.declared.Script.TheVariants.{Plain, Packed}
use Rattle.packed_field.specs.Scripts.{other}
use Rattle.packed_link.specs.Link.{translated, link_answer, link_output}
use Rattle.packed_language.specs.Packed.{AllDigits, Parts, IsMessage, plain_bytes, packed_bytes, Starts}

abbrev pub says : Table → Parts → Reading
says t p = reading_of t p.mti (count_of p.maps) p.contents

abbrev pub form_of : Script → Table → Parts → List ℕ
form_of Plain t p = plain_bytes t p
form_of Packed t p = packed_bytes t p

pub record Carries (S : Script) (t : Table) (m : ℕ) (s out : List ℕ) (u w : ℕ) (p : Parts) : Type 0 where
  pub is : IsMessage t m p
  pub starts : Starts s (form_of S t p) u
  pub written : w ≡ length (form_of (other S) t p)
  pub output : link_output S t m s out ≡ lay (form_of (other S) t p) out

pub record Links (S : Script) (t : Table) (m : ℕ) : Type 0 where
  -- What is accepted begins with a message in this script, and its other form is written.
  pub only_messages : (s out : List ℕ) (u w : ℕ) → link_answer S t m s out ≡ Ok (translated u w) → ((p : Parts) × Carries S t m s out u w p)
  -- An input that begins with a message is accepted where its other form fits, and carried over; else it is 14.
  pub all_messages :
      (s out : List ℕ) (u : ℕ) (p : Parts) →
      IsMessage t m p →
      Starts s (form_of S t p) u →
      length (form_of (other S) t p) ≤ length out →
      (link_answer S t m s out ≡ Ok (translated u (length (form_of (other S) t p)))) × Carries S t m s out u (length (form_of (other S) t p)) p
  pub no_room :
      (s out : List ℕ) (u : ℕ) (p : Parts) →
      IsMessage t m p →
      Starts s (form_of S t p) u →
      length out < length (form_of (other S) t p) →
      link_answer S t m s out ≡ Err (plain output_too_short)
  -- Only one message in this script begins an input, and it says one thing.
  pub one_message :
      (s : List ℕ) (u v : ℕ) (p q : Parts) →
      IsMessage t m p →
      IsMessage t m q →
      Starts s (form_of S t p) u →
      Starts s (form_of S t q) v →
      (p ≡ q) × (u ≡ v)

pub record Packs (t : Table) (m : ℕ) : Type 0 where
  -- The plain form of what a message says is a message of demand 3's language, with the same MTI, bitmaps and contents, whatever follows it.
  pub plain_is_message : (p : Parts) → IsMessage t m p → Message t m (plain_bytes t p) (says t p)
  pub plain_contents : (p : Parts) (after : List ℕ) → IsMessage t m p → contents_in (plain_bytes t p ++ after) (says t p).entries ≡ p.contents
  pub plain_digits : (p : Parts) → IsMessage t m p → AllDigits t p.contents
  -- And a message of demand 3's language whose n contents are digits is the plain form of what it says.
  pub message_says :
      (s : List ℕ) (u : ℕ) (r : Reading) →
      Begins t m s u r →
      AllDigits t (contents_in s r.entries) →
      ((p : Parts) × (IsMessage t m p × Starts s (plain_bytes t p) u × (says t p ≡ r) × (p.contents ≡ contents_in s r.entries)))
  -- The packed form is never longer.
  pub never_longer : (p : Parts) → length (packed_bytes t p) ≤ length (plain_bytes t p)

-- 02: "A plain message that demand 3's language holds, with digits in all `n` fields, returns unchanged from the trip; so does the used part of
-- any accepted packed one." What the first way wrote is handed to the second.
pub record Returns (t : Table) (m : ℕ) : Type 0 where
  pub message_returns :
      (bs out back : List ℕ) (r : Reading) →
      Message t m bs r →
      AllDigits t (contents_in bs r.entries) →
      length bs ≤ length out →
      length bs ≤ length back →
      ((w : ℕ) × ((link_answer Plain t m bs out ≡ Ok (translated (length bs) w)) × (link_output Packed t m (take w (link_output Plain t m bs out)) back ≡ lay bs back)))
  pub accepted_returns :
      (S : Script) (s out back : List ℕ) (u w : ℕ) →
      link_answer S t m s out ≡ Ok (translated u w) →
      u ≤ length back →
      (link_answer (other S) t m (take w (link_output S t m s out)) back ≡ Ok (translated w u)) × (link_output (other S) t m (take w (link_output S t m s out)) back ≡ lay (take u s) back)

pub record Leaves (t : Table) (m : ℕ) : Type 0 where
  pub only_used :
      (S : Script) (s q out : List ℕ) (u w : ℕ) →
      link_answer S t m s out ≡ Ok (translated u w) →
      take u q ≡ take u s →
      (link_answer S t m q out ≡ Ok (translated u w)) × (link_output S t m q out ≡ link_output S t m s out)
  pub only_written : (S : Script) (s out : List ℕ) (u w : ℕ) → link_answer S t m s out ≡ Ok (translated u w) → (w ≤ length out) × (drop w (link_output S t m s out) ≡ drop w out)
  pub refusal_leaves : (S : Script) (s out : List ℕ) (r : Refusal) → link_answer S t m s out ≡ Err r → link_output S t m s out ≡ out

pub record HouseLinks : Type 0 where
  pub packing : Links Plain house 3
  pub unpacking : Links Packed house 3
  pub packs : Packs house 3
  pub returns : Returns house 3
  pub leaves : Leaves house 3
