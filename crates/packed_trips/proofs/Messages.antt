-- A whole message: what is judged good is the form of what a message says, and that form is judged good, whatever follows. Assumes nothing.
use Prim.Native.Nat.{ℕ, ◌+◌, ◌*◌, ◌≤◌}
use mathlib.Core.Path.{◌≡◌, refl, sym, ap, ◌∙◌}
use mathlib.Core.Bool.{true}
use mathlib.Core.List.{List, ◌++◌, append_assoc}
use native.Mathlib.Omega.{arith}
use lib.ListN.{length, take, drop, length-append, length-drop, take-append-drop}
use lib.Seq.{length-take-le, take_at, drop_at, drop-drop}
use Rattle.std.specs.Prelude.{Ok}
use Rattle.field_table.specs.Table.{Table, Small}
use Rattle.bitmap.specs.Bitmaps.{count_of, fields_of}
use Rattle.bitmap_read.specs.Found.{maps_of}
use Rattle.message_contents.specs.Contents.{numbers_in}
use Rattle.refusal.proofs.Results.{by_result, never}
use Rattle.packed_field.specs.declared.Script.{Script}
use Rattle.packed_field.specs.Scripts.{other, size_of, is_spelt, digits_of, spelt_in, carried}
use Rattle.packed_field.proofs.Scripts.{digits_long, digits_are, spelt_again, spelling_long, spelling_good, spelling_back}
use Rattle.packed_link.specs.Link.{translated, link_head, fields_judged, body_judged, body_carried, link_judged, link_carried}
use Rattle.packed_link.proofs.Fields.{carried_counted}
use Rattle.packed_link.proofs.Heads.{Headed, head_found, head_reads}
use Rattle.packed_language.specs.Packed.{Parts, IsMessage}
use Rattle.packed_trips.proofs.Forms.{fields_in, bytes_in}
use Rattle.packed_trips.proofs.Fields.{contents_read, Taken, taken, Given, given}

-- what an input with k bitmaps says
unfoldable pub parts_read : Script → Table → List ℕ → ℕ → Parts
parts_read S t s k =
    record {
      mti = digits_of S 4 (take (size_of S 4) s);
      maps = maps_of (size_of S 4) s k;
      contents = contents_read S t (fields_of (maps_of (size_of S 4) s k) k) (drop (size_of S 4 + 8 * k) s);
    }

-- the parts of an input behind a good head
module _ (S : Script) (s : List ℕ) (k : ℕ) (long : size_of S 4 + 8 * k ≤ length s) where
  abbrev a : ℕ
  a = size_of S 4

  pub maps_long : length (maps_of a s k) ≡ 8 * k
  unfolding maps_of
  maps_long = length-take-le (8 * k) (drop a s) (omega (arith, length-drop a s))

  pub head_parts : s ≡ take a s ++ (maps_of a s k ++ drop (a + 8 * k) s)
  unfolding maps_of
  head_parts = sym (rw (← drop-drop (8 * k) a s, take-append-drop (8 * k) (drop a s)) (take-append-drop a s))

bytes_long : (S : Script) (t : Table) (p : Parts) → length p.mti ≡ 4 → length (bytes_in S t p) ≡ size_of S 4 + (length p.maps + length (fields_in S t p.contents))
unfolding bytes_in
bytes_long S t p four =
    length-append (spelt_in S p.mti) (p.maps ++ fields_in S t p.contents)
    ∙ omega (arith, length-append p.maps (fields_in S t p.contents), spelling_long S p.mti, ap (size_of S) four)

-- Sound.
pub record Carried (S : Script) (t : Table) (m : ℕ) (s : List ℕ) (u w : ℕ) (p : Parts) : Type 0 where
  pub is : IsMessage t m p
  pub after : List ℕ
  pub joined : s ≡ bytes_in S t p ++ after
  pub long : length (bytes_in S t p) ≡ u
  pub written : w ≡ length (bytes_in (other S) t p)
  pub output : link_carried S t m s ≡ bytes_in (other S) t p

module _ (S : Script) (t : Table) (small : Small t) (m : ℕ) (least : 2 ≤ m) (s : List ℕ) (u w k : ℕ) (head : link_head S m s ≡ Ok k) (good : body_judged S t s k ≡ Ok (translated u w)) where
  abbrev b : ℕ
  b = size_of S 4

  abbrev h : Headed S m s k
  h = head_found S m s k least head

  abbrev rest : List ℕ
  rest = drop (b + 8 * k) s

  abbrev fs : List ℕ
  fs = fields_of (maps_of b s k) k

  judged : fields_judged S t (b + 8 * k) (size_of (other S) 4 + 8 * k) fs rest ≡ Ok (translated u w)
  unfolding body_judged
  judged = good

  abbrev q : Taken S t (b + 8 * k) fs rest u (contents_read S t fs rest)
  q = taken S t small (b + 8 * k) (size_of (other S) 4 + 8 * k) fs rest u w judged

  abbrev p : Parts
  p = parts_read S t s k

  carried_good : Carried S t m s u w p
  unfolding parts_read bytes_in link_carried body_carried carried
  carried_good =
      let four = digits_long S 4 (take b s) h.mti in
      let ml = maps_long S s k h.maps.long in
      let c : k ≡ count_of (maps_of b s k) = h.maps.chained in
      let again : spelt_in S (digits_of S 4 (take b s)) ≡ take b s = spelt_again S 4 (take b s) h.mti in
      record {
        is =
            record {
              four = four;
              digits = digits_are S 4 (take b s) h.mti;
              whole = ml ∙ ap (λ (n : ℕ). 8 * n) c;
              few = rw (← c) h.maps.few;
              named = q.numbers ∙ ap (fields_of (maps_of b s k)) c;
              allowed = q.allowed;
            };
        after = q.after;
        joined =
            head_parts S s k h.maps.long
            ∙ ap (λ (l : List ℕ). take b s ++ (maps_of b s k ++ l)) q.joined
            ∙ ap (λ (l : List ℕ). l ++ (maps_of b s k ++ (fields_in S t (contents_read S t fs rest) ++ q.after))) (sym again)
            ∙ simp append_assoc;
        long = bytes_long S t p four ∙ omega (arith, ml, q.long);
        written =
            carried_counted S t (b + 8 * k) (size_of (other S) 4 + 8 * k) fs rest (translated u w) judged
            ∙ omega (arith, ap length q.across, ml, bytes_long (other S) t p four);
        output = rw (link_carried, head) (ap (λ (l : List ℕ). spelt_in (other S) (digits_of S 4 (take b s)) ++ (maps_of b s k ++ l)) q.across);
      }

pub sound : (S : Script) (t : Table) → Small t → (m : ℕ) → 2 ≤ m → (s : List ℕ) (u w : ℕ) → link_judged S t m s ≡ Ok (translated u w) → ((p : Parts) × Carried S t m s u w p)
unfolding link_judged
sound S t small m least s u w e =
    by_result (link_head S m s)
    (λ r h. never r (rw (link_judged, h)) e)
    (λ k h. (parts_read S t s k, carried_good S t small m least s u w k h (sym (rw (link_judged, h)) ∙ e)))

-- Complete.
module _ (S : Script) (t : Table) (m : ℕ) (p : Parts) (is : IsMessage t m p) (s after : List ℕ) (joined : s ≡ bytes_in S t p ++ after) where
  abbrev k : ℕ
  k = count_of p.maps

  abbrev d : ℕ
  d = size_of S 4

  mti_long : length (spelt_in S p.mti) ≡ d
  mti_long = spelling_long S p.mti ∙ ap (size_of S) is.four

  apart : s ≡ spelt_in S p.mti ++ (p.maps ++ (fields_in S t p.contents ++ after))
  unfolding bytes_in
  apart = joined ∙ simp append_assoc

  mti_is : take d s ≡ spelt_in S p.mti
  mti_is = ap (take d) apart ∙ take_at (spelt_in S p.mti) (p.maps ++ (fields_in S t p.contents ++ after)) d mti_long

  from_maps : drop d s ≡ p.maps ++ (fields_in S t p.contents ++ after)
  from_maps = ap (drop d) apart ∙ drop_at (spelt_in S p.mti) (p.maps ++ (fields_in S t p.contents ++ after)) d mti_long

  maps_are : maps_of d s k ≡ p.maps
  unfolding maps_of
  maps_are = ap (take (8 * k)) from_maps ∙ take_at p.maps (fields_in S t p.contents ++ after) (8 * k) is.whole

  rest_is : drop (d + 8 * k) s ≡ fields_in S t p.contents ++ after
  rest_is = sym (drop-drop (8 * k) d s) ∙ ap (drop (8 * k)) from_maps ∙ drop_at p.maps (fields_in S t p.contents ++ after) (8 * k) is.whole

  spelt_mti : is_spelt S 4 (take d s) ≡ true
  spelt_mti = rw (mti_is, ← is.four) (spelling_good S p.mti is.digits)

  mti_back : digits_of S 4 (take d s) ≡ p.mti
  mti_back = rw (mti_is, ← is.four) (spelling_back S p.mti is.digits)

  headed : Headed S m s k
  headed =
      record {
        mti = spelt_mti;
        maps =
            record {
              chained = rw maps_are refl;
              long = omega (arith, ap length joined ∙ length-append (bytes_in S t p) after, bytes_long S t p is.four, is.whole);
              few = is.few;
            };
      }

  pub head_is : link_head S m s ≡ Ok k
  head_is = head_reads S m s k headed

  abbrev g : Given S t (d + 8 * k) (size_of (other S) 4 + 8 * k) p.contents after
  g = given S t is.allowed (d + 8 * k) (size_of (other S) 4 + 8 * k) after

  named : fields_of (maps_of d s k) k ≡ numbers_in p.contents
  named = ap (λ (l : List ℕ). fields_of l k) maps_are ∙ sym is.named

  pub judged_good : link_judged S t m s ≡ Ok (translated (length (bytes_in S t p)) (length (bytes_in (other S) t p)))
  unfolding link_judged body_judged
  judged_good =
      let x : d + 8 * k + length (fields_in S t p.contents) ≡ length (bytes_in S t p) = omega (arith, bytes_long S t p is.four, is.whole) in
      let y : size_of (other S) 4 + 8 * k + length (fields_in (other S) t p.contents) ≡ length (bytes_in (other S) t p) = omega (arith, bytes_long (other S) t p is.four, is.whole) in
      rw (link_judged, head_is, named, rest_is) (g.answer ∙ (λ i. Ok (translated (x i) (y i))))

  pub carried_is : link_carried S t m s ≡ bytes_in (other S) t p
  unfolding link_carried body_carried bytes_in carried
  carried_is = rw (link_carried, head_is, mti_back, named, maps_are, rest_is) (ap (λ (l : List ℕ). spelt_in (other S) p.mti ++ (p.maps ++ l)) g.across)

  pub said_again : parts_read S t s k ≡ p
  unfolding parts_read
  said_again =
      let c : contents_read S t (fields_of (maps_of d s k) k) (drop (d + 8 * k) s) ≡ p.contents = rw (named, rest_is) g.read in
      λ i. record { mti = mti_back i; maps = maps_are i; contents = c i }

-- Unique.
pub one_message : (S : Script) (t : Table) (m : ℕ) (p q : Parts) → IsMessage t m p → IsMessage t m q → (s a b : List ℕ) → s ≡ bytes_in S t p ++ a → s ≡ bytes_in S t q ++ b → p ≡ q
one_message S t m p q ip iq s a b jp jq =
    let e : Ok (count_of p.maps) ≡ Ok (count_of q.maps) = sym (head_is S t m p ip s a jp) ∙ head_is S t m q iq s b jq in
    let k : count_of p.maps ≡ count_of q.maps = cc in
    sym (said_again S t m p ip s a jp) ∙ ap (parts_read S t s) k ∙ said_again S t m q iq s b jq
