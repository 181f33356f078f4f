-- The fields, one after the other: what is judged good is the form of allowed contents, and that form is judged good, whatever follows.
-- Assumes nothing.
use Prim.Native.Nat.{ℕ, ◌+◌}
use mathlib.Core.Path.{◌≡◌, refl, sym, ap, ◌∙◌}
use mathlib.Core.List.{List, [], ◌∷◌, ◌++◌, append_assoc}
use native.Mathlib.Omega.{arith}
use lib.ListN.{length, take, drop, length-append}
use Rattle.std.specs.Prelude.{Ok, Err}
use Rattle.octets.specs.Numbers.{decimal}
use Rattle.refusal.specs.Refusals.{refusal}
use Rattle.field_table.specs.Table.{Table, Small}
use Rattle.message_contents.specs.Contents.{Content, content, numbers_in}
use Rattle.packed_field.specs.declared.Script.{Script}
use Rattle.packed_field.specs.declared.Item.{Item}
use Rattle.packed_field.specs.Scripts.{other, size_of, spelt_in}
use Rattle.packed_field.specs.Items.{content_size, item_at, judge_item}
use Rattle.packed_link.specs.declared.Translated.{Translated}
use Rattle.packed_link.specs.Link.{translated, item_carried, fields_judged, fields_carried}
use Rattle.packed_link.proofs.Fields.{fields_refused, fields_good, carried_good}
use Rattle.refusal.proofs.Results.{by_result, never, same_ok}
use Rattle.packed_language.specs.Packed.{Allowed, AllAllowed, none, more}
use Rattle.packed_trips.proofs.Forms.{content_in, fields_in}
use Rattle.packed_trips.proofs.Items.{length_sized, content_sized, content_out, item_found, item_across, item_read, item_behind, item_allowed, item_form, item_out, item_takes}

-- the contents that are read
unfoldable pub contents_read : Script → Table → List ℕ → List ℕ → List Content
contents_read S t [] s = []
contents_read S t (f ∷ fs) s =
    elim (judge_item S t f s) [
      | Err c ↦ []
      | Ok i ↦ content f (content_out S (t.class f) i.count (take i.size (drop i.start s))) ∷ contents_read S t fs (drop (i.start + i.size) s)
    ]

contents_good : (S : Script) (t : Table) (f : ℕ) (fs s : List ℕ) (i : Item) → judge_item S t f s ≡ Ok i
    → contents_read S t (f ∷ fs) s ≡ content f (content_out S (t.class f) i.count (take i.size (drop i.start s))) ∷ contents_read S t fs (drop (i.start + i.size) s)
unfolding contents_read
contents_good S t f fs s i e = rw (contents_read, e)

-- Sound.
pub record Taken (S : Script) (t : Table) (at : ℕ) (fs s : List ℕ) (u : ℕ) (cs : List Content) : Type 0 where
  pub numbers : numbers_in cs ≡ fs
  pub allowed : AllAllowed t cs
  pub after : List ℕ
  pub joined : s ≡ fields_in S t cs ++ after
  pub long : at + length (fields_in S t cs) ≡ u
  pub across : fields_carried S t fs s ≡ fields_in (other S) t cs

regroup : (a b c d : List ℕ) → a ++ (b ++ (c ++ d)) ≡ (a ++ (b ++ c)) ++ d
regroup a b c d = sym (append_assoc a (b ++ c) d ∙ ap (λ (l : List ℕ). a ++ l) (append_assoc b c d))

taken_more : (S : Script) (t : Table) → Small t → (at f : ℕ) (fs s : List ℕ) (u : ℕ) (i : Item) (cs : List Content) → judge_item S t f s ≡ Ok i
    → Taken S t (at + (i.start + i.size)) fs (drop (i.start + i.size) s) u cs → Taken S t at (f ∷ fs) s u (content f (content_out S (t.class f) i.count (take i.size (drop i.start s))) ∷ cs)
unfolding numbers_in fields_in
taken_more S t small at f fs s u i cs e r =
    let c = content_out S (t.class f) i.count (take i.size (drop i.start s)) in
    let A = spelt_in S (decimal (t.width f) (length c)) in
    let B = content_in S (t.class f) c in
    let A' = spelt_in (other S) (decimal (t.width f) (length c)) in
    let B' = content_in (other S) (t.class f) c in
    let long : length (A ++ (B ++ fields_in S t cs)) ≡ i.start + i.size + length (fields_in S t cs) =
    ap length (sym (append_assoc A B (fields_in S t cs))) ∙ length-append (A ++ B) (fields_in S t cs) ∙ ap (λ (x : ℕ). x + length (fields_in S t cs)) (item_takes S t small f s i.start i.count i.size i.carried e) in
    record {
      numbers = ap (λ (l : List ℕ). f ∷ l) r.numbers;
      allowed = more {c = content f c} {cs = cs} (item_allowed S t small f s i.start i.count i.size i.carried e) r.allowed;
      after = r.after;
      joined = item_form S t small f s i.start i.count i.size i.carried e ∙ ap (λ (l : List ℕ). A ++ (B ++ l)) r.joined ∙ regroup A B (fields_in S t cs) r.after;
      long = omega (arith, long, r.long);
      across =
          carried_good S t f fs s i e
          ∙ ap (λ (l : List ℕ). l ++ fields_carried S t fs (drop (i.start + i.size) s)) (item_out S t small f s i.start i.count i.size i.carried e)
          ∙ ap (λ (l : List ℕ). (A' ++ B') ++ l) r.across
          ∙ append_assoc A' B' (fields_in (other S) t cs);
    }

taken_none : (S : Script) (t : Table) (at w : ℕ) (s : List ℕ) (u v : ℕ) → fields_judged S t at w [] s ≡ Ok (translated u v) → Taken S t at [] s u []
unfolding fields_judged fields_carried numbers_in fields_in
taken_none S t at w s u v e =
    let z : at ≡ u = ap (λ (x : Translated). x.used) (same_ok e) in
    record { numbers = refl; allowed = none; after = s; joined = refl; long = omega arith; across = refl }

pub taken : (S : Script) (t : Table) → Small t → (at w : ℕ) (fs s : List ℕ) (u v : ℕ) → fields_judged S t at w fs s ≡ Ok (translated u v) → Taken S t at fs s u (contents_read S t fs s)
unfolding contents_read
taken S t small at w [] s u v e = taken_none S t at w s u v e
taken S t small at w (f ∷ fs) s u v e =
    by_result (judge_item S t f s)
    (λ c r. never (refusal c f at) (fields_refused S t f fs s at w c r) e)
    (λ i r.
    rw (contents_good S t f fs s i r)
    (taken_more S t small at f fs s u i (contents_read S t fs (drop (i.start + i.size) s)) r (taken S t small (at + (i.start + i.size)) (w + i.carried) fs (drop (i.start + i.size) s) u v (sym (fields_good S t f fs s i r at w) ∙ e))))

-- Complete.
pub record Given (S : Script) (t : Table) (at w : ℕ) (cs : List Content) (after : List ℕ) : Type 0 where
  pub answer : fields_judged S t at w (numbers_in cs) (fields_in S t cs ++ after) ≡ Ok (translated (at + length (fields_in S t cs)) (w + length (fields_in (other S) t cs)))
  pub read : contents_read S t (numbers_in cs) (fields_in S t cs ++ after) ≡ cs
  pub across : fields_carried S t (numbers_in cs) (fields_in S t cs ++ after) ≡ fields_in (other S) t cs

given_none : (S : Script) (t : Table) (at w : ℕ) (after : List ℕ) → Given S t at w [] after
unfolding fields_judged contents_read fields_carried numbers_in fields_in
given_none S t at w after =
    let a : at ≡ at + 0 = omega arith in
    let b : w ≡ w + 0 = omega arith in
    record { answer = λ i. Ok (translated (a i) (b i)); read = refl; across = refl }

field_long : (S : Script) (t : Table) (f : ℕ) (c : List ℕ) (rest : List ℕ)
    → length (spelt_in S (decimal (t.width f) (length c)) ++ (content_in S (t.class f) c ++ rest)) ≡ size_of S (t.width f) + content_size S (t.class f) (length c) + length rest
field_long S t f c rest =
    length-append (spelt_in S (decimal (t.width f) (length c))) (content_in S (t.class f) c ++ rest)
    ∙ omega (arith, length-append (content_in S (t.class f) c) rest, length_sized S (t.width f) (length c), content_sized S (t.class f) c)

given_more : (S : Script) (t : Table) (at w : ℕ) (c : Content) (cs : List Content) (after : List ℕ) → Allowed t c.number c.bytes
    → Given S t (at + (size_of S (t.width c.number) + content_size S (t.class c.number) (length c.bytes))) (w + (size_of (other S) (t.width c.number) + content_size (other S) (t.class c.number) (length c.bytes))) cs after
    → Given S t at w (c ∷ cs) after
unfolding numbers_in fields_in
given_more S t at w c cs after al r =
    let f = c.number in
    let b = c.bytes in
    let A = spelt_in S (decimal (t.width f) (length b)) in
    let B = content_in S (t.class f) b in
    let rest = fields_in S t cs ++ after in
    let s = A ++ (B ++ rest) in
    let a = size_of S (t.width f) in
    let k = content_size S (t.class f) (length b) in
    let j = size_of (other S) (t.width f) + content_size (other S) (t.class f) (length b) in
    let whole : (A ++ (B ++ fields_in S t cs)) ++ after ≡ s = sym (regroup A B (fields_in S t cs) after) in
    let e = item_found S t f b rest al in
    let d : drop (a + k) s ≡ rest = item_behind S t f b rest al in
    let u : at + (a + k) + length (fields_in S t cs) ≡ at + length (A ++ (B ++ fields_in S t cs)) = omega (arith, field_long S t f b (fields_in S t cs)) in
    let v : w + j + length (fields_in (other S) t cs) ≡ w + length (spelt_in (other S) (decimal (t.width f) (length b)) ++ (content_in (other S) (t.class f) b ++ fields_in (other S) t cs)) =
    omega (arith, field_long (other S) t f b (fields_in (other S) t cs)) in
    record {
      answer = rw whole (fields_good S t f (numbers_in cs) s (item_at a (length b) k j) e at w ∙ rw d (r.answer ∙ (λ i. Ok (translated (u i) (v i)))));
      read =
          rw whole
          (contents_good S t f (numbers_in cs) s (item_at a (length b) k j) e ∙ rw d (ap (λ (l : List Content). content f (content_out S (t.class f) (length b) (take k (drop a s))) ∷ l) r.read)
          ∙ ap (λ (l : List ℕ). content f l ∷ cs) (item_read S t f b rest al));
      across =
          rw whole
          (carried_good S t f (numbers_in cs) s (item_at a (length b) k j) e ∙ rw d
          (ap (λ (l : List ℕ). item_carried S t f a (length b) k s ++ l) r.across
          ∙ ap (λ (l : List ℕ). l ++ fields_in (other S) t cs) (item_across S t f b rest al)
          ∙ append_assoc (spelt_in (other S) (decimal (t.width f) (length b))) (content_in (other S) (t.class f) b) (fields_in (other S) t cs)));
    }

pub given : (S : Script) (t : Table) {cs : List Content} → AllAllowed t cs → (at w : ℕ) (after : List ℕ) → Given S t at w cs after
given S t none at w after = given_none S t at w after
given S t (more {c = c} {cs = cs} al k) at w after =
    given_more S t at w c cs after al
    (given S t k (at + (size_of S (t.width c.number) + content_size S (t.class c.number) (length c.bytes))) (w + (size_of (other S) (t.width c.number) + content_size (other S) (t.class c.number) (length c.bytes))) after)
