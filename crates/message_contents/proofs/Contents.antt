-- Fields with contents that the exact writer takes, their numbers rising, make a message, and the contents stand in it where its reading
-- says. Assumes nothing.
use Prim.Native.Nat.{ℕ, ◌+◌, ◌*◌, ◌≤◌}
use mathlib.Core.Path.{◌≡◌, refl, ap, ◌∙◌}
use mathlib.Core.Bool.{true}
use mathlib.Core.List.{List, [], ◌∷◌, ◌++◌, append_assoc}
use native.Mathlib.Omega.{arith}
use lib.ListN.{length, length-append}
use Rattle.octets.specs.Lists.{all}
use Rattle.octets.specs.Numbers.{is_digit, decimal}
use Rattle.octets.proofs.Numbers.{digits_length}
use Rattle.refusal.specs.Refusals.{good}
use Rattle.field_table.specs.Table.{Table, Small}
use Rattle.field_write.specs.Fields.{exact_fault}
use Rattle.message_language.specs.Language.{Item, Entry, entry, Fields, none as no_fields_lem, more as more_fields, Message}
use Rattle.message_contents.specs.Contents.{Content, content, content_of, contents_in, numbers_of, numbers_in, number_allowed, spelt, bitmaps_with, message_with, standing, reading_of}
use Rattle.message_contents.proofs.Items.{content_at, item}
use Rattle.message_contents.proofs.Made.{Rising, end, next, ordered, all_fields, maps_whole, maps_count, maps_fields}

pub data Taken (t : Table) (m : ℕ) : ℕ → List Content → Type 0 where
  none : {last : ℕ} → Taken t m last []
  more : {last f : ℕ} {c : List ℕ} {cs : List Content} → number_allowed m last f ≡ true → exact_fault t f c ≡ good → Taken t m f cs → Taken t m last (content f c ∷ cs)

one_field : (t : Table) (at f w : ℕ) (fs ds c rest : List ℕ) (es : List Entry) → length ds ≡ w → Item t f ds c → Fields t (at + (w + length c)) fs rest es
    → Fields t at (f ∷ fs) (ds ++ (c ++ rest)) (entry f (at + w) (length c) ∷ es)
one_field t at f w fs ds c rest es d i x =
    rw (← d) (more_fields {at = at} {f = f} {fs = fs} {bs = ds ++ (c ++ rest)} {es = es} ds c rest i refl (rw d x))

content_there : (pre ds c rest v : List ℕ) (at w : ℕ) → length pre ≡ at → length ds ≡ w → v ≡ pre ++ (ds ++ (c ++ rest)) → content_of v (at + w) (length c) ≡ c
content_there pre ds c rest v at w l d e = rw (← d) (content_at pre ds c rest v at l e)

module _ (t : Table) (m : ℕ) where
  standing_numbers : (at : ℕ) (cs : List Content) → numbers_of (standing t at cs) ≡ numbers_in cs
  unfolding numbers_of standing numbers_in
  standing_numbers at [] = refl
  standing_numbers at (c ∷ cs) = ap (λ (l : List ℕ). c.number ∷ l) (standing_numbers (at + (t.width c.number + length c.bytes)) cs)

  risen : {last : ℕ} {cs : List Content} → Taken t m last cs → Rising m last (numbers_in cs)
  unfolding numbers_in
  risen none = end
  risen (more a e k) = next a (risen k)

  fields : Small t → {last : ℕ} {cs : List Content} → Taken t m last cs → (at : ℕ) → Fields t at (numbers_in cs) (spelt t cs) (standing t at cs)
  unfolding numbers_in spelt standing
  fields small none at = no_fields_lem
  fields small (more {f = f} {c = c} {cs = cs} a e k) at =
      one_field t at f (t.width f) (numbers_in cs) (decimal (t.width f) (length c)) c (spelt t cs) (standing t (at + (t.width f + length c)) cs)
      (digits_length 10 48 (t.width f) (length c)) (item t small f c e) (fields small k (at + (t.width f + length c)))

  -- in an input v where they stand at the place at, behind pre and before post
  stand : {last : ℕ} {cs : List Content} → Taken t m last cs → (pre post v : List ℕ) (at : ℕ) → length pre ≡ at → v ≡ pre ++ (spelt t cs ++ post)
      → contents_in v (standing t at cs) ≡ cs
  unfolding contents_in spelt standing
  stand none pre post v at l e = refl
  stand (more {f = f} {c = c} {cs = cs} a x k) pre post v at l e =
      let ds = decimal (t.width f) (length c) in
      let d : length ds ≡ t.width f = digits_length 10 48 (t.width f) (length c) in
      let j : v ≡ pre ++ (ds ++ (c ++ (spelt t cs ++ post))) = e ∙ simp append_assoc in
      let q : length (pre ++ (ds ++ c)) ≡ at + (t.width f + length c) = omega (arith, length-append pre (ds ++ c), length-append ds c, l, d) in
      ap (λ (b : List ℕ). content f b ∷ contents_in v (standing t (at + (t.width f + length c)) cs))
      (content_there pre ds c (spelt t cs ++ post) v at (t.width f) l d j)
      ∙ ap (λ (x : List Content). content f c ∷ x) (stand k (pre ++ (ds ++ c)) post v (at + (t.width f + length c)) q (j ∙ simp append_assoc))

module _ (t : Table) (small : Small t) (mti : List ℕ) (m : ℕ) (cs : List Content) (four : length mti ≡ 4) (digits : all is_digit mti ≡ true)
    (least : 1 ≤ m) (most : m ≤ 3) (taken : Taken t m 0 cs) where
  abbrev maps : List ℕ
  maps = bitmaps_with m (numbers_in cs)

  rise : Rising m 0 (numbers_in cs)
  rise = risen t m taken

  whole : length maps ≡ 8 * m
  whole = maps_whole (numbers_in cs) m most (all_fields m rise)

  pub makes_message : (k : ℕ) → m ≤ k → Message t k (message_with t mti m cs) (reading_of t mti m cs)
  unfolding message_with
  makes_message k few =
      record {
        four = four;
        digits = digits;
        maps = maps;
        chained = maps_count (numbers_in cs) m most (all_fields m rise) least;
        whole = whole;
        few = few;
        body = spelt t cs;
        spelt = refl;
        fields = rw (maps_fields (numbers_in cs) m most (all_fields m rise) (ordered m rise)) (fields t m small taken (4 + 8 * m));
      }

  pub maps_are : (k : ℕ) (few : m ≤ k) → bitmaps_with m (numbers_of (standing t (4 + 8 * m) cs)) ≡ (makes_message k few).maps
  unfolding makes_message
  maps_are k few = ap (bitmaps_with m) (standing_numbers t m (4 + 8 * m) cs)

  pub contents_stand : (post : List ℕ) → contents_in (message_with t mti m cs ++ post) (standing t (4 + 8 * m) cs) ≡ cs
  unfolding message_with
  contents_stand post =
      stand t m taken (mti ++ maps) post (message_with t mti m cs ++ post) (4 + 8 * m) (length-append mti maps ∙ omega (arith, four, whole)) (simp append_assoc)
