-- The plain form of what a message says is a message of demand 3's language, and each such message whose n contents are digits is one.
-- Assumes nothing.
use Prim.Native.Nat.{ℕ, ◌+◌, ◌*◌}
use mathlib.Core.Path.{◌≡◌, refl, sym, ap, ◌∙◌}
use mathlib.Core.Bool.{true}
use mathlib.Core.List.{List, ◌∷◌, ◌++◌, append_assoc}
use native.Mathlib.Omega.{arith}
use lib.ListN.{length, length-append}
use Rattle.octets.specs.Lists.{all}
use Rattle.octets.specs.Numbers.{is_digit, decimal}
use Rattle.octets.proofs.Numbers.{digits_length}
use Rattle.field_table.specs.Table.{Table}
use Rattle.bitmap.specs.Bitmaps.{count_of, fields_of}
use Rattle.message_language.specs.Language.{Item, Entry, entry, Fields, none as no_fields_lem, more as more_fields, Reading, Message}
use Rattle.message_contents.specs.Contents.{Content, content, content_of, contents_in, numbers_in, spelt, standing, reading_of}
use Rattle.message_contents.proofs.Items.{content_at, digits_are}
use Rattle.packed_field.specs.Items.{is_numeric}
use Rattle.packed_language.specs.Packed.{AllAllowed, none, more, AllDigits, Parts, IsMessage, plain_bytes}

-- What is said makes a message.
one_field : (t : Table) (at f w : ℕ) (fs ds c rest : List ℕ) (es : List Entry) → length ds ≡ w → Item t f ds c → Fields t (at + (w + length c)) fs rest es
    → Fields t at (f ∷ fs) (ds ++ (c ++ rest)) (entry f (at + w) (length c) ∷ es)
one_field t at f w fs ds c rest es d i x =
    rw (← d) (more_fields {at = at} {f = f} {fs = fs} {bs = ds ++ (c ++ rest)} {es = es} ds c rest i refl (rw d x))

fields_of_lem : (t : Table) {cs : List Content} → AllAllowed t cs → (at : ℕ) → Fields t at (numbers_in cs) (spelt t cs) (standing t at cs)
unfolding numbers_in spelt standing
fields_of_lem t none at = no_fields_lem
fields_of_lem t (more {c = c} {cs = cs} a k) at =
    let w = t.width c.number in
    let n = length c.bytes in
    one_field t at c.number w (numbers_in cs) (decimal w n) c.bytes (spelt t cs) (standing t (at + (w + n)) cs) (digits_length 10 48 w n) a.item (fields_of_lem t k (at + (w + n)))

-- in bytes v where the fields stand at the place at, behind pre and before post
stand : (t : Table) {cs : List Content} → AllAllowed t cs → (pre post v : List ℕ) (at : ℕ) → length pre ≡ at → v ≡ pre ++ (spelt t cs ++ post) → contents_in v (standing t at cs) ≡ cs
unfolding contents_in spelt standing
stand t none pre post v at l e = refl
stand t (more {c = c} {cs = cs} a k) pre post v at l e =
    let w = t.width c.number in
    let n = length c.bytes in
    let ds = decimal w n in
    let d : length ds ≡ w = digits_length 10 48 w n in
    let j : v ≡ pre ++ (ds ++ (c.bytes ++ (spelt t cs ++ post))) = e ∙ simp append_assoc in
    let q : length (pre ++ (ds ++ c.bytes)) ≡ at + (w + n) = omega (arith, length-append pre (ds ++ c.bytes), length-append ds c.bytes, l, d) in
    let b : content_of v (at + w) n ≡ c.bytes = rw (← d) (content_at pre ds c.bytes (spelt t cs ++ post) v at l j) in
    ap (λ (x : List ℕ). content c.number x ∷ contents_in v (standing t (at + (w + n)) cs)) b
    ∙ ap (λ (x : List Content). c ∷ x) (stand t k (pre ++ (ds ++ c.bytes)) post v (at + (w + n)) q (j ∙ simp append_assoc))

pub all_digits : (t : Table) {cs : List Content} → AllAllowed t cs → AllDigits t cs
unfolding AllDigits
all_digits t none = tt
all_digits t (more a k) = (a.digits, all_digits t k)

module _ (t : Table) (m : ℕ) (p : Parts) (is : IsMessage t m p) where
  abbrev k : ℕ
  k = count_of p.maps

  pub plain_message : Message t m (plain_bytes t p) (reading_of t p.mti k p.contents)
  unfolding plain_bytes
  plain_message =
      record {
        four = is.four;
        digits = is.digits;
        maps = p.maps;
        chained = refl;
        whole = is.whole;
        few = is.few;
        body = spelt t p.contents;
        spelt = refl;
        fields = rw (← is.named) (fields_of_lem t is.allowed (4 + 8 * k));
      }

  pub plain_contents : (post : List ℕ) → contents_in (plain_bytes t p ++ post) (standing t (4 + 8 * k) p.contents) ≡ p.contents
  unfolding plain_bytes
  plain_contents post =
      stand t is.allowed (p.mti ++ p.maps) post (plain_bytes t p ++ post) (4 + 8 * k) (length-append p.mti p.maps ∙ omega (arith, is.four, is.whole)) (simp append_assoc)

-- And a message with digits in its n contents says so.
pub record Said (t : Table) (fs bs : List ℕ) (cs : List Content) : Type 0 where
  pub numbers : numbers_in cs ≡ fs
  pub bytes : spelt t cs ≡ bs
  pub allowed : AllAllowed t cs

said_more : (t : Table) (f : ℕ) (fs ds c rest d : List ℕ) (cs : List Content) → Item t f ds c → d ≡ c → (is_numeric (t.class f) ≡ true → all is_digit d ≡ true) → Said t fs rest cs
    → Said t (f ∷ fs) (ds ++ (c ++ rest)) (content f d ∷ cs)
unfolding numbers_in spelt
said_more t f fs ds c rest d cs i is g y =
    let e = digits_are t f ds c i in
    rw is
    record {
      numbers = ap (λ (l : List ℕ). f ∷ l) y.numbers;
      bytes = rw (e, y.bytes);
      allowed = more {c = content f c} {cs = cs} record { item = rw e i; digits = λ n. rw (← is) (g n) } y.allowed;
    }

said : (t : Table) {at : ℕ} {fs bs : List ℕ} {es : List Entry} → Fields t at fs bs es → (pre post v : List ℕ) → length pre ≡ at → v ≡ pre ++ (bs ++ post) → AllDigits t (contents_in v es) → Said t fs bs (contents_in v es)
unfolding contents_in numbers_in spelt AllDigits
said t no_fields_lem pre post v l e g = record { numbers = refl; bytes = refl; allowed = none }
said t {at} (more_fields {f = f} {fs = fs} {es = es} ds c rest i b x) pre post v l e g =
    let j : v ≡ pre ++ (ds ++ (c ++ (rest ++ post))) = e ∙ rw b (simp append_assoc) in
    let q : length (pre ++ (ds ++ c)) ≡ at + (length ds + length c) = omega (arith, length-append pre (ds ++ c), length-append ds c, l) in
    let h : content_of v (at + length ds) (length c) ≡ c = content_at pre ds c (rest ++ post) v at l j in
    rw b (said_more t f fs ds c rest (content_of v (at + length ds) (length c)) (contents_in v es) i h g.0 (said t x (pre ++ (ds ++ c)) post v q (j ∙ simp append_assoc) g.1))

stood_more : (t : Table) (at f : ℕ) (ds c d : List ℕ) (cs : List Content) (es : List Entry) → length ds ≡ t.width f → d ≡ c → standing t (at + (length ds + length c)) cs ≡ es
    → standing t at (content f d ∷ cs) ≡ entry f (at + length ds) (length c) ∷ es
unfolding standing
stood_more t at f ds c d cs es w is e = rw (is, ← w, e)

-- the contents of fields stand where the entries say
stood : (t : Table) {at : ℕ} {fs bs : List ℕ} {es : List Entry} → Fields t at fs bs es → (pre post v : List ℕ) → length pre ≡ at → v ≡ pre ++ (bs ++ post) → standing t at (contents_in v es) ≡ es
unfolding contents_in standing
stood t no_fields_lem pre post v l e = refl
stood t {at} (more_fields {f = f} {fs = fs} {es = es} ds c rest i b x) pre post v l e =
    let j : v ≡ pre ++ (ds ++ (c ++ (rest ++ post))) = e ∙ rw b (simp append_assoc) in
    let q : length (pre ++ (ds ++ c)) ≡ at + (length ds + length c) = omega (arith, length-append pre (ds ++ c), length-append ds c, l) in
    let h : content_of v (at + length ds) (length c) ≡ c = content_at pre ds c (rest ++ post) v at l j in
    stood_more t at f ds c (content_of v (at + length ds) (length c)) (contents_in v es) es i.width h (stood t x (pre ++ (ds ++ c)) post v q (j ∙ simp append_assoc))

-- m bitmaps at most, whatever follows
module _ (t : Table) (m : ℕ) (bs post : List ℕ) (r : Reading) (is : Message t m bs r) (digits : AllDigits t (contents_in (bs ++ post) r.entries)) where
  unfoldable pub saying : Parts
  saying = record { mti = r.mti; maps = is.maps; contents = contents_in (bs ++ post) r.entries }

  says : Said t (fields_of is.maps r.count) is.body (contents_in (bs ++ post) r.entries)
  says =
      said t is.fields (r.mti ++ is.maps) post (bs ++ post) (length-append r.mti is.maps ∙ omega (arith, is.four, is.whole))
      (ap (λ (l : List ℕ). l ++ post) is.spelt ∙ simp append_assoc) digits

  pub saying_is : IsMessage t m saying
  unfolding saying
  saying_is =
      record {
        four = is.four;
        digits = is.digits;
        whole = is.whole ∙ ap (λ (n : ℕ). 8 * n) is.chained;
        few = rw (← is.chained) is.few;
        named = says.numbers ∙ ap (fields_of is.maps) is.chained;
        allowed = says.allowed;
      }

  pub saying_bytes : plain_bytes t saying ≡ bs
  unfolding saying plain_bytes
  saying_bytes = ap (λ (l : List ℕ). r.mti ++ (is.maps ++ l)) says.bytes ∙ sym is.spelt

  -- and it reads as the message did
  pub saying_reading : reading_of t r.mti (count_of is.maps) (contents_in (bs ++ post) r.entries) ≡ r
  saying_reading =
      let e : standing t (4 + 8 * r.count) (contents_in (bs ++ post) r.entries) ≡ r.entries =
      stood t is.fields (r.mti ++ is.maps) post (bs ++ post) (length-append r.mti is.maps ∙ omega (arith, is.four, is.whole)) (ap (λ (l : List ℕ). l ++ post) is.spelt ∙ simp append_assoc) in
      ap (λ (k : ℕ). reading_of t r.mti k (contents_in (bs ++ post) r.entries)) (sym is.chained)
      ∙ (λ i. record { mti = r.mti; count = r.count; entries = e i })
