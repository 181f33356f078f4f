-- Two readings with the same notes are one reading. Assumes nothing.
use Prim.Native.Nat.{ℕ, ◌<◌}
use mathlib.Core.Path.{◌≡◌, refl, sym, ap, ◌∙◌}
use mathlib.Core.List.{List, [], ◌∷◌, ◌++◌, append_assoc, append-nil}
use native.Mathlib.Omega.{arith}
use lib.ListN.{length, take, drop}
use lib.Seq.{take_at, drop_at}
use Rattle.octets.specs.Numbers.{big_endian, big_endian_of}
use Rattle.octets.proofs.Numbers.{number_digits}
use Rattle.message_language.specs.Language.{Entry, Reading}
use Rattle.message_notes.specs.declared.Note.{Note}
use Rattle.message_notes.specs.declared.Note.TheVariants.{Field, End}
use Rattle.message_notes.specs.Dialect.{Form, note_size, end_kind}
use Rattle.message_notes.specs.Notes.{head_note, field_note, end_note, field_notes, notes_of, note_at}
use Rattle.message_notes.proofs.Sizes.{bytes_long, field_long}
use Rattle.message_notes.proofs.Spelling.{Fits, AllFit}
use Rattle.message_notes.proofs.Reading.{field_back, end_back}

-- the same entries, and the same end
pub record SameNotes (es es' : List Entry) (u v : ℕ) : Type 0 where
  pub entries : es ≡ es'
  pub end : u ≡ v

never : (o : Note) (a b c u : ℕ) → o ≡ Field a b c → o ≡ End u → ⊥
never o a b c u p q = let z : ◌≡◌ {A = ℕ} 0 1 = cc in omega arith

-- the notes of fields, then the end, as reading one note after the other has them
module _ (F : Form) (apart : F.kind ≡ end_kind → ⊥) where
  behind : (e : Entry) (es : List Entry) (tail : List ℕ) → (field_note F e ++ field_notes F es) ++ tail ≡ field_note F e ++ (field_notes F es ++ tail)
  behind e es tail = append_assoc (field_note F e) (field_notes F es) tail

  first_note : (e : Entry) (es : List Entry) (u : ℕ) → Fits e → note_at F (field_notes F (e ∷ es) ++ end_note u) ≡ Field e.number e.offset e.size
  unfolding field_notes
  first_note e es u f = ap (note_at F) (behind e es (end_note u)) ∙ field_back F e (field_notes F es ++ end_note u) f

  rest_notes : (e : Entry) (es : List Entry) (u : ℕ) → drop (note_size F) (field_notes F (e ∷ es) ++ end_note u) ≡ field_notes F es ++ end_note u
  unfolding field_notes
  rest_notes e es u = ap (drop (note_size F)) (behind e es (end_note u)) ∙ drop_at (field_note F e) (field_notes F es ++ end_note u) (note_size F) (field_long F e)

  last_note : (u : ℕ) → u < 4294967296 → note_at F (field_notes F [] ++ end_note u) ≡ End u
  unfolding field_notes end_note
  last_note u h = ap (note_at F) (sym (append-nil (end_note u))) ∙ end_back F u [] apart h

  pub fields_apart : (es es' : List Entry) (u v : ℕ) → AllFit es → AllFit es' → u < 4294967296 → v < 4294967296
      → field_notes F es ++ end_note u ≡ field_notes F es' ++ end_note v → SameNotes es es' u v
  unfolding AllFit
  fields_apart [] [] u v a b hu hv e =
      let s : End u ≡ End v = sym (last_note u hu) ∙ ap (note_at F) e ∙ last_note v hv in
      record { entries = refl; end = cc }
  fields_apart [] (y ∷ es') u v a b hu hv e = absurd (never _ _ _ _ u (ap (note_at F) e ∙ first_note y es' v b.0) (last_note u hu))
  fields_apart (x ∷ es) [] u v a b hu hv e = absurd (never _ _ _ _ v (ap (note_at F) (sym e) ∙ first_note x es u a.0) (last_note v hv))
  fields_apart (x ∷ es) (y ∷ es') u v a b hu hv e =
      let f : Field x.number x.offset x.size ≡ Field y.number y.offset y.size = sym (first_note x es u a.0) ∙ ap (note_at F) e ∙ first_note y es' v b.0 in
      let n : x.number ≡ y.number = cc in
      let o : x.offset ≡ y.offset = cc in
      let z : x.size ≡ y.size = cc in
      let xy : x ≡ y = λ i. record { number = n i; offset = o i; size = z i } in
      let r = fields_apart es es' u v a.1 b.1 hu hv (sym (rest_notes x es u) ∙ ap (drop (note_size F)) e ∙ rest_notes y es' v) in
      record { entries = rw (xy, r.entries); end = r.end }

-- the head: four bytes and a count
module _ (mti mti' : List ℕ) (m m' : ℕ) (rest rest' : List ℕ) (four : length mti ≡ 4) (four' : length mti' ≡ 4)
    (same : head_note mti m ++ rest ≡ head_note mti' m' ++ rest') where
  body : mti ++ (big_endian 1 m ++ rest) ≡ mti' ++ (big_endian 1 m' ++ rest')
  unfolding head_note
  body = sym (append_assoc mti (big_endian 1 m) rest) ∙ ap (drop 1) same ∙ append_assoc mti' (big_endian 1 m') rest'

  pub same_mti : mti ≡ mti'
  same_mti = sym (take_at mti (big_endian 1 m ++ rest) 4 four) ∙ ap (take 4) body ∙ take_at mti' (big_endian 1 m' ++ rest') 4 four'

  counts : big_endian 1 m ++ rest ≡ big_endian 1 m' ++ rest'
  counts = sym (drop_at mti (big_endian 1 m ++ rest) 4 four) ∙ ap (drop 4) body ∙ drop_at mti' (big_endian 1 m' ++ rest') 4 four'

  pub same_count : m < 256 → m' < 256 → m ≡ m'
  same_count h h' =
      let c : big_endian 1 m ≡ big_endian 1 m' = sym (take_at (big_endian 1 m) rest 1 (one m)) ∙ ap (take 1) counts ∙ take_at (big_endian 1 m') rest' 1 (one m') in
      sym (number_digits 256 0 1 m (omega arith) h) ∙ ap big_endian_of c ∙ number_digits 256 0 1 m' (omega arith) h'
    where
      one : (n : ℕ) → length (big_endian 1 n) ≡ 1
      one n = bytes_long 1 n

  pub same_rest : rest ≡ rest'
  same_rest = sym (drop_at (big_endian 1 m) rest 1 (bytes_long 1 m)) ∙ ap (drop 1) counts ∙ drop_at (big_endian 1 m') rest' 1 (bytes_long 1 m')

pub notes_apart : (F : Form) (r q : Reading) (u v : ℕ) → (F.kind ≡ end_kind → ⊥) → length r.mti ≡ 4 → length q.mti ≡ 4 → r.count < 256 → q.count < 256
    → AllFit r.entries → AllFit q.entries → u < 4294967296 → v < 4294967296 → notes_of F r u ≡ notes_of F q v → (r ≡ q) × (u ≡ v)
unfolding notes_of
notes_apart F r q u v apart l l' c c' a a' hu hv e =
    let s = same_rest r.mti q.mti r.count q.count _ _ l l' e in
    let t = fields_apart F apart r.entries q.entries u v a a' hu hv s in
    let m = same_mti r.mti q.mti r.count q.count _ _ l l' e in
    let k = same_count r.mti q.mti r.count q.count _ _ l l' e c c' in
    ((λ i. record { mti = m i; count = k i; entries = t.entries i }), t.end)
