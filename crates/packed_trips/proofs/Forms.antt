-- The two forms of a message as one, over the script. Assumes nothing.
use Prim.Native.Nat.{ℕ, ◌≤◌}
use mathlib.Core.Path.{◌≡◌, refl, ap}
use mathlib.Core.Bool.{cond}
use mathlib.Core.List.{List, [], ◌∷◌, ◌++◌}
use native.Mathlib.Omega.{arith}
use lib.ListN.{length, length-append}
use Rattle.octets.specs.Numbers.{decimal}
use Rattle.octets.proofs.Cases.{by_bool}
use Rattle.field_table.specs.Table.{Table}
use Rattle.field_table.specs.declared.Class.{Class}
use Rattle.message_contents.specs.Contents.{Content, spelt}
use Rattle.packed_field.specs.declared.Script.{Script}
use Rattle.packed_field.specs.declared.Script.TheVariants.{Plain, Packed}
use Rattle.packed_field.specs.Scripts.{spelt_in}
use Rattle.packed_field.specs.Items.{is_numeric}
use Rattle.packed_field.proofs.Scripts.{spelling_long, size_most_lem}
use Rattle.packed_language.specs.Packed.{Parts, plain_bytes, packed_content, packed_fields, packed_bytes}

unfoldable pub content_in : Script → Class → List ℕ → List ℕ
content_in S c x = cond (is_numeric c) (spelt_in S x) x

unfoldable pub fields_in : Script → Table → List Content → List ℕ
fields_in S t [] = []
fields_in S t (c ∷ cs) =
    spelt_in S (decimal (t.width c.number) (length c.bytes)) ++ (content_in S (t.class c.number) c.bytes ++ fields_in S t cs)

unfoldable pub bytes_in : Script → Table → Parts → List ℕ
bytes_in S t p = spelt_in S p.mti ++ (p.maps ++ fields_in S t p.contents)

-- in the plain script they are the plain form, in the packed one the packed form
plain_content : (c : Class) (x : List ℕ) → content_in Plain c x ≡ x
unfolding content_in spelt_in
plain_content c x = by_bool (is_numeric c) (λ y. rw y) (λ z. rw z)

plain_fields : (t : Table) (cs : List Content) → fields_in Plain t cs ≡ spelt t cs
unfolding fields_in spelt spelt_in
plain_fields t [] = refl
plain_fields t (c ∷ cs) = rw (plain_content (t.class c.number) c.bytes, plain_fields t cs)

pub plain_is : (t : Table) (p : Parts) → bytes_in Plain t p ≡ plain_bytes t p
unfolding bytes_in plain_bytes spelt_in
plain_is t p = rw (plain_fields t p.contents)

packed_fields_lem : (t : Table) (cs : List Content) → fields_in Packed t cs ≡ packed_fields t cs
unfolding fields_in packed_fields content_in packed_content spelt_in
packed_fields_lem t [] = refl
packed_fields_lem t (c ∷ cs) = rw (packed_fields_lem t cs)

pub packed_is : (t : Table) (p : Parts) → bytes_in Packed t p ≡ packed_bytes t p
unfolding bytes_in packed_bytes spelt_in
packed_is t p = rw (packed_fields_lem t p.contents)

-- the packed form is never longer
shorter : (d : List ℕ) → length (spelt_in Packed d) ≤ length (spelt_in Plain d)
unfolding spelt_in
shorter d = omega (arith, spelling_long Packed d, size_most_lem Packed (length d))

content_shorter : (c : Class) (x : List ℕ) → length (content_in Packed c x) ≤ length (content_in Plain c x)
unfolding content_in
content_shorter c x = by_bool (is_numeric c) (λ y. rw y (shorter x)) (λ z. rw z (omega arith))

fields_shorter : (t : Table) (cs : List Content) → length (fields_in Packed t cs) ≤ length (fields_in Plain t cs)
unfolding fields_in
fields_shorter t [] = omega arith
fields_shorter t (c ∷ cs) =
    let d = decimal (t.width c.number) (length c.bytes) in
    let k = t.class c.number in
    omega (
      arith,
      length-append (spelt_in Packed d) (content_in Packed k c.bytes ++ fields_in Packed t cs),
      length-append (content_in Packed k c.bytes) (fields_in Packed t cs),
      length-append (spelt_in Plain d) (content_in Plain k c.bytes ++ fields_in Plain t cs),
      length-append (content_in Plain k c.bytes) (fields_in Plain t cs),
      shorter d,
      content_shorter k c.bytes,
      fields_shorter t cs,
    )

packed_short : (t : Table) (p : Parts) → length (bytes_in Packed t p) ≤ length (bytes_in Plain t p)
unfolding bytes_in
packed_short t p =
    omega (
      arith,
      length-append (spelt_in Packed p.mti) (p.maps ++ fields_in Packed t p.contents),
      length-append p.maps (fields_in Packed t p.contents),
      length-append (spelt_in Plain p.mti) (p.maps ++ fields_in Plain t p.contents),
      length-append p.maps (fields_in Plain t p.contents),
      shorter p.mti,
      fields_shorter t p.contents,
    )

pub shorter_form : (t : Table) (p : Parts) → length (packed_bytes t p) ≤ length (plain_bytes t p)
shorter_form t p = omega (arith, packed_short t p, ap length (plain_is t p), ap length (packed_is t p))
