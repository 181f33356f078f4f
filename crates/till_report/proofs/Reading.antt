-- What was read is what the reader has lost, and from its first `input_most + 1` bytes the report of all of them follows. Assumes nothing.
use Rattle.std.proofs.Common.{◌≡◌, ℕ, ◌+◌, ◌-◌, ◌<◌, ◌≤◌, List, ◌++◌, None, Some, IfSome, length, take, drop, arith, refl, sym, ap, subst, ◌∙◌, append_assoc, append-nil, length-take-le, length-take, length-append, take_all}
use Rattle.std.proofs.Math.Seq.{take-append-add, take-append_seam}
use Rattle.std.specs.declared.option.Option.{Option}
use Rattle.std.specs.Io.KnownBytes.{Appends, Consumes, IsAtEnd}
use borrow.Author.Tests.{le-ltb}
use borrow.Rule.Slice.PartMut.{put_mid}
use Rattle.octets.specs.Lists.{lay}
use Rattle.octets.proofs.Cases.{by_lt}
use Rattle.octets.proofs.Parts.{part_back}
use Rattle.message_notes.specs.Dialect.{Dialect}
use Rattle.till_lines.specs.Lines.{input_most, text_room, report_of, report_size, report_text}
use Rattle.till_lines.proofs.Reports.{too_long}

-- a read into what is left of the buffer
filled : (n m : ℕ) (e f : List ℕ) → n ≤ length e → take (n + m) (put_mid n (length e - n) e f) ≡ take n e ++ take m f
filled n m e f h =
    ap (take (n + m)) (part_back n e f) ∙ subst (λ (k : ℕ). take (k + m) (take n e ++ f) ≡ take n e ++ take m f) (length-take-le n e h) (take-append-add (take n e) f m)

more : (a b c : Option (List ℕ)) (bs cs : List ℕ) → Consumes a b bs → Consumes b c cs → Consumes a c (bs ++ cs)
more None b c bs cs p q = tt
more (Some x) None c bs cs p q = absurd p
more (Some x) (Some y) None bs cs p q = absurd q
more (Some x) (Some y) (Some z) bs cs p q = p ∙ ap (λ (l : List ℕ). bs ++ l) q ∙ sym (append_assoc bs cs z)

pub read_more : (a b c : Option (List ℕ)) (n m : ℕ) (e f : List ℕ) → n ≤ length e → Consumes a b (take n e) → Consumes b c (take m f)
    → Consumes a c (take (n + m) (put_mid n (length e - n) e f))
read_more a b c n m e f h p q = subst (Consumes a c) (sym (filled n m e f h)) (more a b c _ _ p q)

-- all that the reader had, or its first k bytes
first : (a b : Option (List ℕ)) (bs : List ℕ) (k : ℕ) → Consumes a b bs → length bs ≤ k → (length bs < k → IsAtEnd b) → IfSome a (λ xs. bs ≡ take k xs)
first None b bs k p h q = tt
first (Some x) None bs k p h q = absurd p
first (Some x) (Some y) bs k p h q =
    subst (λ (l : List ℕ). bs ≡ take k l) (sym p) (by_lt (length bs) k
    (λ l. sym (rw (q l, append-nil) (take_all k bs h)))
    (λ l. let e : length bs ≡ k = omega arith in sym (rw (← e) (take-append_seam bs y))))

-- the same of a buffer of k bytes that was read into
pub first_read : (a b : Option (List ℕ)) (n k : ℕ) (e : List ℕ) → Consumes a b (take n e) → length e ≡ k → n ≤ length e → (n < length e → IsAtEnd b)
    → IfSome a (λ xs. take n e ≡ take k xs)
first_read a b n k e p h l q = let m = length-take-le n e l in first a b (take n e) k p (omega arith) (λ t. q (omega arith))

pub taken : (a b : Option (List ℕ)) (bs : List ℕ) (k : ℕ) → Consumes a b bs → IfSome a (λ xs. bs ≡ take k xs) → IfSome a (λ xs. Consumes (Some xs) b (take k xs))
taken None b bs k p e = tt
taken (Some xs) b bs k p e = subst (Consumes (Some xs) b) e p

module _ (d : Dialect) where
  -- a byte more than is taken is as good as any number
  cut : (xs : List ℕ) → report_of d (take (input_most + 1) xs) ≡ report_of d xs
  cut xs =
      by_lt input_most (length xs)
      (λ l. too_long d (take (input_most + 1) xs) (omega (arith, length-take (input_most + 1) xs)) refl ∙ sym (too_long d xs l refl))
      (λ l. ap (report_of d) (take_all (input_most + 1) xs (omega arith)))

  pub report_whole : (bs xs : List ℕ) (old new : Option (List ℕ)) → bs ≡ take (input_most + 1) xs → Appends old new (report_of d bs) → Appends old new (report_of d xs)
  report_whole bs xs old new e h = subst (Appends old new) (ap (report_of d) e ∙ cut xs) h

  -- the front of a text in which the report was written
  pub fronts : (s b t : List ℕ) (n : ℕ) → text_room ≤ length b → length t ≡ length b → n ≡ report_size d s b → t ≡ report_text d s b
      → (n ≤ length t) × (take n t ≡ report_of d s)
  unfolding report_size report_text lay
  fronts s b t n h l hn ht =
      let r = report_of d s in
      let en : n ≡ length r = hn ∙ rw (le-ltb (length b) text_room h) in
      let et : t ≡ r ++ drop (length r) b = ht ∙ rw (le-ltb (length b) text_room h) in
      (omega (arith, l, ap length et, length-append r (drop (length r) b)), rw (en, et) (take-append_seam r (drop (length r) b)))
