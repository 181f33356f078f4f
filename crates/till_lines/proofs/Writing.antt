-- Writing a line: each part is laid behind what stands. d is the output where the line begins. Assumes nothing.
use Prim.Native.Nat.{ℕ, ◌+◌, ◌-◌, ◌≤◌}
use mathlib.Core.Path.{◌≡◌, refl, sym, ap, ◌∙◌}
use mathlib.Core.List.{List, [], ◌∷◌, ◌++◌, append_assoc}
use native.Mathlib.Omega.{arith}
use lib.ListN.{length, set, length-append, length-drop}
use borrow.Rule.Slice.PartMut.{mid_of, put_mid}
use Rattle.octets.specs.Lists.{lay, placed}
use Rattle.octets.specs.Numerals.{numeral}
use Rattle.octets.specs.Texts.{text}
use Rattle.octets.proofs.Fronts.{lay_length}
use Rattle.octets.proofs.Lists.{placed_fits}
use Rattle.octets.proofs.Parts.{part_rest, lay_part, lay_byte, placed_part}
use Rattle.till_lines.specs.Lines.{space, newline, named, tripled, mti_line}

pub named_long : (w : List ℕ) (n e : ℕ) → length (named w n e) ≡ length w + (length (numeral n) + 2)
unfolding named
named_long w n e = omega (arith, length-append w (space ∷ (numeral n ++ (e ∷ []))), length-append (numeral n) (e ∷ []))

pub mti_line_long : (mti : List ℕ) → length (mti_line mti) ≡ length mti + 5
unfolding mti_line
mti_line_long mti = omega (arith, length-append mti (newline ∷ []))

-- what is laid over an output leaves it as long
pub as_long : (r d e : List ℕ) → e ≡ lay r d → length r ≤ length d → length e ≡ length d
as_long r d e h l = ap length h ∙ lay_length r d l

-- A word, a space, a number and the byte that ends them: x is the output once the word is written.
pub record Worded (w : List ℕ) (n e : ℕ) (d x : List ℕ) : Type 0 where
  pub room : length (named w n e) ≤ length d
  pub word : x ≡ placed w d

pub worded_of : {w : List ℕ} {n e : ℕ} {d x : List ℕ} → length (named w n e) ≤ length d → x ≡ placed w d → Worded w n e d x
worded_of room word = record { room = room; word = word }

module _ {w : List ℕ} {n e : ℕ} {d x : List ℕ} (c : Worded w n e d x) where
  abbrev spaced : List ℕ
  spaced = w ++ (space ∷ [])

  spaced_long : length spaced ≡ length w + 1
  spaced_long = length-append w (space ∷ [])

  pub named_room : length w + (length (numeral n) + 2) ≤ length d
  named_room = omega (arith, named_long w n e, c.room)

  word_laid : x ≡ lay w d
  word_laid = c.word ∙ placed_fits w d (length w) refl (omega (arith, named_room))

  pub worded_size : length x ≡ length d
  worded_size = as_long w d x word_laid (omega (arith, named_room))

  space_laid : set x (length w) space ≡ lay spaced d
  space_laid = lay_byte w d x (length w) space word_laid refl (omega (arith, named_room))

  pub spaced_size : length (set x (length w) space) ≡ length d
  spaced_size = as_long spaced d _ space_laid (omega (arith, named_room, spaced_long))

-- f is the rest behind the space once the number is written there in k digits
pub record Numbered (w : List ℕ) (n e : ℕ) (d x f : List ℕ) (k : ℕ) : Type 0 where
  pub worded : Worded w n e d x
  pub count : k ≡ length (numeral n)
  pub number : f ≡ placed (numeral n) (mid_of (length w + 1) (length (set x (length w) space) - (length w + 1)) (set x (length w) space))

pub numbered_of :
    {w : List ℕ} {n e : ℕ} {d x f : List ℕ} {k : ℕ} →
    Worded w n e d x →
    k ≡ length (numeral n) →
    f ≡ placed (numeral n) (mid_of (length w + 1) (length (set x (length w) space) - (length w + 1)) (set x (length w) space)) →
    Numbered w n e d x f k
numbered_of worded count number = record { worded = worded; count = count; number = number }

module _ {w : List ℕ} {n e : ℕ} {d x f : List ℕ} {k : ℕ} (c : Numbered w n e d x f k) where
  abbrev numbered : List ℕ
  numbered = put_mid (length w + 1) (length (set x (length w) space) - (length w + 1)) (set x (length w) space) f

  numbered_long : length ((w ++ (space ∷ [])) ++ numeral n) ≡ length w + 1 + k
  numbered_long = omega (arith, length-append (w ++ (space ∷ [])) (numeral n), spaced_long c.worded, c.count)

  number_laid : numbered ≡ lay ((w ++ (space ∷ [])) ++ numeral n) d
  number_laid =
      placed_part (w ++ (space ∷ [])) (numeral n) d _ f (length w + 1) (space_laid c.worded) (spaced_long c.worded)
      (omega (arith, named_room c.worded))
      c.number

  pub numbered_room : length w + 1 + k + 1 ≡ length (named w n e)
  numbered_room = omega (arith, named_long w n e, c.count)

  pub numbered_size : length numbered ≡ length d
  numbered_size = as_long _ d numbered number_laid (omega (arith, numbered_long, numbered_room, c.worded.room))

  pub end_laid : set numbered (length w + 1 + k) e ≡ lay (named w n e) d
  unfolding named
  end_laid =
      lay_byte ((w ++ (space ∷ [])) ++ numeral n) d numbered (length w + 1 + k) e number_laid numbered_long
      (omega (arith, numbered_room, c.worded.room))
      ∙ ap (λ (l : List ℕ). lay l d)
      (append_assoc (w ++ (space ∷ [])) (numeral n) (e ∷ []) ∙ append_assoc w (space ∷ []) (numeral n ++ (e ∷ [])))

-- how long the part is that `&mut e[n..]` lends
pub part_size : (n : ℕ) (e : List ℕ) → length (mid_of n (length e - n) e) ≡ length e - n
part_size n e = ap length (part_rest n e) ∙ length-drop n e

-- The line of an MTI: x is the output once the word is written, and f the rest behind it once the MTI is.
pub record MtiBegun (mti d x : List ℕ) : Type 0 where
  pub room : length (mti_line mti) ≤ length d
  pub word : x ≡ placed (text "mti ") d

module _ {mti d x : List ℕ} (c : MtiBegun mti d x) where
  pub mti_room : length mti + 5 ≤ length d
  mti_room = omega (arith, mti_line_long mti, c.room)

  word_is : x ≡ lay (text "mti ") d
  word_is = c.word ∙ placed_fits (text "mti ") d 4 refl (omega (arith, mti_room))

  pub mti_begun_size : length x ≡ length d
  mti_begun_size = as_long (text "mti ") d x word_is (omega (arith, mti_room))

  module _ {f : List ℕ} (put : f ≡ placed mti (mid_of 4 (length x - 4) x)) where
    mti_laid : put_mid 4 (length x - 4) x f ≡ lay (text "mti " ++ mti) d
    mti_laid = placed_part (text "mti ") mti d x f 4 word_is refl (omega (arith, mti_room)) put

    pub mti_put_size : length (put_mid 4 (length x - 4) x f) ≡ length d
    mti_put_size = as_long (text "mti " ++ mti) d _ mti_laid (omega (arith, mti_room))

    pub mti_ended : set (put_mid 4 (length x - 4) x f) (4 + length mti) newline ≡ lay (mti_line mti) d
    unfolding mti_line
    mti_ended = lay_byte (text "mti " ++ mti) d _ (4 + length mti) newline mti_laid (omega arith) (omega (arith, mti_room))

-- A line of three words, each with its number.
pub tripled_long : (a : List ℕ) (x : ℕ) (b : List ℕ) (y : ℕ) (c : List ℕ) (z : ℕ)
    → length (tripled a x b y c z) ≡ length (named a x space) + (length (named b y space) + length (named c z newline))
unfolding tripled
tripled_long a x b y c z =
    omega (
      arith,
      length-append (named a x space) (named b y space ++ named c z newline),
      length-append (named b y space) (named c z newline),
    )

-- o is the output once the first word and its number are written, in n bytes
pub record Once (a : List ℕ) (x : ℕ) (b : List ℕ) (y : ℕ) (c : List ℕ) (z : ℕ) (d o : List ℕ) (n : ℕ) : Type 0 where
  pub room : length (tripled a x b y c z) ≤ length d
  pub count : n ≡ length (named a x space)
  pub laid : o ≡ lay (named a x space) d

pub once_of :
    {a : List ℕ} {x : ℕ} {b : List ℕ} {y : ℕ} {c : List ℕ} {z : ℕ} {d o : List ℕ} {n : ℕ} →
    length (tripled a x b y c z) ≤ length d →
    n ≡ length (named a x space) →
    o ≡ lay (named a x space) d →
    Once a x b y c z d o n
once_of room count laid = record { room = room; count = count; laid = laid }

module _ {a : List ℕ} {x : ℕ} {b : List ℕ} {y : ℕ} {c : List ℕ} {z : ℕ} {d o : List ℕ} {n : ℕ} (h : Once a x b y c z d o n) where
  pub once_room : n + (length (named b y space) + length (named c z newline)) ≤ length d
  once_room = omega (arith, tripled_long a x b y c z, h.room, h.count)

  pub once_size : length o ≡ length d
  once_size = as_long (named a x space) d o h.laid (omega (arith, once_room, h.count))

  pub second_fits : length (named b y space) ≤ length (mid_of n (length o - n) o)
  second_fits = omega (arith, once_room, once_size, part_size n o)

-- f is the rest behind it once the second are written there, in k bytes
pub record Twice (a : List ℕ) (x : ℕ) (b : List ℕ) (y : ℕ) (c : List ℕ) (z : ℕ) (d o : List ℕ) (n : ℕ) (f : List ℕ) (k : ℕ) : Type 0 where
  pub once : Once a x b y c z d o n
  pub count : k ≡ length (named b y space)
  pub laid : f ≡ lay (named b y space) (mid_of n (length o - n) o)

pub twice_of :
    {a : List ℕ} {x : ℕ} {b : List ℕ} {y : ℕ} {c : List ℕ} {z : ℕ} {d o : List ℕ} {n : ℕ} {f : List ℕ} {k : ℕ} →
    Once a x b y c z d o n →
    k ≡ length (named b y space) →
    f ≡ lay (named b y space) (mid_of n (length o - n) o) →
    Twice a x b y c z d o n f k
twice_of once count laid = record { once = once; count = count; laid = laid }

module _ {a : List ℕ} {x : ℕ} {b : List ℕ} {y : ℕ} {c : List ℕ} {z : ℕ} {d o : List ℕ} {n : ℕ} {f : List ℕ} {k : ℕ} (h : Twice a x b y c z d o n f k) where
  abbrev two : List ℕ
  two = put_mid n (length o - n) o f

  two_long : length (named a x space ++ named b y space) ≡ n + k
  two_long = omega (arith, length-append (named a x space) (named b y space), h.once.count, h.count)

  two_laid : two ≡ lay (named a x space ++ named b y space) d
  two_laid = lay_part (named a x space) (named b y space) d o f n h.once.laid (sym h.once.count) h.laid

  pub twice_room : n + k + length (named c z newline) ≡ length (tripled a x b y c z)
  twice_room = omega (arith, tripled_long a x b y c z, h.once.count, h.count)

  pub twice_size : length two ≡ length d
  twice_size = as_long _ d two two_laid (omega (arith, two_long, twice_room, h.once.room))

  pub third_fits : length (named c z newline) ≤ length (mid_of (n + k) (length two - (n + k)) two)
  third_fits = omega (arith, twice_room, h.once.room, twice_size, part_size (n + k) two)

  pub third_laid : {g : List ℕ} → g ≡ lay (named c z newline) (mid_of (n + k) (length two - (n + k)) two)
      → put_mid (n + k) (length two - (n + k)) two g ≡ lay (tripled a x b y c z) d
  unfolding tripled
  third_laid {g} e =
      lay_part (named a x space ++ named b y space) (named c z newline) d two g (n + k) two_laid two_long e
      ∙ ap (λ (l : List ℕ). lay l d) (append_assoc (named a x space) (named b y space) (named c z newline))
