-- The words of a padded set spell its bytes (specs/Padded.antt). Assumes nothing.
use Prim.Native.Nat.{ℕ, zero, suc, ◌+◌, ◌≤◌}
use mathlib.Core.Path.{◌≡◌, refl}
use mathlib.Core.Bool.{Bool, true, false}
use mathlib.Core.List.{List}
use native.Mathlib.Omega.{arith}
use Rattle.octets.specs.Lists.{between, all}
use Rattle.octets.specs.Numbers.{digits, number, big_endian, big_endian_of}
use Rattle.octets.proofs.Lists.{is_between}
use Rattle.octets.proofs.Numbers.{digits_number}
use Rattle.refusal.specs.Refusals.{Told}
use Rattle.std.specs.Prelude.{Result, Ok, Err}
use Rattle.refusal.specs.declared.Refusal.{Refusal}
use Rattle.bitmap.specs.Bits.{bit, byte_of, bytes_of}
use Rattle.bitmap.specs.Bitmaps.{no_fields, set_of}
use Rattle.message_contents.specs.Contents.{short_in}
use Rattle.message_walk.specs.Walk.{entries_in}
use Rattle.message_write.specs.Written.{cleanly, clean_answer, padded_on, clean_padded}
use Rattle.desk_terms.specs.Terms.{cleaned, word_at}
use Rattle.desk.specs.Padded.{bytes_in, SpellThePadded}

bit_most : (b : Bool) → bit b ≤ 1
bit_most true = omega arith
bit_most false = omega arith

module _ (p : ℕ → Bool) where
  byte_most : (f : ℕ) → byte_of p f ≤ 255
  unfolding byte_of
  byte_most f =
      omega (arith, bit_most (p f), bit_most (p (f + 1)), bit_most (p (f + 2)), bit_most (p (f + 3)), bit_most (p (f + 4)), bit_most (p (f + 5)), bit_most (p (f + 6)), bit_most (p (f + 7)))

  bytes_all : (k f : ℕ) → all (between 0 255) (bytes_of p k f) ≡ true
  unfolding bytes_of
  bytes_all zero f = refl
  bytes_all (suc k) f = rw (is_between 0 255 (byte_of p f) (omega arith) (byte_most f)) (bytes_all k (f + 8))

  -- one word
  word_spells : (f : ℕ) → big_endian 8 (big_endian_of (bytes_of p 8 f)) ≡ bytes_of p 8 f
  unfolding bytes_of
  word_spells f = digits_number 256 0 255 (omega arith) (omega arith) (bytes_of p 8 f) (bytes_all 8 f)

  words_spell : (told : Told) → bytes_in (cleaned told (bytes_of p 24 1)) ≡ bytes_of p 24 1
  unfolding bytes_in cleaned word_at bytes_of
  words_spell told = rw (word_spells 1, word_spells 65, word_spells 129)

set_spells : (told : Told) (fs : List ℕ) → bytes_in (cleaned told (set_of fs)) ≡ set_of fs
unfolding set_of
set_spells told fs = words_spell _ told

none_spells : (told : Told) → bytes_in (cleaned told no_fields) ≡ no_fields
unfolding bytes_in cleaned word_at digits number
none_spells told = refl

answer_spells : (told : Told) (r : Result ℕ Refusal) (fs : List ℕ) → bytes_in (cleaned told (padded_on r (set_of fs))) ≡ padded_on r (set_of fs)
unfolding padded_on
answer_spells told (Ok k) fs = set_spells told fs
answer_spells told (Err r) fs = none_spells told

pub spell_the_padded : SpellThePadded
unfolding SpellThePadded clean_padded
spell_the_padded told d v n out = answer_spells told (clean_answer d v n out) (short_in d.table (entries_in d (cleanly d v) n))
