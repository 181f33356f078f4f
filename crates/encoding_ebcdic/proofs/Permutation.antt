-- The table is a permutation of the byte values: four tests at each byte, which are computed once. Assumes nothing.
use Prim.Native.Nat.{ℕ, ◌<◌}
use mathlib.Core.Path.{◌≡◌, refl, sym, ap, ◌∙◌}
use mathlib.Core.Bool.{Bool}
use mathlib.Core.List.{List, map}
use native.Mathlib.Omega.{arith}
use lib.Dec.{T, eqb, ltb, eqb→eq, ltb→lt}
use lib.ListN.{length, get_or}
use Rattle.std.proofs.lemmas.List.{get_or_default}
use Rattle.octets.specs.Lists.{lay}
use Rattle.octets.proofs.Tables.{below, at}
use Rattle.encoding_ebcdic.specs.Ebcdic.{table, place_in, entry_in, ascii_of, ebcdic_of, Permutes}

-- the four tests at a byte b
entry_test : ℕ → Bool
entry_test b = ltb (get_or table b 0) 256

place_test : ℕ → Bool
place_test b = ltb (place_in b table) 256

back_test : ℕ → Bool
back_test b = eqb (place_in (get_or table b 0) table) b

forth_test : ℕ → Bool
forth_test b = eqb (get_or table (place_in b table) 0) b

entry_tested : T (below entry_test 256)
unfolding table entry_test
entry_tested = tt

place_tested : T (below place_test 256)
unfolding table place_test
place_tested = tt

back_tested : T (below back_test 256)
unfolding table back_test
back_tested = tt

forth_tested : T (below forth_test 256)
unfolding table forth_test
forth_tested = tt

entry_byte : (b : ℕ) → b < 256 → get_or table b 0 < 256
unfolding entry_test
entry_byte b h = ltb→lt (get_or table b 0) 256 (at entry_test 256 entry_tested b h)

place_byte : (b : ℕ) → b < 256 → place_in b table < 256
unfolding place_test
place_byte b h = ltb→lt (place_in b table) 256 (at place_test 256 place_tested b h)

place_entry : (b : ℕ) → b < 256 → place_in (get_or table b 0) table ≡ b
unfolding back_test
place_entry b h = eqb→eq (place_in (get_or table b 0) table) b (at back_test 256 back_tested b h)

entry_place : (b : ℕ) → b < 256 → get_or table (place_in b table) 0 ≡ b
unfolding forth_test
entry_place b h = eqb→eq (get_or table (place_in b table) 0) b (at forth_test 256 forth_tested b h)

pub table_length : length table ≡ 256
unfolding table
table_length = refl

-- The table is a permutation of the 256 byte values.
pub table_permutes : Permutes table
table_permutes =
    record {
      size = table_length;
      within = entry_byte;
      once = λ j k hj hk e. sym (place_entry j hj) ∙ ap (λ (x : ℕ). place_in x table) e ∙ place_entry k hk;
      each = λ b h. (place_in b table, place_byte b h, entry_place b h);
    }

-- what stands at a byte, whatever is taken to stand past the end
pub entry_inside : (t : List ℕ) (b : ℕ) → b < length t → get_or t b 0 ≡ entry_in t b
unfolding entry_in
entry_inside t b h = get_or_default t b 0 256 h

entry_means : (b : ℕ) → b < 256 → get_or table b 0 ≡ ascii_of b
unfolding ascii_of entry_in
entry_means b h = entry_inside table b (omega (arith, table_length))

-- what is read from an array that is the table
pub read_means : (t : List ℕ) → t ≡ table → (b : ℕ) → b < 256 → get_or t b 0 ≡ ascii_of b
read_means t e b h = rw e (entry_means b h)

-- each of the two directions undoes the other, at a byte
pub ascii_of_ebcdic : (x : ℕ) → x < 256 → ascii_of (ebcdic_of x) ≡ x
unfolding ebcdic_of
ascii_of_ebcdic x h = sym (entry_means (place_in x table) (place_byte x h)) ∙ entry_place x h

pub ebcdic_of_ascii : (b : ℕ) → b < 256 → ebcdic_of (ascii_of b) ≡ b
unfolding ebcdic_of
ebcdic_of_ascii b h = ap (λ (x : ℕ). place_in x table) (sym (entry_means b h)) ∙ place_entry b h

-- Writing the entries of the table is decoding.
pub table_lays : (e s d : List ℕ) → e ≡ lay (map (entry_in table) s) d → e ≡ lay (map ascii_of s) d
unfolding entry_in ascii_of
table_lays e s d w = w
