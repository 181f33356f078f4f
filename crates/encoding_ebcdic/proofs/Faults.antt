-- The tests of a source, at each of their ends and with the facts as the code has them. Assumes nothing.
use Prim.Native.Nat.{ℕ, ◌<◌}
use mathlib.Core.Path.{◌≡◌}
use mathlib.Core.Bool.{Bool, true}
use mathlib.Core.List.{List}
use native.Mathlib.Omega.{arith}
use lib.ListN.{get_or}
use lib.Dec.{leb}
use Rattle.octets.specs.Lists.{all}
use Rattle.octets.specs.Numbers.{is_ascii}
use Rattle.octets.proofs.Cases.{by_bool}
use Rattle.octets.proofs.Lists.{up_to_high, all_same}
use Rattle.refusal.specs.Numbers.{no_ascii_meaning}
use Rattle.refusal.specs.Refusals.{good}
use Rattle.refusal.proofs.Tests.{bad_good}
use Rattle.encoding_ebcdic.specs.Ebcdic.{table, ascii_of, means_ascii, encode_fault, decode_fault}
use Rattle.encoding_ebcdic.proofs.Permutation.{read_means}

-- decoding: whether the entry of t at x is ASCII, and what that says where t is the table
abbrev pub entry_passes : List ℕ → ℕ → Bool
entry_passes t x = leb (get_or t x 0) 127

entry_tells : (t : List ℕ) (b : ℕ) → t ≡ table → b < 256 → entry_passes t b ≡ means_ascii b
unfolding means_ascii
entry_tells t b e h = rw (read_means t e b h) (up_to_high 0 127 (ascii_of b) (omega arith))

pub entries_tell : (t s : List ℕ) → t ≡ table → ((i : ℕ) → get_or s i 0 < 256) → all (entry_passes t) s ≡ all means_ascii s
entries_tell t s e bytes = all_same (entry_passes t) means_ascii s (λ i h. entry_tells t (get_or s i 0) e (bytes i))

-- what a source without fault is
pub encode_clean : (s : List ℕ) → encode_fault s ≡ good → all is_ascii s ≡ true
unfolding encode_fault
encode_clean s z = by_bool (all is_ascii s) (λ t. t) (λ t. bad_good no_ascii_meaning (rw t at z))

pub decode_clean : (s : List ℕ) → decode_fault s ≡ good → all means_ascii s ≡ true
unfolding decode_fault
decode_clean s z = by_bool (all means_ascii s) (λ t. t) (λ t. bad_good no_ascii_meaning (rw t at z))
