-- ASCII text that is encoded is decoded again, and EBCDIC text that is decoded is encoded again. Assumes nothing.
use Prim.Native.Nat.{ℕ, ◌<◌}
use mathlib.Core.Path.{◌≡◌, refl}
use mathlib.Core.Bool.{true}
use mathlib.Core.List.{List, [], ◌∷◌, map}
use native.Mathlib.Omega.{arith}
use lib.ListN.{get_or-eq_default}
use Rattle.octets.specs.Lists.{between, all}
use Rattle.octets.specs.Numbers.{is_ascii}
use Rattle.octets.proofs.Cases.{by_lt, both_left, both_right, false_true}
use Rattle.octets.proofs.Lists.{between_high}
use Rattle.refusal.specs.Refusals.{good}
use Rattle.encoding_ebcdic.specs.Ebcdic.{table, ascii_of, ebcdic_of, means_ascii, encode_fault, decode_fault}
use Rattle.encoding_ebcdic.proofs.Permutation.{table_length, ascii_of_ebcdic, ebcdic_of_ascii}
use Rattle.encoding_ebcdic.proofs.Faults.{encode_clean, decode_clean}

-- an ASCII byte, encoded and decoded
ascii_back : (x : ℕ) → is_ascii x ≡ true → ascii_of (ebcdic_of x) ≡ x
ascii_back x t = ascii_of_ebcdic x (omega (arith, between_high 0 127 x t))

encoded_means : (s : List ℕ) → all is_ascii s ≡ true → all means_ascii (map ebcdic_of s) ≡ true
unfolding means_ascii
encoded_means [] t = refl
encoded_means (x ∷ s) t =
    let p = both_left (is_ascii x) (all is_ascii s) t in
    rw (ascii_back x p, p) (encoded_means s (both_right (is_ascii x) (all is_ascii s) t))

map_back : (s : List ℕ) → all is_ascii s ≡ true → map ascii_of (map ebcdic_of s) ≡ s
map_back [] t = refl
map_back (x ∷ s) t =
    rw (ascii_back x (both_left (is_ascii x) (all is_ascii s) t), map_back s (both_right (is_ascii x) (all is_ascii s) t))

-- Text that is not refused in encoding comes back from decoding as it was.
pub decoded_encoded : (s : List ℕ) → encode_fault s ≡ good → map ascii_of (map ebcdic_of s) ≡ s
decoded_encoded s z = map_back s (encode_clean s z)

-- The EBCDIC of text that is not refused in encoding is not refused in decoding.
pub encoded_decodes : (s : List ℕ) → encode_fault s ≡ good → decode_fault (map ebcdic_of s) ≡ good
unfolding decode_fault
encoded_decodes s z = rw (encoded_means s (encode_clean s z))

-- only a byte has an ASCII meaning
meaning_byte : (b : ℕ) → means_ascii b ≡ true → b < 256
unfolding means_ascii ascii_of between
meaning_byte b t =
    by_lt b 256 (λ h. h)
    (λ h. absurd (false_true (rw (get_or-eq_default table 256 {n = b} (omega (arith, table_length))) at t)))

decoded_ascii : (s : List ℕ) → all means_ascii s ≡ true → all is_ascii (map ascii_of s) ≡ true
unfolding means_ascii
decoded_ascii [] t = refl
decoded_ascii (b ∷ s) t =
    rw (both_left (means_ascii b) (all means_ascii s) t) (decoded_ascii s (both_right (means_ascii b) (all means_ascii s) t))

map_forth : (s : List ℕ) → all means_ascii s ≡ true → map ebcdic_of (map ascii_of s) ≡ s
map_forth [] t = refl
map_forth (b ∷ s) t =
    let h = meaning_byte b (both_left (means_ascii b) (all means_ascii s) t) in
    rw (ebcdic_of_ascii b h, map_forth s (both_right (means_ascii b) (all means_ascii s) t))

-- Bytes that are not refused in decoding come back from encoding as they were.
pub encoded_decoded : (s : List ℕ) → decode_fault s ≡ good → map ebcdic_of (map ascii_of s) ≡ s
encoded_decoded s z = map_forth s (decode_clean s z)

-- The text of bytes that are not refused in decoding is not refused in encoding.
pub decoded_encodes : (s : List ℕ) → decode_fault s ≡ good → encode_fault (map ascii_of s) ≡ good
unfolding encode_fault
decoded_encodes s z = rw (decoded_ascii s (decode_clean s z))
