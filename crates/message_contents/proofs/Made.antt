-- The bitmaps made from rising fields: their count and their fields are what they were made from. Assumes nothing.
use Prim.Native.Nat.{ℕ, zero, suc, ◌+◌, ◌*◌, ◌%◌, ◌≤◌, ◌<◌}
use mathlib.Core.Path.{◌≡◌, refl, sym, ap, ◌∙◌}
use mathlib.Core.Bool.{Bool, true, false}
use mathlib.Core.List.{List, [], ◌∷◌}
use native.Mathlib.Omega.{arith}
use lib.Dec.{eqb, leb, ltb}
use lib.ListN.{length, take, get_or}
use lib.Seq.{length-take-le}
use borrow.Author.Tests.{eq-eqb, ne_eqb, le-leb, lt-leb, leb-true, lt-ltb, ltb-true}
use Rattle.octets.specs.Lists.{both, between, all}
use Rattle.octets.proofs.Cases.{false_true, by_bool, by_eq, by_le, both_left, both_right}
use Rattle.octets.proofs.Lists.{is_between, between_high}
use Rattle.bitmap.specs.Bits.{bit_of}
use Rattle.bitmap.specs.Bitmaps.{is_field, has_field, count_of, fields_from, fields_of, is_in, no_fields, set_of, chain, map_bit, maps_for, map_byte, maps_from}
use Rattle.bitmap.proofs.Maps.{field_low, maps_length}
use Rattle.bitmap.proofs.Sets.{none_is, from_is, set_is, has_set}
use Rattle.bitmap.proofs.ByBits.{made_bit, maps_made}
use Rattle.message_contents.specs.Contents.{number_allowed, bitmaps_with}

-- numbers that rise above last, each allowed where there are m bitmaps
pub data Rising (m : ℕ) : ℕ → List ℕ → Type 0 where
  end : {last : ℕ} → Rising m last []
  next : {last f : ℕ} {fs : List ℕ} → number_allowed m last f ≡ true → Rising m f fs → Rising m last (f ∷ fs)

allowed : (m last f : ℕ) → last < f → is_field f ≡ true → f ≤ 64 * m → number_allowed m last f ≡ true
unfolding number_allowed
allowed m last f a y u = rw (lt-ltb last f a, y, le-leb f (64 * m) u)

pub rising : (s : List ℕ) (m k f last : ℕ) → last < f → f + k ≤ 64 * m + 1 → Rising m last (fields_from (has_field s) k f)
unfolding fields_from has_field
rising s m zero f last a h = end
rising s m (suc k) f last a h =
    by_bool (has_field s f)
    (λ y. rw (fields_from, y) (next (allowed m last f a (both_left (is_field f) (bit_of s f) y) (omega arith)) (rising s m k (f + 1) f (omega arith) (omega arith))))
    (λ n. rw (fields_from, n) (rising s m k (f + 1) last (omega arith) (omega arith)))

-- the bytes that are made are bytes
chain_small : (on : Bool) (x : ℕ) → chain on x < 256
chain_small true x = let e : 128 * 1 + x % 128 < 256 = omega arith in e
chain_small false x = let e : 128 * 0 + x % 128 < 256 = omega arith in e

byte_small : (m i x : ℕ) → x < 256 → map_byte m i x < 256
unfolding map_byte
byte_small m i x h =
    by_bool (leb (8 * m) i)
    (λ y. rw y (omega arith))
    (λ n. by_bool (eqb i 0)
    (λ y. rw (n, y) (chain_small (leb 2 m) x))
    (λ z. by_bool (eqb i 8) (λ y. rw (n, z, y) (chain_small (leb 3 m) x)) (λ w. rw (n, z, w) h)))

made_bytes : (m : ℕ) (s : List ℕ) (k i : ℕ) → ((j : ℕ) → get_or s j 0 < 256) → all (between 0 255) (maps_from m s k i) ≡ true
unfolding maps_from
made_bytes m s zero i h = refl
made_bytes m s (suc k) i h =
    rw (is_between 0 255 (map_byte m i (get_or s i 0)) (omega arith) (omega (arith, byte_small m i (get_or s i 0) (h i)))) (made_bytes m s k (suc i) h)

byte_at : (s : List ℕ) → all (between 0 255) s ≡ true → (j : ℕ) → get_or s j 0 < 256
byte_at [] a j = omega arith
byte_at (x ∷ s) a zero = omega (arith, between_high 0 255 x (both_left (between 0 255 x) (all (between 0 255) s) a))
byte_at (x ∷ s) a (suc j) = byte_at s (both_right (between 0 255 x) (all (between 0 255) s) a) j

-- numbers that rise, from lo on and under hi
pub data Ordered (hi : ℕ) : ℕ → List ℕ → Type 0 where
  none : {lo : ℕ} → Ordered hi lo []
  one : {lo f : ℕ} {fs : List ℕ} → lo ≤ f → f < hi → Ordered hi (f + 1) fs → Ordered hi lo (f ∷ fs)

weaken : (hi lo lo' : ℕ) {fs : List ℕ} → lo' ≤ lo → Ordered hi lo fs → Ordered hi lo' fs
weaken hi lo lo' h none = none
weaken hi lo lo' h (one {f = f} l u r) = one {lo = lo'} {f = f} (omega arith) u r

below : (hi lo g : ℕ) {fs : List ℕ} → g < lo → Ordered hi lo fs → is_in g fs ≡ false
below hi lo g h none = refl
below hi lo g h (one {f = f} l u r) = rw (ne_eqb f g (λ (q : f ≡ g). omega arith)) (below hi (f + 1) g (omega arith) r)

pub listed : (p : ℕ → Bool) (hi k g : ℕ) {fs : List ℕ} → g + k ≡ hi → Ordered hi g fs → ((f : ℕ) → g ≤ f → f < hi → p f ≡ is_in f fs) → fields_from p k g ≡ fs
unfolding fields_from
listed p hi zero g e none h = refl
listed p hi zero g e (one l u r) h = absurd (omega arith)
listed p hi (suc k) g e none h =
    let q : p g ≡ false = h g (omega arith) (omega arith) in
    rw (fields_from, q) (listed p hi k (g + 1) (omega arith) none (λ f l u. h f (omega arith) u))
listed p hi (suc k) g e (one {f = f} {fs = fs} l u r) h =
    by_eq f g
    (λ y.
    let q : p g ≡ true = h g (omega arith) (omega arith) ∙ rw (eq-eqb f g y) in
    rw (fields_from, q)
    (ap (λ (x : List ℕ). g ∷ x)
    (listed p hi k (g + 1) (omega arith) (weaken hi (f + 1) (g + 1) (omega arith) r)
    (λ x a b. h x (omega arith) b ∙ rw (ne_eqb f x (λ (z : f ≡ x). omega arith))))
    ∙ ap (λ (x : ℕ). x ∷ fs) (sym y)))
    (λ n.
    let d : g < f = omega arith in
    let q : p g ≡ false = h g (omega arith) (omega arith) ∙ below hi f g d (one {lo = f} {f = f} (omega arith) u r) in
    rw (fields_from, q) (listed p hi k (g + 1) (omega arith) (one {lo = g + 1} {f = f} (omega arith) u r) (λ x a b. h x (omega arith) b)))

-- what rising numbers have
module _ (m : ℕ) where
  pub is_low : (last f : ℕ) → number_allowed m last f ≡ true → last < f
  unfolding number_allowed
  is_low last f a = ltb-true last f (both_left (ltb last f) (both (is_field f) (leb f (64 * m))) a)

  pub is_field_lem : (last f : ℕ) → number_allowed m last f ≡ true → is_field f ≡ true
  unfolding number_allowed
  is_field_lem last f a = both_left (is_field f) (leb f (64 * m)) (both_right (ltb last f) (both (is_field f) (leb f (64 * m))) a)

  pub is_high : (last f : ℕ) → number_allowed m last f ≡ true → f ≤ 64 * m
  unfolding number_allowed
  is_high last f a = leb-true f (64 * m) (both_right (is_field f) (leb f (64 * m)) (both_right (ltb last f) (both (is_field f) (leb f (64 * m))) a))

  pub ordered : {last : ℕ} {fs : List ℕ} → Rising m last fs → Ordered (64 * m + 1) (last + 1) fs
  ordered end = none
  ordered {last} (next {f = f} a r) = one {lo = last + 1} {f = f} (omega (arith, is_low last f a)) (omega (arith, is_high last f a)) (ordered r)

  pub all_fields : {last : ℕ} {fs : List ℕ} → Rising m last fs → all is_field fs ≡ true
  all_fields end = refl
  all_fields {last} (next {f = f} a r) = rw (is_field_lem last f a) (all_fields r)

pub no_member : (fs : List ℕ) (f : ℕ) → all is_field fs ≡ true → is_field f ≡ false → is_in f fs ≡ false
no_member [] f a n = refl
no_member (g ∷ fs) f a n =
    by_eq g f
    (λ e. absurd (false_true (sym n ∙ ap is_field (sym e) ∙ both_left (is_field g) (all is_field fs) a)))
    (λ d. rw (ne_eqb g f d) (no_member fs f (both_right (is_field g) (all is_field fs) a) n))

no_65 : (f : ℕ) → is_field f ≡ true → f ≡ 65 → ⊥
unfolding is_field between
no_65 f y e = false_true (let q : is_field 65 ≡ true = ap is_field (sym e) ∙ y in q)

module _ (fs : List ℕ) (m : ℕ) (few : m ≤ 3) (are : all is_field fs ≡ true) where
  abbrev s : List ℕ
  s = set_of fs

  abbrev maps : List ℕ
  maps = bitmaps_with m fs

  set_bytes : all (between 0 255) s ≡ true
  set_bytes = ap (all (between 0 255)) (sym (set_is fs are)) ∙ (from_is fs no_fields none_is).bytes

  made_is : maps_from m s 24 0 ≡ maps_for m s
  made_is = maps_made m s few (made_bytes m s 24 0 (byte_at s set_bytes))

  pub maps_whole : length maps ≡ 8 * m
  unfolding bitmaps_with
  maps_whole = length-take-le (8 * m) (maps_for m s) (omega (arith, ap length made_is, maps_length m s))

  bit_of_lem : (f : ℕ) → 1 ≤ f → f ≤ 64 * m → bit_of maps f ≡ map_bit m s f
  unfolding bitmaps_with
  bit_of_lem f l u = sym (made_bit m s few f l u ∙ ap (λ (x : List ℕ). bit_of (take (8 * m) x) f) made_is)

  bit_1 : 1 ≤ m → bit_of maps 1 ≡ leb 2 m
  unfolding map_bit
  bit_1 h = bit_of_lem 1 (omega arith) (omega arith)

  bit_65 : 2 ≤ m → bit_of maps 65 ≡ leb 3 m
  unfolding map_bit
  bit_65 h = bit_of_lem 65 (omega arith) (omega arith)

  pub maps_count : 1 ≤ m → m ≡ count_of maps
  unfolding count_of
  maps_count h =
      by_le 2 m
      (λ a. by_le 3 m
      (λ b. let x : bit_of maps 1 ≡ true = bit_1 h ∙ le-leb 2 m a in let y : bit_of maps 65 ≡ true = bit_65 a ∙ le-leb 3 m b in rw (x, y) (omega arith))
      (λ b. let x : bit_of maps 1 ≡ true = bit_1 h ∙ le-leb 2 m a in let y : bit_of maps 65 ≡ false = bit_65 a ∙ lt-leb 3 m b in rw (x, y) (omega arith)))
      (λ a. let x : bit_of maps 1 ≡ false = bit_1 h ∙ lt-leb 2 m a in rw x (omega arith))

  in_set : (f : ℕ) → is_field f ≡ true → map_bit m s f ≡ is_in f fs
  unfolding map_bit
  in_set f y =
      let l = field_low f y in
      rw (ne_eqb f 1 (λ (q : f ≡ 1). omega arith), ne_eqb f 65 (no_65 f y))
      (ap (λ (x : List ℕ). has_field x f) (sym (set_is fs are)) ∙ has_set fs f are y)

  has : (f : ℕ) → 1 ≤ f → f ≤ 64 * m → has_field maps f ≡ is_in f fs
  unfolding has_field
  has f l u = by_bool (is_field f) (λ y. rw y (bit_of_lem f l u ∙ in_set f y)) (λ n. rw n (sym (no_member fs f are n)))

  pub maps_fields : Ordered (64 * m + 1) 1 fs → fields_of maps m ≡ fs
  unfolding fields_of
  maps_fields o = listed (has_field maps) (64 * m + 1) (64 * m) 1 (omega arith) o (λ f l u. has f l (omega arith))
