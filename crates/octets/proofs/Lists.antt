-- The laws of a writing loop and of a testing loop, each once. Assumes nothing.
use mathlib.Core.Path.{◌≡◌, refl, sym, ap, ◌∙◌}
use mathlib.Core.Bool.{Bool, true, false}
use mathlib.Core.List.{List, [], ◌∷◌, ◌++◌, append-nil}
use Prim.Native.Nat.{ℕ, zero, suc, ◌+◌, ◌≤◌, ◌<◌}
use native.Mathlib.Nat.{le_antisymm, le_of_suc-le-suc, not-suc-le-zero}
use native.Mathlib.Numerals.{add-one}
use native.Mathlib.Omega.{arith}
use lib.ListN.{length, take, drop, get_or, set, drop_of_length-le}
use lib.Seq.{take-length, length-take-le}
use denote.Ref.{Bor}
use denote.Param.Members.{Mut}
use Rattle.std.proofs.Common.{Iter}
use Rattle.std.specs.declared.iter.TakeWhile.{TakeWhile}
use Rattle.std.specs.Fn.{Called, CalledAt}
use Rattle.std.specs.List.{list_all, prefix_len}
use Rattle.std.specs.Iterator.{ChecksAll, Drains}
use Rattle.std.specs.Iterator.Adapters.{take_while_source, take_while_done, take_while_callee, take_while_steps}
use Rattle.std.specs.Slice.Iter.{iter_rest}
use Rattle.std.proofs.iter.Yields.{fronts}
use Rattle.std.proofs.lemmas.Iterator.{YieldsList-from_slice}
use Rattle.std.proofs.lemmas.Iterator.Consumers.{count_from_yields_List}
use Rattle.std.proofs.lemmas.Iterator.Search.{all_from_yields_List, YieldsList-from_take_while}
use lib.Dec.{eqb, leb, eqb-suc-suc}
use borrow.Author.Tests.{le-leb, lt-leb, leb-true, ne_eqb}
use Rattle.octets.specs.Lists.{between, all, lead, lay, placed}
use Rattle.octets.proofs.Cases.{by_bool, both_left, both_right}
use Rattle.octets.proofs.Fronts.{lay_length}

-- between as facts
pub is_between : (lo hi x : ℕ) → lo ≤ x → x ≤ hi → between lo hi x ≡ true
unfolding between
is_between lo hi x l u = rw (le-leb lo x l, le-leb x hi u)

pub below_low : (lo hi x : ℕ) → x < lo → between lo hi x ≡ false
unfolding between
below_low lo hi x l = rw (lt-leb lo x l)

pub above_high : (lo hi x : ℕ) → lo ≤ x → hi < x → between lo hi x ≡ false
unfolding between
above_high lo hi x l u = rw (le-leb lo x l, lt-leb x hi u)

pub up_to_high : (lo hi x : ℕ) → lo ≤ x → leb x hi ≡ between lo hi x
unfolding between
up_to_high lo hi x l = rw (le-leb lo x l)

pub between_low : (lo hi x : ℕ) → between lo hi x ≡ true → lo ≤ x
unfolding between
between_low lo hi x t = leb-true lo x (both_left (leb lo x) (leb x hi) t)

pub between_high : (lo hi x : ℕ) → between lo hi x ≡ true → x ≤ hi
unfolding between
between_high lo hi x t = leb-true x hi (both_right (leb lo x) (leb x hi) t)

-- A writing loop that has come to i: r is to be laid over d, and its first i bytes are; e is the output as it is now.
unfoldable pub laid : List ℕ → List ℕ → ℕ → List ℕ
laid r d i = take i r ++ drop i d

store : (r d : List ℕ) (i : ℕ) → i < length r → i < length d → set (take i r ++ drop i d) i (get_or r i 0) ≡ take (suc i) r ++ drop (suc i) d
store [] d i h k = absurd (not-suc-le-zero h)
store (x ∷ xs) [] i h k = absurd (not-suc-le-zero k)
store (x ∷ xs) (y ∷ ys) zero h k = refl
store (x ∷ xs) (y ∷ ys) (suc i) h k = ap (λ (l : List ℕ). x ∷ l) (store xs ys i (le_of_suc-le-suc h) (le_of_suc-le-suc k))

pub laid_none : (r d : List ℕ) → d ≡ laid r d 0
unfolding laid
laid_none r d = refl

pub laid_step : (r d e : List ℕ) (i v : ℕ) → e ≡ laid r d i → i < length r → i < length d → v ≡ get_or r i 0 → set e i v ≡ laid r d (i + 1)
unfolding laid
laid_step r d e i v he h k hv = rw (he, hv, add-one) (store r d i h k)

pub laid_all : (r d e : List ℕ) (i : ℕ) → e ≡ laid r d i → i ≤ length r → length r ≤ i → e ≡ lay r d
unfolding laid lay
laid_all r d e i he h k = he ∙ ap (laid r d) (le_antisymm h k) ∙ ap (λ (l : List ℕ). l ++ drop (length r) d) (take-length r)

-- bytes as long as the output are all of it
pub lay_whole : (r d : List ℕ) → length d ≤ length r → lay r d ≡ r
unfolding lay
lay_whole r d h = rw (drop_of_length-le d {i = length r} h) (append-nil r)

-- A writer that tests whether its bytes fit: what it leaves in the output. n is their count, as the code has it.
module _ (r d : List ℕ) (n : ℕ) (sized : length r ≡ n) where
  pub placed_short : length d < n → d ≡ placed r d
  unfolding placed
  placed_short h = rw (sized, lt-leb n (length d) h)

  pub placed_fits : n ≤ length d → placed r d ≡ lay r d
  unfolding placed
  placed_fits h = rw (sized, le-leb n (length d) h)

  -- as the code has it: the front of d has been replaced by e, which is r
  pub placed_front : (e : List ℕ) → n ≤ length d → e ≡ r → e ++ drop n d ≡ placed r d
  unfolding placed lay
  placed_front e h w = rw (w, sized, le-leb n (length d) h)

  pub placed_done : (e : List ℕ) → n ≤ length d → e ≡ lay r d → e ≡ placed r d
  placed_done e h w = w ∙ sym (placed_fits h)

pub placed_length : (r d : List ℕ) → length (placed r d) ≡ length d
unfolding placed
placed_length r d =
    by_bool (leb (length r) (length d))
    (λ t. rw t (lay_length r d (leb-true (length r) (length d) t)))
    (λ t. rw t)

-- what a test of every element says of one
pub all_at : (p : ℕ → Bool) (s : List ℕ) (i : ℕ) → all p s ≡ true → i < length s → p (get_or s i 0) ≡ true
all_at p [] i t h = absurd (not-suc-le-zero h)
all_at p (x ∷ s) zero t h = both_left (p x) (all p s) t
all_at p (x ∷ s) (suc i) t h = all_at p s i (both_right (p x) (all p s) t) (le_of_suc-le-suc h)

-- a test that says more at each element says more of all
pub all_weaker : (p q : ℕ → Bool) → ((x : ℕ) → p x ≡ true → q x ≡ true) → (s : List ℕ) → all p s ≡ true → all q s ≡ true
all_weaker p q h [] t = refl
all_weaker p q h (x ∷ s) t = rw (h x (both_left (p x) (all p s) t)) (all_weaker p q h s (both_right (p x) (all p s) t))

-- tests that answer the same at each element answer the same of all
pub all_same : (p q : ℕ → Bool) (s : List ℕ) → ((i : ℕ) → i < length s → p (get_or s i 0) ≡ q (get_or s i 0)) → all p s ≡ all q s
all_same p q [] h = refl
all_same p q (x ∷ s) h = rw (h 0 (omega arith), all_same p q s (λ i l. h (suc i) (omega arith)))

pub all_append : (p : ℕ → Bool) (s t : List ℕ) → all p s ≡ true → all p t ≡ true → all p (s ++ t) ≡ true
all_append p [] t a b = b
all_append p (x ∷ s) t a b = rw (both_left (p x) (all p s) a) (all_append p s t (both_right (p x) (all p s) a) b)

pub lead_most : (p : ℕ → Bool) (s : List ℕ) → lead p s ≤ length s
lead_most p [] = omega arith
lead_most p (x ∷ s) =
    let h = lead_most p s in
    by_bool (p x) (λ t. rw t (omega arith)) (λ t. rw t (omega arith))

-- all of s passes exactly when its passing front is as long as s
pub lead_all : (p : ℕ → Bool) (s : List ℕ) → eqb (lead p s) (length s) ≡ all p s
lead_all p [] = refl
lead_all p (x ∷ s) =
    by_bool (p x)
    (λ t. rw t (eqb-suc-suc (lead p s) (length s) ∙ lead_all p s))
    (λ t. rw t (ne_eqb 0 (suc (length s)) (λ (e : 0 ≡ suc (length s)). omega arith)))

-- The two as the library has them.
all_is : (p : ℕ → Bool) (s : List ℕ) → list_all p s ≡ all p s
all_is p [] = refl
all_is p (x ∷ s) = by_bool (p x) (λ t. rw t (all_is p s)) (λ t. rw t)

lead_is : (p : ℕ → Bool) (s : List ℕ) → prefix_len p s ≡ lead p s
lead_is p [] = refl
lead_is p (x ∷ s) = by_bool (p x) (λ t. rw t (omega (arith, lead_is p s))) (λ t. rw t)

-- `s.iter().all(f)`, where a call of f at a byte answers p of it
pub tested_all : {F : Type 0} {g : Mut F (Bor ℕ × Unit {0}) Bool} {i j : Iter ℕ} {f : F} (p : ℕ → Bool) (s : List ℕ) (r : Bool)
    → ChecksAll fronts g i f r j → iter_rest i ≡ s → ((x : Bor ℕ) (b : Bool) (q : F) → Called g f (x, tt) b q → (q ≡ f) × (b ≡ p x.now)) → r ≡ all p s
tested_all p s r ran from told = all_from_yields_List p _ _ r ran (YieldsList-from_slice s from) told ∙ all_is p s

-- `s.iter().take_while(f).count()`, where a call of f at a byte answers p of it
pub tested_lead : {F : Type 0} {g : Mut F (Bor (Bor ℕ) × Unit {0}) Bool} {w : TakeWhile (Iter ℕ) F} {f : F} (p : ℕ → Bool) (s : List ℕ) (r : ℕ)
    → (xs : List (Bor ℕ)) × Drains (take_while_steps fronts g) w xs × (r ≡ length xs) → iter_rest (take_while_source w) ≡ s → take_while_callee w ≡ f → take_while_done w ≡ false
    → ((x : Bor ℕ) (b : Bool) (q : F) → CalledAt g f x b q → (q ≡ f) × (b ≡ p x.now)) → r ≡ lead p s
tested_lead p s r ran from callee done told =
    count_from_yields_List _ r ran (YieldsList-from_take_while _ p (YieldsList-from_slice s from) callee done told)
    ∙ length-take-le (prefix_len p s) s (rw (lead_is p s) (lead_most p s)) ∙ lead_is p s
