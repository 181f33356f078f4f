-- A loop that writes the image of each byte of s under f, at a turn and at its end: d is the output where it began,
-- e as it is now. Assumes nothing.
use Prim.Native.Nat.{ℕ, ◌+◌, ◌≤◌, ◌<◌}
use mathlib.Core.Path.{◌≡◌, sym, ◌∙◌}
use mathlib.Core.List.{List, map}
use lib.ListN.{length, get_or, set, length-map}
use Rattle.std.proofs.lemmas.List.{get_or-map}
use Rattle.octets.specs.Lists.{lay}
use Rattle.octets.proofs.Lists.{laid, laid_step, laid_all}

module _ (f : ℕ → ℕ) (s d e : List ℕ) (i : ℕ) (so_far : e ≡ laid (map f s) d i) where
  pub map_step : (v : ℕ) → i < length s → i < length d → v ≡ f (get_or s i 0) → set e i v ≡ laid (map f s) d (i + 1)
  map_step v h k w = laid_step (map f s) d e i v so_far (rw (length-map s f) h) k (w ∙ sym (get_or-map f s i 0 0 h))

  pub map_all : i ≤ length s → length s ≤ i → e ≡ lay (map f s) d
  map_all h k = laid_all (map f s) d e i so_far (rw (length-map s f) h) (rw (length-map s f) k)
