-- Going along the entries of a row, or of a column, passes all cuts of a size: the k-th first part stands k steps after the first one, and the k-th rest as far before the size
-- itself.
use Prim.Native.Nat.{ℕ, ◌+◌, ◌-◌, ◌%◌, ◌/◌}
use mathlib.Core.Path.{◌≡◌, sym, ap₂}
use mathlib.Core.List.{List}
use native.Mathlib.Nat.{div-add-mod'}
use native.Mathlib.Omega.{arith}
use lib.ListN.{get_or}
use Rattle.books.specs.declared.rule.Dir.TheVariants.{Across as across, Down as down}
use Rattle.books.specs.declared.rule.Dir.{Dir}
use Rattle.pieces.specs.Filling.{cuts_of}
use Rattle.pieces.proofs.Gathered.{gathered-same}
use Rattle.books.specs.declared.size.Size.{Size}
use Rattle.sizes.specs.Size.{reach}
use Rattle.sizes.specs.Table.{slot, slot_size, size_cuts}
use Rattle.sizes.specs.inner.Along.{along}
use Rattle.sizes.proofs.Slots.{slot_of-size, first_slot_of, step_of, first-place, rest-place}

module _ (fire : Dir → ℕ → ℕ → ℕ) (n : ℕ) (t : List ℕ) where
  along-cuts : (s : Size) (d : Dir) (first due cuts : ℕ) → first ≡ first_slot_of d n s → due ≡ slot n s → cuts ≡ reach d s - 1
      → along (fire d) t first due (step_of d n) cuts ≡ size_cuts fire n t s d
  unfolding along cuts_of
  along-cuts s d first due cuts begins here all =
      rw (begins, here, all)
      (gathered-same (reach d s - 1) _ _ (λ k h. ap₂ (λ (x y : ℕ). fire d (get_or t x 0) (get_or t y 0)) (first-place d n k s) (rest-place d n k s h)))

  -- as the code has the places
  module _ (k : ℕ) where
    pub beside-cuts : along (fire across) t (k - k % n) k 1 (k % n) ≡ size_cuts fire n t (slot_size n k) across
    beside-cuts =
        let row : k / n + 1 - 1 ≡ k / n = omega arith in
        along-cuts (slot_size n k) across _ _ _ (rw row (omega (arith, div-add-mod' k n))) (sym (slot_of-size n k)) (omega arith)

    pub above-cuts : along (fire down) t (k % n) k n (k / n) ≡ size_cuts fire n t (slot_size n k) down
    above-cuts = along-cuts (slot_size n k) down _ _ _ (omega arith) (sym (slot_of-size n k)) (omega arith)
