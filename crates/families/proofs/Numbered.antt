-- A loop over places and lengths side by side, numbered from 0: what a turn has is told by how many went before it.
use Prim.Native.Nat.{ℕ, ◌≤◌, ◌<◌}
use mathlib.Core.Path.{◌≡◌, ap, ◌∙◌}
use mathlib.Core.List.{List}
use native.Mathlib.Omega.{arith}
use lib.ListN.{length, get_or, take}
use lib.Seq.{get_or-take, length-take-le}
use denote.Ref.{Bor}
use Rattle.std.specs.Prelude.{Option, Some, None}
use Rattle.std.specs.List.{zip, enumerate_from}
use Rattle.std.specs.Iterator.{Yields}
use Rattle.std.specs.Iterator.Adapters.{zip_first, zip_second, enumerate_source, enumerate_count, enumerate_steps}
use Rattle.std.specs.Slice.Iter.{iter_rest, iter_steps}
use Rattle.std.proofs.lemmas.Iterator.{YieldsList, zips, YieldsList-from_slice, YieldsList-from_zip}
use Rattle.std.proofs.lemmas.Iterator.Consumers.{YieldsList-from_enumerate, YieldsList-turn, YieldsList-end}
use Rattle.std.proofs.lemmas.List.{get_or_default}
use Rattle.std.proofs.lemmas.List.FromFn.{length-enumerate_from, get_or-enumerate_from}
use Rattle.std.proofs.lemmas.Slice.Zip.{get_or-zip, length-zip}
use Rattle.std.specs.declared.iter.Enumerate.{Enumerate}
use Rattle.std.specs.declared.iter.Zip.{Zip}
use Rattle.std.specs.declared.slice.Iter.{Iter}

abbrev pub Steps : Enumerate (Zip (Iter ℕ) (Iter ℕ)) → Option (ℕ × (Bor ℕ × Bor ℕ)) → Enumerate (Zip (Iter ℕ) (Iter ℕ)) → Type 0
Steps = enumerate_steps (zips iter_steps iter_steps)

module _ (n : ℕ) (starts lens : List ℕ) where
  abbrev side_by_side : List (ℕ × ℕ)
  side_by_side = zip (take n starts) (take n lens)

  pub record Goes (s : Enumerate (Zip (Iter ℕ) (Iter ℕ))) : Type 0 where
    pub runs : YieldsList Steps (λ p. (p.0, (p.1.0.now, p.1.1.now))) s (enumerate_from 0 side_by_side)

  pub goes : (s : Enumerate (Zip (Iter ℕ) (Iter ℕ))) → iter_rest (zip_first (enumerate_source s)) ≡ take n starts
      → iter_rest (zip_second (enumerate_source s)) ≡ take n lens → enumerate_count s ≡ 0 → Goes s
  goes s first second none =
      record { runs = YieldsList-from_enumerate {steps = zips iter_steps iter_steps} (YieldsList-from_zip (YieldsList-from_slice (take n starts) first) (YieldsList-from_slice (take n lens) second)) none }

  pub record Turned (k i start len : ℕ) : Type 0 where
    pub below : k < n
    pub number : i ≡ k
    pub start_is : start ≡ get_or starts k 0
    pub len_is : len ≡ get_or lens k 0

  module _ (starts_all : n ≤ length starts) (lens_all : n ≤ length lens) where
    all : length (enumerate_from 0 side_by_side) ≡ n
    all =
        length-enumerate_from 0 side_by_side
        ∙ omega (arith, length-zip (take n starts) (take n lens), length-take-le n starts starts_all, length-take-le n lens lens_all)

    has : (k i start len : ℕ) → k < length (enumerate_from 0 side_by_side) → (i, (start, len)) ≡ get_or (enumerate_from 0 side_by_side) k (i, (start, len)) → Turned k i start len
    has k i start len h e =
        let less : k < n = omega (arith, h, all) in
        let first : k < length (take n starts) = omega (arith, less, length-take-le n starts starts_all) in
        let second : k < length (take n lens) = omega (arith, less, length-take-le n lens lens_all) in
        let both : k < length side_by_side = omega (arith, h, length-enumerate_from 0 side_by_side) in
        let pair = e ∙ get_or-enumerate_from 0 side_by_side k (i, (start, len)) both in
        let parts = ap (λ (p : ℕ × (ℕ × ℕ)). p.1) pair ∙ get_or-zip (take n starts) (take n lens) k (start, len) first second in
        record {
          below = less;
          number = omega (arith, ap (λ (p : ℕ × (ℕ × ℕ)). p.0) pair);
          start_is = ap (λ (p : ℕ × ℕ). p.0) parts ∙ get_or-take n starts k start less ∙ get_or_default starts k start 0 (omega (arith, less, starts_all));
          len_is = ap (λ (p : ℕ × ℕ). p.1) parts ∙ get_or-take n lens k len less ∙ get_or_default lens k len 0 (omega (arith, less, lens_all));
        }

    module _ (s t u : Enumerate (Zip (Iter ℕ) (Iter ℕ))) (r : Option (ℕ × (Bor ℕ × Bor ℕ))) (xs : List (ℕ × (Bor ℕ × Bor ℕ))) (from : Goes s) (y : Yields Steps s xs t) where
      pub turned : (p : ℕ × (Bor ℕ × Bor ℕ)) → r ≡ Some p → Steps t r u → Turned (length xs) p.0 p.1.0.now p.1.1.now
      turned p is step =
          let at = YieldsList-turn from.runs xs t y r u p is step in
          has (length xs) p.0 p.1.0.now p.1.1.now at.0 at.1

      pub ended : r ≡ None → Steps t r u → length xs ≡ n
      ended is step = (YieldsList-end from.runs xs t y r u is step).1 ∙ all
