-- `has_size?` is true exactly when the motif has the size: a size is what the rules give, and a cut leaves fewer rows and columns in all.
use Prim.Native.Nat.{ℕ, ◌+◌, ◌≤◌, ◌<◌}
use mathlib.Core.Path.{◌≡◌}
use mathlib.Core.Bool.{true}
use mathlib.Core.Logic.{◌↔◌}
use native.Mathlib.Omega.{arith}
use lib.ListN.{length}
use borrow.Author.Tests.{ltb-true, lt-ltb}
use Rattle.books.specs.Contents.{Contents}
use Rattle.books.specs.declared.rule.Dir.TheVariants.{Across as across, Down as down}
use Rattle.books.specs.declared.rule.Dir.{Dir}
use Rattle.books.specs.Search.{Lessens}
use Rattle.books.proofs.Searches.{one_cell, searched}
use Rattle.books.specs.declared.size.Size.{Size}
use Rattle.sizes.specs.Size.{reach, first_part, rest_part}
use Rattle.sizes.specs.HasSize.{sizes, HasSize}
use Rattle.sizes.specs.Test.{has_size?}

first_less : (d : Dir) (k : ℕ) (s : Size) → 1 ≤ k → k < reach d s → (first_part d k s).rows + (first_part d k s).cols < s.rows + s.cols
first_less across k s h l = omega arith
first_less down k s h l = omega arith

rest_less : (d : Dir) (k : ℕ) (s : Size) → 1 ≤ k → k < reach d s → (rest_part d k s).rows + (rest_part d k s).cols < s.rows + s.cols
rest_less across k s h l = omega arith
rest_less down k s h l = omega arith

sizes-lessen : (b : Contents) → Lessens (sizes b) (λ s. s.rows + s.cols)
sizes-lessen b =
    record {
      tested = λ c s. one_cell s.rows s.cols _ (ltb-true c (length b.colours), lt-ltb c (length b.colours));
      first_less = first_less;
      rest_less = rest_less;
      cell_some = λ c s e. omega (arith, e.0);
    }

pub size-decided : (b : Contents) (a : ℕ) (s : Size) → (has_size? b a s ≡ true) ↔ HasSize b a s
unfolding has_size?
size-decided b a s = searched (sizes b) b.rules _ (sizes-lessen b) a s
