-- A size passes the test exactly where its rows and its columns are each from 1 to the most: the two tests are made in turn.
use Prim.Native.Nat.{ℕ, ◌≤◌}
use mathlib.Core.Path.{◌≡◌}
use mathlib.Core.Bool.{true}
use mathlib.Core.Logic.{◌↔◌}
use native.Mathlib.Omega.{arith}
use borrow.Author.Tests.{ltb-true, lt-ltb, leb-true, le-leb}
use lib.Dec.{ltb, leb}
use Rattle.names.proofs.Tests.{and_both, and-make}
use Rattle.books.specs.Size.{Within, one_to?, within?}

one_to-exactly : (most n : ℕ) → (one_to? most n ≡ true) ↔ ((1 ≤ n) × (n ≤ most))
unfolding one_to?
one_to-exactly most n = (
  λ e. let (some, few) = and_both (ltb 0 n) (λ _. leb n most) e in (ltb-true 0 n some, leb-true n most few),
  λ h. and-make (ltb 0 n) _ (lt-ltb 0 n h.0) (le-leb n most h.1),
)

pub within-exactly : (most rows cols : ℕ) → (within? most rows cols ≡ true) ↔ Within most rows cols
unfolding within?
within-exactly most rows cols = (
  λ e.
      let (r, c) = and_both (one_to? most rows) (λ _. one_to? most cols) e in
      let (rows_some, rows_few) = (one_to-exactly most rows).0 r in
      let (cols_some, cols_few) = (one_to-exactly most cols).0 c in
      record { rows_some = rows_some; rows_few = rows_few; cols_some = cols_some; cols_few = cols_few },
  λ w.
      and-make (one_to? most rows) _ ((one_to-exactly most rows).1 (w.rows_some, w.rows_few))
      ((one_to-exactly most cols).1 (w.cols_some, w.cols_few)),
)

-- what is within the one is within any that is no less
pub within_more : {less more rows cols : ℕ} → less ≤ more → Within less rows cols → Within more rows cols
within_more h w =
    record { rows_some = w.rows_some; rows_few = omega (arith, h, w.rows_few); cols_some = w.cols_some; cols_few = omega (arith, h, w.cols_few) }
