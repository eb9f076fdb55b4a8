-- A derived picture has at least one row and one column, since a colour fills one cell and a cut leaves something on both sides.
-- So the empty picture is derived by nothing.
use Prim.Native.Nat.{ℕ, ◌≤◌}
use mathlib.Core.Path.{◌≡◌}
use native.Mathlib.Omega.{arith}
use Rattle.books.specs.Contents.{Contents}
use Rattle.books.specs.Picture.{Picture, size}
use Rattle.books.specs.declared.rule.Dir.TheVariants.{Across as across, Down as down}
use Rattle.books.specs.declared.rule.Dir.{Dir}
use Rattle.books.specs.Derives.{Derives, paint, join}

pub derives-size : (d : Dir) {b : Contents} {a : ℕ} {p : Picture} → Derives b a p → 1 ≤ size d p
derives-size across (paint c h hr hc e) = omega arith
derives-size down (paint c h hr hc e) = omega arith
derives-size across (join across l r k h hk hs x y) = omega arith
derives-size across (join down l r k h hk hs x y) = derives-size across x
derives-size down (join across l r k h hk hs x y) = derives-size down x
derives-size down (join down l r k h hk hs x y) = omega arith

pub derives-rows : {b : Contents} {a : ℕ} {p : Picture} → Derives b a p → 1 ≤ p.rows
derives-rows x = derives-size down x

pub derives-cols : {b : Contents} {a : ℕ} {p : Picture} → Derives b a p → 1 ≤ p.cols
derives-cols x = derives-size across x

pub nothing-empty : {b : Contents} {a : ℕ} (d : Dir) {p : Picture} → size d p ≡ 0 → Derives b a p → ⊥
nothing-empty d e x = omega (arith, derives-size d x)
