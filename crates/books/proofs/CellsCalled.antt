-- Every cell of a derived picture has a colour of the book: a derivation ends in cells that colour rules paint.
use Prim.Native.Nat.{ℕ, ◌+◌, ◌-◌, ◌<◌}
use mathlib.Core.Path.{◌≡◌, subst}
use mathlib.Core.List.Memᴰ
use mathlib.Core.List.{Memᴰ, []}
use mathlib.Core.Logic.{⊎_elim}
use native.Mathlib.Omega.{arith}
use Rattle.names.proofs.Listing.{get_or-mem}
use Rattle.names.proofs.Tests.{lt-or-le}
use Rattle.books.specs.Contents.{Contents, Called}
use Rattle.books.specs.Derives.{Derives, paint, join}
use Rattle.books.specs.Picture.{Picture}
use Rattle.books.specs.declared.rule.Dir.TheVariants.{Across as across, Down as down}

pub cells-called : {b : Contents} {a : ℕ} {p : Picture} → Derives b a p → (i j : ℕ) → i < p.rows → j < p.cols → (c : ℕ) × Called b c (p.cell i j)
cells-called (paint c h hr hc e) i j hi hj =
    let x : i ≡ 0 = omega arith in
    let y : j ≡ 0 = omega arith in
    (c, rw (x, y) e)
cells-called {b} {p = p} (join across l r k h hk hs x y) i j hi hj =
    ⊎_elim
    (λ g. cells-called x i j hi g)
    (λ g. let e : k + (j - k) ≡ j = omega arith in subst (λ (m : ℕ). (c : ℕ) × Called b c (p.cell i m)) e (cells-called y i (j - k) hi (omega arith)))
    (lt-or-le j k)
cells-called {b} {p = p} (join down l r k h hk hs x y) i j hi hj =
    ⊎_elim
    (λ g. cells-called x i j g hj)
    (λ g. let e : k + (i - k) ≡ i = omega arith in subst (λ (m : ℕ). (c : ℕ) × Called b c (p.cell m j)) e (cells-called y (i - k) j (omega arith) hj))
    (lt-or-le i k)

-- so its name stands in the book's list
pub cells-listed : {b : Contents} {a : ℕ} {p : Picture} → Derives b a p → (i j : ℕ) → i < p.rows → j < p.cols → Memᴰ (p.cell i j) b.colours
cells-listed {b} x i j hi hj = let (c, found) = cells-called x i j hi hj in Memᴰ.cast found.1 (get_or-mem b.colours c [] found.0)
