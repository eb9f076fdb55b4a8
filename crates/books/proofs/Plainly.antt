-- The three bullets of `Plain` say what `Derives` says: an across join and a down join are the two directions of one join.
use Prim.Native.Nat.{ℕ, ◌≤◌}
use mathlib.Core.Logic.{◌↔◌}
use native.Mathlib.Omega.{arith}
use lib.ListN.{length}
use Rattle.names.specs.Name.{Name}
use Rattle.books.specs.Contents.{Contents, Called}
use Rattle.books.specs.Picture.{Picture}
use Rattle.books.specs.declared.rule.Dir.TheVariants.{Across as across, Down as down}
use Rattle.books.specs.Derives.{Derives, paint, join}
use Rattle.books.specs.Plain.{Plain, coloured, joined_across, joined_down}

there : {b : Contents} {a : ℕ} {p : Picture} → Plain b a p → Derives b a p
there (coloured c h hr hc e) = paint c h hr hc e
there (joined_across l r k h hk hs x y) = join across l r k h hk hs (there x) (there y)
there (joined_down u v k h hk hs x y) = join down u v k h hk hs (there x) (there y)

back : {b : Contents} {a : ℕ} {p : Picture} → Derives b a p → Plain b a p
back (paint c h hr hc e) = coloured c h hr hc e
back (join across l r k h hk hs x y) = joined_across l r k h hk hs (back x) (back y)
back (join down u v k h hk hs x y) = joined_down u v k h hk hs (back x) (back y)

pub plainly : (b : Contents) (a : ℕ) (p : Picture) → Plain b a p ↔ Derives b a p
plainly b a p = (there, back)

-- A rule whose colour number is past the list paints no cell, whatever the cell's name.
pub paints-nothing : (b : Contents) (c : ℕ) (n : Name) → length b.colours ≤ c → Called b c n → ⊥
paints-nothing b c n past (low, is) = omega arith
