-- A motif has a size exactly when it derives some picture of that size, whatever the size: a derivation keeps its cuts when the colours are forgotten, and
-- where sizes join, pictures of those sizes are glued together.
use Prim.Native.Nat.{◌-◌, ℕ}
use mathlib.Core.Path.{◌≡◌, refl, sym, ◌∙◌}
use mathlib.Core.Logic.{◌↔◌}
use native.Mathlib.Omega.{arith}
use Rattle.books.specs.Contents.{Contents, Has, name}
use Rattle.books.specs.Joined.{other, glued}
use Rattle.books.specs.Picture.{Picture, joins, size}
use Rattle.books.specs.declared.rule.Dir.TheVariants.{Across as across, Down as down}
use Rattle.books.specs.declared.rule.Dir.{Dir}
use Rattle.books.specs.Derives.{Derives, paint, join}
use Rattle.books.specs.Search.{paint as cell, join as join_sizes}
use Rattle.books.proofs.Gluing.{glued-joined}
use Rattle.books.proofs.NothingEmpty.{derives-size}
use Rattle.books.proofs.SamePictures.{derives-same}
use Rattle.books.specs.declared.size.Size.{Size}
use Rattle.books.specs.Size.{size_by as by}
use Rattle.sizes.specs.HasSize.{HasSize}
use Rattle.sizes.specs.Promise.{SomeSheet}

-- ── The colours forgotten ──

derived-size : {b : Contents} {a : ℕ} {p : Picture} → Derives b a p → HasSize b a (by p.rows p.cols)
derived-size (paint c h hr hc e) = cell c h (hr, hc, e.0)
derived-size (join across l r k h hk hs x y) = join_sizes across l r k h hk hs (derived-size x) (derived-size y)
derived-size (join down l r k h hk hs x y) = join_sizes down l r k h hk hs (derived-size x) (derived-size y)

-- ── Pictures glued ──

glued-derived : {b : Contents} {a : ℕ} (d : Dir) (l r : ℕ) (p q : Picture) → Has b a (joins d l r) → size (other d) p ≡ size (other d) q
    → Derives b l p → Derives b r q → Derives b a (glued d p q)
glued-derived d l r p q h e x y =
    let j = glued-joined d p q e in
    join {p = glued d p q} d l r (size d p) h (derives-size d x) (omega (arith, derives-size d y, j.sizes)) (derives-same j.front x) (derives-same j.back y)

size-derived : {b : Contents} {a : ℕ} {s : Size} → HasSize b a s → SomeSheet b a s.rows s.cols
size-derived {b = b} (cell c h (hr, hc, fits)) =
    let one : Picture = record { rows = 1; cols = 1; cell = λ _ _. name b c } in
    record { sheet = one; derived = paint {p = one} c h refl refl (fits, refl); rows_are = sym hr; cols_are = sym hc }
size-derived {b = b} {s = s} (join_sizes across l r k h hk hs x y) =
    let u = size-derived {b = b} {a = l} {s = by s.rows k} x in
    let v = size-derived {b = b} {a = r} {s = by s.rows (s.cols - k)} y in
    record {
      sheet = glued across u.sheet v.sheet;
      derived = glued-derived across l r u.sheet v.sheet h (u.rows_are ∙ sym v.rows_are) u.derived v.derived;
      rows_are = u.rows_are;
      cols_are = omega (arith, u.cols_are, v.cols_are);
    }
size-derived {b = b} {s = s} (join_sizes down l r k h hk hs x y) =
    let u = size-derived {b = b} {a = l} {s = by k s.cols} x in
    let v = size-derived {b = b} {a = r} {s = by (s.rows - k) s.cols} y in
    record {
      sheet = glued down u.sheet v.sheet;
      derived = glued-derived down l r u.sheet v.sheet h (u.cols_are ∙ sym v.cols_are) u.derived v.derived;
      rows_are = omega (arith, u.rows_are, v.rows_are);
      cols_are = u.cols_are;
    }

pub sizes_of-sheets : (b : Contents) (a r c : ℕ) → HasSize b a (by r c) ↔ SomeSheet b a r c
sizes_of-sheets b a r c = (
  size-derived,
  λ x. rw (← x.rows_are, ← x.cols_are) (derived-size x.derived),
)
