-- `Joined` is the join: it holds of two pictures of one breadth and the picture that they make glued together, and of no other picture. What is shown
-- across holds down, since a picture joined down is one joined across, transposed.
use Prim.Native.Nat.{ℕ, ◌+◌, ◌-◌, ◌≤◌, ◌<◌}
use mathlib.Core.Path.{◌≡◌, sym, ◌∙◌, ap}
use mathlib.Core.Logic.{⊎_elim, ◌↔◌}
use native.Mathlib.Omega.{arith}
use Rattle.names.proofs.Tests.{lt-or-le}
use Rattle.books.specs.Joined.{Joined, other, glued}
use Rattle.books.specs.Picture.{Picture, Same, size, first, rest}
use Rattle.books.specs.declared.rule.Dir.TheVariants.{Across as across, Down as down}
use Rattle.books.specs.declared.rule.Dir.{Dir}
use Rattle.books.proofs.Gluing.{glued-joined}
use Rattle.books.proofs.SamePictures.{same_refl, same-trans, same_size, same_first, same_rest}
use Rattle.families.specs.Joined.{Both}
use Rattle.families.specs.Images.{transpose}
use Rattle.families.proofs.Images.{same-turned}

to-across : {p q r : Picture} → Joined down p q r → Joined across (transpose p) (transpose q) (transpose r)
to-across j = record { sizes = j.sizes; front = same-turned j.front; back = same-turned j.back }

-- Two pictures that are joined are of one breadth.
pub joined-level : (d : Dir) (p q r : Picture) → Joined d p q r → size (other d) p ≡ size (other d) q
joined-level across p q r j = j.front.same_rows ∙ sym j.back.same_rows
joined-level down p q r j = j.front.same_cols ∙ sym j.back.same_cols

-- The join is one picture: each of its cells lies in the first part or in the rest.
unique-across : (p q r s : Picture) → Joined across p q r → Joined across p q s → Same r s
unique-across p q r s j k =
    record {
      same_rows = sym j.front.same_rows ∙ k.front.same_rows;
      same_cols = sym j.sizes ∙ k.sizes;
      same_cell = λ y x hy hx.
          let hp : y < p.rows = omega (arith, j.front.same_rows) in
          let hq : y < q.rows = omega (arith, j.back.same_rows) in
          ⊎_elim
          (λ (h : x < p.cols). sym (j.front.same_cell y x hp h) ∙ k.front.same_cell y x hp h)
          (λ (h : p.cols ≤ x).
          let hx' : x - p.cols < q.cols = omega (arith, j.sizes) in
          let e : p.cols + (x - p.cols) ≡ x = omega arith in
          ap (r.cell y) (sym e) ∙ sym (j.back.same_cell y (x - p.cols) hq hx') ∙ k.back.same_cell y (x - p.cols) hq hx' ∙ ap (s.cell y) e)
          (lt-or-le x p.cols);
    }

pub joined-unique : (d : Dir) (p q r s : Picture) → Joined d p q r → Joined d p q s → Same r s
joined-unique across p q r s j k = unique-across p q r s j k
joined-unique down p q r s j k = same-turned (unique-across (transpose p) (transpose q) (transpose r) (transpose s) (to-across j) (to-across k))

pub joined_same : (d : Dir) {p q r s : Picture} → Same r s → Joined d p q r → Joined d p q s
joined_same d {p} {q} {r} {s} e j =
    record {
      sizes = j.sizes ∙ same_size d e;
      front = same-trans j.front (same_first d (size d p) (omega (arith, j.sizes)) e);
      back = same-trans j.back (same_rest d (size d p) e);
    }

-- So the join is exactly the picture glued, of two pictures of one breadth.
pub joining : (d : Dir) (p q r : Picture) → Joined d p q r ↔ ((size (other d) p ≡ size (other d) q) × Same (glued d p q) r)
joining d p q r = (
  λ j. let e = joined-level d p q r j in (e, joined-unique d p q (glued d p q) r (glued-joined d p q e) j),
  λ u. joined_same d u.1 (glued-joined d p q u.0),
)

-- The two parts of a cut join to the whole.
pub cut-joined : (d : Dir) (p : Picture) (k : ℕ) → k < size d p → Joined d (first d k p) (rest d k p) p
cut-joined across p k h = record { sizes = omega arith; front = same_refl _; back = same_refl _ }
cut-joined down p k h = record { sizes = omega arith; front = same_refl _; back = same_refl _ }

-- Joins of sets grow with the sets.
pub both-map : (d : Dir) {X Y X' Y' : Picture → Type 0} {r : Picture} → ((p : Picture) → X p → X' p) → ((p : Picture) → Y p → Y' p)
    → Both d X Y r → Both d X' Y' r
both-map d f g y =
    record { left = y.left; right = y.right; left_in = f _ y.left_in; right_in = g _ y.right_in; whole = y.whole }
