-- Two pictures of one breadth, glued together, are joined: a cut takes the picture apart into them again.
use Prim.Native.Nat.{ℕ, ◌+◌, ◌≤◌, ◌<◌}
use mathlib.Core.Path.{◌≡◌, refl, sym, ◌∙◌, ap}
use mathlib.Core.Bool.{Bool}
use native.Mathlib.Omega.{arith}
use lib.Dec.{ltb}
use borrow.Author.Tests.{lt-ltb, le-ltb}
use Rattle.names.specs.Pick.{pick}
use Rattle.names.specs.Name.{Name}
use Rattle.books.specs.Joined.{Joined, other, glued}
use Rattle.books.specs.Picture.{Picture, size}
use Rattle.books.specs.declared.rule.Dir.{Dir}
use Rattle.books.specs.declared.rule.Dir.TheVariants.{Across as across, Down as down}

at_first : (n j : ℕ) (x y : Name) → j < n → x ≡ pick (ltb j n) x y
at_first n j x y h = sym (ap (λ (t : Bool). pick t x y) (lt-ltb j n h))

at_rest : (n j : ℕ) (x y z : Name) → n ≤ j → z ≡ y → z ≡ pick (ltb j n) x y
at_rest n j x y z h e = e ∙ sym (ap (λ (t : Bool). pick t x y) (le-ltb j n h))

pub glued-joined : (d : Dir) (p q : Picture) → size (other d) p ≡ size (other d) q → Joined d p q (glued d p q)
glued-joined across p q e =
    record {
      sizes = refl;
      front = record { same_rows = refl; same_cols = refl; same_cell = λ i j hi hj. at_first p.cols j _ _ hj };
      back = record {
        same_rows = sym e;
        same_cols = omega arith;
        same_cell = λ i j hi hj. at_rest p.cols (p.cols + j) _ _ _ (omega arith) (ap (λ (n : ℕ). q.cell i n) (omega arith));
      };
    }
glued-joined down p q e =
    record {
      sizes = refl;
      front = record { same_rows = refl; same_cols = refl; same_cell = λ i j hi hj. at_first p.rows i _ _ hi };
      back = record {
        same_rows = omega arith;
        same_cols = sym e;
        same_cell = λ i j hi hj. at_rest p.rows (p.rows + i) _ _ _ (omega arith) (ap (λ (n : ℕ). q.cell n j) (omega arith));
      };
    }
