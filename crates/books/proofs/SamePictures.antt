-- Derivation goes by rows, columns and the names inside alone: the parts of the same picture are the same.
use Prim.Native.Nat.{ℕ, ◌+◌, ◌-◌, ◌≤◌}
use mathlib.Core.Path.{◌≡◌, refl, sym, ◌∙◌, ap}
use mathlib.Core.Logic.{◌↔◌}
use native.Mathlib.Omega.{arith}
use Rattle.books.specs.Contents.{Contents}
use Rattle.books.specs.Picture.{Picture, Same, size, first, rest}
use Rattle.books.specs.declared.rule.Dir.TheVariants.{Across as across, Down as down}
use Rattle.books.specs.declared.rule.Dir.{Dir}
use Rattle.books.specs.Derives.{Derives, paint, join}

pub same_refl : (p : Picture) → Same p p
same_refl p = record { same_rows = refl; same_cols = refl; same_cell = λ i j hi hj. refl }

pub same-sym : {p q : Picture} → Same p q → Same q p
same-sym {p} {q} s =
    record {
      same_rows = sym s.same_rows;
      same_cols = sym s.same_cols;
      same_cell = λ i j hi hj. sym (s.same_cell i j (omega (arith, s.same_rows)) (omega (arith, s.same_cols)));
    }

pub same-trans : {p q r : Picture} → Same p q → Same q r → Same p r
same-trans {p} {q} {r} s t =
    record {
      same_rows = s.same_rows ∙ t.same_rows;
      same_cols = s.same_cols ∙ t.same_cols;
      same_cell = λ i j hi hj. s.same_cell i j hi hj ∙ t.same_cell i j (omega (arith, s.same_rows)) (omega (arith, s.same_cols));
    }

-- The parts of the same picture are the same.
pub same_size : (d : Dir) {p q : Picture} → Same p q → size d p ≡ size d q
same_size across s = s.same_cols
same_size down s = s.same_rows

pub same_first : (d : Dir) {p q : Picture} (k : ℕ) → k ≤ size d p → Same p q → Same (first d k p) (first d k q)
same_first across k h s =
    record { same_rows = s.same_rows; same_cols = refl; same_cell = λ i j hi hj. s.same_cell i j hi (omega arith) }
same_first down k h s =
    record { same_rows = refl; same_cols = s.same_cols; same_cell = λ i j hi hj. s.same_cell i j (omega arith) hj }

pub same_rest : (d : Dir) {p q : Picture} (k : ℕ) → Same p q → Same (rest d k p) (rest d k q)
same_rest across k s =
    record {
      same_rows = s.same_rows;
      same_cols = ap (λ (n : ℕ). n - k) s.same_cols;
      same_cell = λ i j hi hj. s.same_cell i (k + j) hi (omega arith);
    }
same_rest down k s =
    record {
      same_rows = ap (λ (n : ℕ). n - k) s.same_rows;
      same_cols = s.same_cols;
      same_cell = λ i j hi hj. s.same_cell (k + i) j (omega arith) hj;
    }

-- Derivation goes by what stands inside alone.
pub derives-same : {b : Contents} {a : ℕ} {p q : Picture} → Same p q → Derives b a p → Derives b a q
derives-same {p = p} {q = q} s (paint c h hr hc e) =
    paint c h (sym s.same_rows ∙ hr) (sym s.same_cols ∙ hc) (e.0, sym (s.same_cell 0 0 (omega arith) (omega arith)) ∙ e.1)
derives-same {q = q} s (join d l r k h hk hs x y) =
    join {p = q} d l r k h hk (omega (arith, same_size d s))
    (derives-same (same_first d k (omega arith) s) x)
    (derives-same (same_rest d k s) y)

pub same-derives : {b : Contents} {a : ℕ} {p q : Picture} → Same p q → Derives b a p ↔ Derives b a q
same-derives s = (derives-same s, derives-same (same-sym s))
