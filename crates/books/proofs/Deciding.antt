-- `derives?` is true exactly when a derivation exists: a derivation is what the rules give a picture, and a cut leaves fewer rows and columns in all.
use Prim.Native.Nat.{ℕ, ◌+◌, ◌≤◌, ◌<◌}
use mathlib.Core.Path.{◌≡◌, sym, ◌∙◌}
use mathlib.Core.Bool.{true, false, true≢false}
use mathlib.Core.Logic.{◌↔◌}
use native.Mathlib.Omega.{arith}
use borrow.Author.Tests.{ltb-true, lt-ltb}
use Rattle.names.specs.Name.{Name}
use Rattle.names.proofs.SameNames.{same_name_lem}
use Rattle.names.proofs.Tests.{not-true-false, and_both, and-make, both_ways}
use Rattle.books.specs.Contents.{Contents, Called}
use Rattle.books.specs.Picture.{Picture, Same, size, first, rest}
use Rattle.books.specs.declared.rule.Dir.TheVariants.{Across as across, Down as down}
use Rattle.books.specs.declared.rule.Dir.{Dir}
use Rattle.books.specs.Derives.{Derives, paint, join}
use Rattle.books.specs.Search.{Gives, paint as paint_given, join as join_given, any_rule, Lessens}
use Rattle.books.specs.Decide.{called?, pictures, derives?}
use Rattle.books.proofs.SamePictures.{derives-same, same-sym}
use Rattle.books.proofs.Searches.{one_cell, searched, search-step}

-- A colour's name is found where its number is listed.
pub called : (b : Contents) (c : ℕ) (n : Name) → (called? b c n ≡ true) ↔ Called b c n
unfolding called?
called b c n = (
  λ e. let (x, y) = and_both _ _ e in (ltb-true _ _ x, (same_name_lem _ _).0 y),
  λ e. and-make _ _ (lt-ltb _ _ e.0) ((same_name_lem _ _).1 e.1),
)

-- Derivations are what the rules give.
pub derives-gives : {b : Contents} {a : ℕ} {p : Picture} → Derives b a p → Gives (pictures b) b.rules a p
derives-gives (paint c h hr hc e) = paint_given c h (hr, hc, e)
derives-gives (join d l r k h hk hs x y) = join_given d l r k h (omega (arith, hk)) hs (derives-gives x) (derives-gives y)

pub gives-derives : {b : Contents} {a : ℕ} {p : Picture} → Gives (pictures b) b.rules a p → Derives b a p
gives-derives (paint_given c h (hr, hc, e)) = paint c h hr hc e
gives-derives (join_given d l r k h hk hs x y) = join d l r k h hk hs (gives-derives x) (gives-derives y)

first_less : (d : Dir) (k : ℕ) (p : Picture) → 1 ≤ k → k < size d p → (first d k p).rows + (first d k p).cols < p.rows + p.cols
first_less across k p h l = omega arith
first_less down k p h l = omega arith

rest_less : (d : Dir) (k : ℕ) (p : Picture) → 1 ≤ k → k < size d p → (rest d k p).rows + (rest d k p).cols < p.rows + p.cols
rest_less across k p h l = omega arith
rest_less down k p h l = omega arith

pub pictures-lessen : (b : Contents) → Lessens (pictures b) (λ p. p.rows + p.cols)
pictures-lessen b =
    record {
      tested = λ c p. one_cell p.rows p.cols _ (called b c (p.cell 0 0));
      first_less = first_less;
      rest_less = rest_less;
      cell_some = λ c p e. omega (arith, e.0);
    }

-- The search decides what derives.
pub given : (b : Contents) (a : ℕ) (p : Picture) → (derives? b a p ≡ true) ↔ Gives (pictures b) b.rules a p
unfolding derives?
given b a p = searched (pictures b) b.rules _ (pictures-lessen b) a p

pub decided : (b : Contents) (a : ℕ) (p : Picture) → (derives? b a p ≡ true) ↔ Derives b a p
decided b a p = (λ e. gives-derives ((given b a p).0 e), λ x. (given b a p).1 (derives-gives x))

pub refused : (b : Contents) (a : ℕ) (p : Picture) → (derives? b a p ≡ false) ↔ (Derives b a p → ⊥)
refused b a p = (
  λ e x. true≢false (sym ((decided b a p).1 x) ∙ e),
  λ none. not-true-false (derives? b a p) (λ e. none ((decided b a p).0 e)),
)

-- The answer goes by the answers for smaller pictures, ...
pub derives-step : (b : Contents) (a : ℕ) (p : Picture) → derives? b a p ≡ any_rule (pictures b) (derives? b) a p b.rules
unfolding derives?
derives-step b a p = search-step (pictures b) b.rules _ (pictures-lessen b) a p

-- ... and is the same for the same picture.
pub decided-same : (b : Contents) (a : ℕ) {p q : Picture} → Same p q → derives? b a p ≡ derives? b a q
decided-same b a {p} {q} s =
    both_ways _ _
    (λ e. (decided b a q).1 (derives-same s ((decided b a p).0 e)))
    (λ e. (decided b a p).1 (derives-same (same-sym s) ((decided b a q).0 e)))
