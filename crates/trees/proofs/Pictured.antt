-- The rows that the steps take are the trees: a step takes a node exactly where it is right, since its tests of a picture are exact.
use Prim.Native.Nat.{ℕ}
use mathlib.Core.Path.{◌≡◌, refl, sym, ◌∙◌, subst}
use mathlib.Core.List.{List}
use mathlib.Core.Logic.{⊎_elim}
use native.Mathlib.Omega.{arith}
use Rattle.books.specs.Contents.{Contents}
use Rattle.books.specs.Picture.{Picture}
use Rattle.books.specs.declared.rule.Dir.{Dir}
use Rattle.books.specs.Decide.{pictures}
use Rattle.books.proofs.Deciding.{pictures-lessen}
use Rattle.trees.specs.declared.node.Node.{Node}
use Rattle.trees.specs.Trees.{Paints, Joins, Right, paints, joins_two, Fails, TreeOf, leaf, node, FailsAt, missing, here, in_first, in_rest}
use Rattle.trees.specs.Judge.{step, Step, Wrong, Cell, Join}
use Rattle.trees.proofs.RightOrFails.{never_both, right-or-fails}
use Rattle.trees.proofs.Steps.{Means, step-means, step-cell, step-parts}
use Rattle.trees.proofs.Rows.{Row, leaf as leaf_taken, node as node_taken, Stops, missing as none, here as stops_here, in_first as Stops-first, in_rest as stops_rest}

module _ (b : Contents) where
  module _ (a : ℕ) (p : Picture) (v : Node) where
    abbrev stepped : Step
    stepped = step (pictures b) b.rules a p v

    told : (s : Step) → stepped ≡ s → Means (pictures b) b.rules a p v s
    told s e = subst (λ (t : Step). Means (pictures b) b.rules a p v t) e (step-means (pictures b) b.rules a p v)

    paints-step : (c : ℕ) → Paints b a p v c → stepped ≡ Cell
    paints-step c u =
        step-cell (pictures b) b.rules a p v c
        (record {
          ruled = record { below = u.ruled.below; rule_is = u.ruled.rule_is };
          uncut = u.uncut;
          shown = ((pictures-lessen b).tested c p).1 (u.one_row, u.one_column, u.coloured);
        })

    joins-step : (d : Dir) (l r : ℕ) → Joins b a p v d l r → stepped ≡ Join d l r
    joins-step d l r u =
        step-parts (pictures b) b.rules a p v d l r
        (record { ruled = record { below = u.ruled.below; rule_is = u.ruled.rule_is }; from_one = u.from_one; inside = u.inside })

    step-paints : stepped ≡ Cell → (c : ℕ) × Paints b a p v c
    step-paints e =
        let (c, u) : Means (pictures b) b.rules a p v Cell = told Cell e in
        let (r, k, n) = ((pictures-lessen b).tested c p).0 u.shown in (
          c,
          record {
            ruled = record { below = u.ruled.below; rule_is = u.ruled.rule_is };
            uncut = u.uncut;
            one_row = r;
            one_column = k;
            coloured = n;
          },
        )

    step-joins : (d : Dir) (l r : ℕ) → stepped ≡ Join d l r → Joins b a p v d l r
    step-joins d l r e =
        let u : Means (pictures b) b.rules a p v (Join d l r) = told (Join d l r) e in
        record { ruled = record { below = u.ruled.below; rule_is = u.ruled.rule_is }; from_one = u.from_one; inside = u.inside }

    step-fails : stepped ≡ Wrong → Fails b a p v
    step-fails e = ⊎_elim (λ u. absurd (right-wrong u)) (λ f. f) (right-or-fails b a p v)
      where
        wrong-cell : ◌≡◌ {A = Step} Wrong Cell → ⊥
        wrong-cell e = let z : ◌≡◌ {A = ℕ} 0 1 = cc in omega arith

        wrong-join : (d : Dir) (l r : ℕ) → ◌≡◌ {A = Step} Wrong (Join d l r) → ⊥
        wrong-join d l r e = let z : ◌≡◌ {A = ℕ} 0 1 = cc in omega arith

        right-wrong : Right b a p v → ⊥
        right-wrong (paints c u) = wrong-cell (sym e ∙ paints-step c u)
        right-wrong (joins_two d l r u) = wrong-join d l r (sym e ∙ joins-step d l r u)

    fails_step : Fails b a p v → stepped ≡ Wrong
    fails_step f = by-step stepped refl
      where
        by-step : (s : Step) → stepped ≡ s → s ≡ Wrong
        by-step Wrong e = refl
        by-step Cell e = let (c, u) = step-paints e in absurd (never_both b a p v (paints c u) f)
        by-step (Join d l r) e = absurd (never_both b a p v (joins_two d l r (step-joins d l r e)) f)

  -- Trees and failing nodes are what the steps say.
  pub tree-row : {a : ℕ} {p : Picture} {ns : List Node} → TreeOf b a p ns → Row (pictures b) b.rules a p ns
  tree-row (leaf {a} {p} {v} c u) = leaf_taken (paints-step a p v c u)
  tree-row (node {a} {p} {v} d l r u x y) = node_taken d l r (joins-step a p v d l r u) (tree-row x) (tree-row y)

  pub row-tree : {a : ℕ} {p : Picture} {ns : List Node} → Row (pictures b) b.rules a p ns → TreeOf b a p ns
  row-tree (leaf_taken {a} {x} {v} e) = leaf (step-paints a x v e).0 (step-paints a x v e).1
  row-tree (node_taken {a} {x} {v} d l r e t u) = node d l r (step-joins a x v d l r e) (row-tree t) (row-tree u)

  pub fails-stops : {a : ℕ} {p : Picture} {ns : List Node} {i : ℕ} → FailsAt b a p ns i → Stops (pictures b) b.rules a p ns i
  fails-stops missing = none
  fails-stops (here {a} {p} {v} u) = stops_here (fails_step a p v u)
  fails-stops (in_first {a} {p} {v} d l r u x) = Stops-first d l r (joins-step a p v d l r u) (fails-stops x)
  fails-stops (in_rest {a} {p} {v} d l r u x y) = stops_rest d l r (joins-step a p v d l r u) (tree-row x) (fails-stops y)

  pub stops-fails : {a : ℕ} {p : Picture} {ns : List Node} {i : ℕ} → Stops (pictures b) b.rules a p ns i → FailsAt b a p ns i
  stops-fails none = missing
  stops-fails (stops_here {a} {x} {v} e) = here (step-fails a x v e)
  stops-fails (Stops-first {a} {x} {v} d l r e t) = in_first d l r (step-joins a x v d l r e) (stops-fails t)
  stops-fails (stops_rest {a} {x} {v} d l r e t u) = in_rest d l r (step-joins a x v d l r e) (row-tree t) (stops-fails u)
