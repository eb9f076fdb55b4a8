-- A node is right for its motif and its piece, or it fails, and never both: each of the request's ways of failing is the failure of one test, and when all are passed the
-- node is right.
use Prim.Native.Nat.{ℕ, ◌≤◌, ◌<◌}
use mathlib.Core.Path.{◌≡◌, refl, sym, ap, ◌∙◌}
use mathlib.Core.Bool.{true, false, false≢true}
use mathlib.Core.Logic.{◌⊎◌, inl, inr}
use native.Mathlib.Decide.{ℕ_discrete}
use native.Mathlib.Omega.{arith}
use lib.ListN.{length}
use Rattle.names.proofs.Tests.{true-or-false, lt-or-le}
use Rattle.books.specs.Contents.{Contents}
use Rattle.books.specs.Decide.{called?}
use Rattle.books.specs.Picture.{Picture, joins, size}
use Rattle.books.specs.declared.rule.Dir.{Dir}
use Rattle.books.specs.declared.rule.Dir.TheVariants.{Across as across, Down as down}
use Rattle.books.specs.declared.rule.Rule.{Rule}
use Rattle.books.specs.declared.rule.Body.{Body}
use Rattle.books.specs.declared.rule.Body.TheVariants.{Colour, Across, Down}
use Rattle.books.proofs.Deciding.{called}
use Rattle.pieces.specs.Given.{At}
use Rattle.trees.specs.declared.node.Node.{Node}
use Rattle.trees.specs.Trees.{Paints, Joins, Right, paints, joins_two, rule_of, Fails, no_such_rule, other_head, many_cells, other_colour, cut_cell, first_empty, rest_empty}

colours-same : (c e : ℕ) → Colour c ≡ Colour e → c ≡ e
colours-same c e h = cc

pub colour-join : (c : ℕ) (d : Dir) (l r : ℕ) → Colour c ≡ joins d l r → ⊥
colour-join c across l r h = let z : ◌≡◌ {A = ℕ} 0 1 = cc in omega arith
colour-join c down l r h = let z : ◌≡◌ {A = ℕ} 0 1 = cc in omega arith

joins-same : (d e : Dir) (l r u w : ℕ) → joins d l r ≡ joins e u w → d ≡ e
joins-same across across l r u w h = refl
joins-same across down l r u w h = absurd (let z : ◌≡◌ {A = ℕ} 0 1 = cc in omega arith)
joins-same down across l r u w h = absurd (let z : ◌≡◌ {A = ℕ} 0 1 = cc in omega arith)
joins-same down down l r u w h = refl

module _ (b : Contents) (a : ℕ) (p : Picture) (v : Node) where
  -- ── Never both ──

  body_is : {x : Body} → At b v.rule a x → (rule_of b v).body ≡ x
  body_is u = ap (λ (r : Rule). r.body) u.rule_is

  paints-fails : (c : ℕ) → Paints b a p v c → Fails b a p v → ⊥
  paints-fails c u (no_such_rule h) = omega (arith, u.ruled.below)
  paints-fails c u (other_head n) = n (ap (λ (r : Rule). r.head) u.ruled.rule_is)
  paints-fails c u (many_cells e h n) = n (u.one_row, u.one_column)
  paints-fails c u (other_colour e h n) = n (rw (colours-same e c (sym h ∙ body_is u.ruled)) u.coloured)
  paints-fails c u (cut_cell e h n) = n u.uncut
  paints-fails c u (first_empty d l r h e) = colour-join c d l r (sym (body_is u.ruled) ∙ h)
  paints-fails c u (rest_empty d l r h e) = colour-join c d l r (sym (body_is u.ruled) ∙ h)

  joins-fails : (d : Dir) (l r : ℕ) → Joins b a p v d l r → Fails b a p v → ⊥
  joins-fails d l r u (no_such_rule h) = omega (arith, u.ruled.below)
  joins-fails d l r u (other_head n) = n (ap (λ (r : Rule). r.head) u.ruled.rule_is)
  joins-fails d l r u (many_cells c h n) = colour-join c d l r (sym h ∙ body_is u.ruled)
  joins-fails d l r u (other_colour c h n) = colour-join c d l r (sym h ∙ body_is u.ruled)
  joins-fails d l r u (cut_cell c h n) = colour-join c d l r (sym h ∙ body_is u.ruled)
  joins-fails d l r u (first_empty e x y h z) = omega (arith, u.from_one)
  joins-fails d l r u (rest_empty e x y h z) =
      let same : e ≡ d = joins-same e d x y l r (sym h ∙ body_is u.ruled) in
      let wide : size d p ≤ v.cut = rw same at z in
      omega (arith, wide, u.inside)

  pub never_both : Right b a p v → Fails b a p v → ⊥
  never_both (paints c u) = paints-fails c u
  never_both (joins_two d l r u) = joins-fails d l r u

  -- ── One of the two ──

  module _ (below : v.rule < length b.rules) (headed : (rule_of b v).head ≡ a) where
    at : (x : Body) → (rule_of b v).body ≡ x → At b v.rule a x
    at x e = record { below = below; rule_is = λ i. record { head = headed i; body = e i } }

    cell-one : (c : ℕ) → (rule_of b v).body ≡ Colour c → Right b a p v ⊎ Fails b a p v
    cell-one c e = by-cut (ℕ_discrete v.cut 0)
      where
        by-colour : v.cut ≡ 0 → p.rows ≡ 1 → p.cols ≡ 1 → (called? b c (p.cell 0 0) ≡ true) ⊎ (called? b c (p.cell 0 0) ≡ false) → Right b a p v ⊎ Fails b a p v
        by-colour k h w (inl t) =
            inl (paints c (record { ruled = at (Colour c) e; uncut = k; one_row = h; one_column = w; coloured = (called b c (p.cell 0 0)).0 t }))
        by-colour k h w (inr t) = inr (other_colour c e (λ n. false≢true (sym t ∙ (called b c (p.cell 0 0)).1 n)))

        by_size : v.cut ≡ 0 → Dec (p.rows ≡ 1) → Dec (p.cols ≡ 1) → Right b a p v ⊎ Fails b a p v
        by_size k (yes h) (yes w) = by-colour k h w (true-or-false (called? b c (p.cell 0 0)))
        by_size k (yes h) (no n) = inr (many_cells c e (λ z. n z.1))
        by_size k (no n) w = inr (many_cells c e (λ z. n z.0))

        by-cut : Dec (v.cut ≡ 0) → Right b a p v ⊎ Fails b a p v
        by-cut (yes k) = by_size k (ℕ_discrete p.rows 1) (ℕ_discrete p.cols 1)
        by-cut (no n) = inr (cut_cell c e n)

    join_one : (d : Dir) (l r : ℕ) → (rule_of b v).body ≡ joins d l r → Right b a p v ⊎ Fails b a p v
    join_one d l r e = by-cut (ℕ_discrete v.cut 0)
      where
        by-reach : (v.cut ≡ 0 → ⊥) → (v.cut < size d p) ⊎ (size d p ≤ v.cut) → Right b a p v ⊎ Fails b a p v
        by-reach n (inl h) = inl (joins_two d l r (record { ruled = at (joins d l r) e; from_one = omega (arith, n); inside = h }))
        by-reach n (inr h) = inr (rest_empty d l r e h)

        by-cut : Dec (v.cut ≡ 0) → Right b a p v ⊎ Fails b a p v
        by-cut (yes z) = inr (first_empty d l r e z)
        by-cut (no n) = by-reach n (lt-or-le v.cut (size d p))

    body-one : (x : Body) → (rule_of b v).body ≡ x → Right b a p v ⊎ Fails b a p v
    body-one (Colour c) e = cell-one c e
    body-one (Across l r) e = join_one across l r e
    body-one (Down u w) e = join_one down u w e

  pub right-or-fails : Right b a p v ⊎ Fails b a p v
  right-or-fails = by-rule (lt-or-le v.rule (length b.rules))
    where
      by-head : v.rule < length b.rules → Dec ((rule_of b v).head ≡ a) → Right b a p v ⊎ Fails b a p v
      by-head h (yes e) = body-one h e (rule_of b v).body refl
      by-head h (no n) = inr (other_head n)

      by-rule : (v.rule < length b.rules) ⊎ (length b.rules ≤ v.rule) → Right b a p v ⊎ Fails b a p v
      by-rule (inl h) = by-head h (ℕ_discrete (rule_of b v).head a)
      by-rule (inr h) = inr (no_such_rule h)
