-- Where a view is exact, the tree of a derived piece is the derivation given. A rule fits exactly where it can derive the piece, so that the
-- lowest rule and the smallest cut are those of the tree, and each part of the cut is derived.
use Prim.Native.Nat.{ℕ, zero, suc, ◌≤◌, ◌<◌}
use mathlib.Core.Path.{sym, ◌∙◌}
use mathlib.Core.Bool.{true≢false}
use mathlib.Core.Logic.{⊎_elim}
use native.Mathlib.Omega.{arith}
use Rattle.names.proofs.Tests.{lt-or-le}
use Rattle.books.specs.Contents.{Contents}
use Rattle.books.specs.Picture.{Picture, joins}
use Rattle.books.specs.Derives.{Derives}
use Rattle.books.specs.declared.rule.Body.{Body}
use Rattle.books.specs.declared.rule.Body.TheVariants.{Colour}
use Rattle.pieces.specs.declared.piece.Piece.{Piece}
use Rattle.books.specs.declared.rule.Dir.{Dir}
use Rattle.pieces.specs.declared.choice.Choice.{Choice}
use Rattle.pieces.specs.declared.choice.Choice.TheVariants.{Leaf, Join}
use Rattle.pieces.specs.Pieces.{Inside}
use Rattle.pieces.specs.Area.{area}
use Rattle.pieces.specs.Parts.{first_part, rest_part}
use Rattle.pieces.specs.Table.{cut}
use Rattle.pieces.specs.View.{View}
use Rattle.pieces.proofs.ExactViews.{Exact}
use Rattle.pieces.specs.Given.{At, Works, Able, Lowest, Given, leaf, node}
use Rattle.pieces.specs.Choice.{choose}
use Rattle.pieces.specs.Tree.{node_tree, tree_within, tree_of}
use Rattle.pieces.proofs.Cutting.{area-pos, cut-first, cut-rest}
use Rattle.pieces.proofs.Choosing.{Taken, Cut, Right, cut-set, set-works, fits-suits, suits-taken, choose-right}
use Rattle.pieces.proofs.EveryNode.{set-exactly, suits-able, derived-fits}
use Rattle.pieces.proofs.TreeSteps.{Parts, parts}

module _ (b : Contents) (p : Picture) (v : View) (exact : Exact b p v) (q : Piece) (inq : Inside p.rows p.cols q) where
  -- The rule that is taken is the lowest, ...
  taken-lowest : (i a : ℕ) (x : Body) → Taken v b.rules a q i x → At b i a x × Able b (cut p q) x × Lowest b a (cut p q) i
  taken-lowest i a x t =
      let u : At b i a x = record { below = t.below; rule_is = t.rule_is } in (
        u,
        (suits-able b p v exact q inq i a x u).0 ((fits-suits v q x).0 t.fitting),
        λ j y uy w. ⊎_elim
            (λ h.
            let here = suits-taken v b.rules a q j y uy.rule_is ((suits-able b p v exact q inq j a y uy).1 w) in
            absurd (true≢false (sym here ∙ t.lower j h)))
            (λ h. h)
            (lt-or-le j i),
      )

  -- ... and the cut that is taken the smallest.
  cut-smallest : (d : Dir) (l r k : ℕ) → Cut v.has d l r q k
      → Works b d l r (cut p q) k × ((j : ℕ) → Works b d l r (cut p q) j → k ≤ j)
  cut-smallest d l r k c = (
    (set-exactly b p v exact q inq d l r k).0 (cut-set v.has d l r q k c.from_one c.inside c.working),
    λ j w. ⊎_elim
        (λ h. absurd (true≢false (sym (set-works v.has d l r q j ((set-exactly b p v exact q inq d l r j).1 w)) ∙ c.lower j w.from_one h)))
        (λ h. h)
        (lt-or-le j k),
  )

-- The law, by the area.
module _ (b : Contents) (p : Picture) (v : View) (exact : Exact b p v) where
  module _ (n a : ℕ) (q : Piece) (inq : Inside p.rows p.cols q)
      (smaller : (x : ℕ) (y : Piece) → Inside p.rows p.cols y → area y < area q → Derives b x (cut p y)
      → Given b x (cut p y) (tree_within n v b.rules x y)) where
    node-given : (o : Choice) → Right v b.rules a q o → Given b a (cut p q) (node_tree (λ x y. tree_within n v b.rules x y) q o)
    node-given (Leaf i) w =
        let (u, able, low) = taken-lowest b p v exact q inq i a (Colour w.0) w.1 in
        leaf i w.0 u able low
    node-given (Join i d k l r) w =
        let (u, able, low) = taken-lowest b p v exact q inq i a (joins d l r) w.0 in
        let (ws, smallest) = cut-smallest b p v exact q inq d l r k w.1 in
        let c : Parts p.rows p.cols d k q = parts p.rows p.cols q inq d k w.1.from_one w.1.inside in
        let gx = smaller l (first_part d k q) c.first_in (omega (arith, c.areas, c.rest_some)) (rw (cut-first p q d k) at ws.first_in) in
        let gy = smaller r (rest_part d k q) c.rest_in (omega (arith, c.areas, c.first_some)) (rw (cut-rest p q d k) at ws.rest_in) in
        node {xs = tree_within n v b.rules l (first_part d k q)} {ys = tree_within n v b.rules r (rest_part d k q)}
        d i l r k u ws low smallest (rw (cut-first p q d k) gx) (rw (cut-rest p q d k) gy)

  given-within : (n a : ℕ) (q : Piece) → Inside p.rows p.cols q → area q ≤ n → Derives b a (cut p q) → Given b a (cut p q) (tree_within n v b.rules a q)
  unfolding tree_within
  given-within zero a q inq h x = absurd (omega (arith, area-pos _ _ q inq))
  given-within (suc n) a q inq h x =
      node-given n a q inq (λ c y iny less z. given-within n c y iny (omega arith) z)
      (choose v b.rules a q) (choose-right v b.rules a q (derived-fits b p v exact q inq x))

  pub piece-given : (a : ℕ) (q : Piece) → Inside p.rows p.cols q → Derives b a (cut p q) → Given b a (cut p q) (tree_of v b.rules a q)
  unfolding tree_of
  piece-given a q inq x = given-within (area q) a q inq (omega arith) x
