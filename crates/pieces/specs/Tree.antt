-- The derivation given, computed, so that a contract can say which numbers a call writes. What it means is `Given` of Given.antt, which a person reads: the
-- tree of a derived picture is the derivation given (`tree-given` in proofs/TheTree.antt), there is one exactly where the picture is derived
-- (`given-exists`, there too), and no other (`given-unique` in proofs/Giving.antt).
use Rattle.std.specs.Prelude.{ℕ, zero, suc, List, [], ◌∷◌, ◌++◌}
use Rattle.books.specs.Contents.{Contents}
use Rattle.books.specs.Picture.{Picture}
use Rattle.books.specs.Decide.{derives?}
use Rattle.books.specs.declared.rule.Rule.{Rule}
use Rattle.pieces.specs.declared.piece.Piece.{Piece}
use Rattle.pieces.specs.declared.choice.Choice.{Choice}
use Rattle.pieces.specs.declared.choice.Choice.TheVariants.{Leaf, Join}
use Rattle.pieces.specs.Area.{whole, area}
use Rattle.pieces.specs.Parts.{first_part, rest_part}
use Rattle.pieces.specs.Table.{cut}
use Rattle.pieces.specs.View.{View, named}
use Rattle.pieces.specs.Choice.{choose}

-- node first, then the left or upper part, then the right or lower part, with `go` for the tree of a part; the cut of a colour rule is written as 0
abbrev pub node_tree : (ℕ → Piece → List ℕ) → Piece → Choice → List ℕ
node_tree go q (Leaf i) = i ∷ 0 ∷ []
node_tree go q (Join i d k l r) = i ∷ k ∷ (go l (first_part d k q) ++ go r (rest_part d k q))

unfoldable pub tree_within : ℕ → View → List Rule → ℕ → Piece → List ℕ
tree_within zero v rules a q = []
tree_within (suc n) v rules a q = node_tree (λ x y. tree_within n v rules x y) q (choose v rules a q)

-- a part has a smaller area, so that the area bounds the depth
unfoldable pub tree_of : View → List Rule → ℕ → Piece → List ℕ
tree_of v rules a q = tree_within (area q) v rules a q

-- the tree of a picture, by the motifs that derive its pieces: the numbers that `Given` singles out
abbrev pub tree : Contents → Picture → List ℕ
tree b p = tree_of (named b p (λ a q. derives? b a (cut p q))) b.rules b.start (whole p.rows p.cols)
