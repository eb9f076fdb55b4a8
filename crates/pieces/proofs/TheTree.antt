-- The tree of a derived picture: it is the derivation given, and that is one list of 2(2mn - 1) small numbers, which exists exactly where the
-- picture is derived. Any two exact views give the same tree, so that the code's table gives this one.
use Prim.Native.Nat.{ℕ, ◌-◌, ◌*◌, ◌≤◌}
use mathlib.Core.Path.{◌≡◌}
use mathlib.Core.List.{List}
use mathlib.Core.Logic.{◌↔◌}
use native.Mathlib.Omega.{arith}
use lib.ListN.{length}
use Rattle.books.specs.Contents.{Contents}
use Rattle.books.specs.Picture.{Picture}
use Rattle.books.specs.Derives.{Derives}
use Rattle.books.specs.Decide.{derives?}
use Rattle.books.proofs.NothingEmpty.{derives-rows, derives-cols}
use Rattle.pieces.specs.Pieces.{Inside}
use Rattle.pieces.specs.Area.{whole, tree_size}
use Rattle.pieces.specs.Table.{cut}
use Rattle.pieces.specs.View.{View, named}
use Rattle.pieces.proofs.ExactViews.{Exact}
use Rattle.pieces.specs.Given.{Given}
use Rattle.pieces.specs.Tree.{tree_of, tree}
use Rattle.pieces.specs.inner.Fitted.{Fitted}
use Rattle.pieces.proofs.Cutting.{whole-inside, cut-whole}
use Rattle.pieces.proofs.EveryNode.{exact-fitted}
use Rattle.pieces.proofs.TreeSteps.{Small, tree-length, tree-small}
use Rattle.pieces.proofs.Giving.{given-unique, given-derives}
use Rattle.pieces.proofs.TreeGiven.{piece-given}
use Rattle.pieces.proofs.ExactViews.{named-exact}

-- Where a motif derives the picture, an exact view's tree of the whole is the derivation given.
whole-given : (b : Contents) (p : Picture) (v : View) → Exact b p v → (a : ℕ) → Derives b a p → Given b a p (tree_of v b.rules a (whole p.rows p.cols))
whole-given b p v exact a x =
    rw (cut-whole p) at (piece-given b p v exact a (whole p.rows p.cols) (whole-inside _ _ (derives-rows x) (derives-cols x)) (rw (cut-whole p) x))

pub tree-given : (b : Contents) (p : Picture) → Derives b b.start p → Given b b.start p (tree b p)
tree-given b p x = whole-given b p _ (named-exact b p) b.start x

-- The derivation given exists exactly where the motif derives the picture. That it is one is `given-unique`.
pub given-exists : (b : Contents) (a : ℕ) (p : Picture) → ((xs : List ℕ) × Given b a p xs) ↔ Derives b a p
given-exists b a p = (λ g. given-derives g.1, λ x. (_, whole-given b p _ (named-exact b p) a x))

-- An exact view gives the tree.
pub exact-tree : (b : Contents) (p : Picture) (v : View) → Exact b p v → Derives b b.start p
    → tree_of v b.rules b.start (whole p.rows p.cols) ≡ tree b p
exact-tree b p v exact x = given-unique (whole-given b p v exact b.start x) (tree-given b p x)

-- What is true of every tree with a rule that fits at every node is true of the derivation given.
every_given : (b : Contents) (a : ℕ) (p : Picture) (xs : List ℕ) (P : List ℕ → Type 0)
    → ((v : View) → Inside p.rows p.cols (whole p.rows p.cols) → Fitted v b.rules a (whole p.rows p.cols)
    → P (tree_of v b.rules a (whole p.rows p.cols)))
    → Given b a p xs → P xs
every_given b a p xs P each g =
    let x : Derives b a p = given-derives g in
    let v : View = named b p (λ c q. derives? b c (cut p q)) in
    let sheet = whole p.rows p.cols in
    let inside : Inside p.rows p.cols sheet = whole-inside _ _ (derives-rows x) (derives-cols x) in
    let set = ((named-exact b p).has_exact a sheet inside).1 (rw (cut-whole p) x) in
    rw (given-unique g (whole-given b p v (named-exact b p) a x)) (each v inside (exact-fitted b p v (named-exact b p) a sheet inside set))

pub given-length : (b : Contents) (a : ℕ) (p : Picture) (xs : List ℕ) → Given b a p xs → length xs ≡ 2 * (2 * (p.rows * p.cols) - 1)
given-length b a p xs =
    every_given b a p xs (λ l. length l ≡ tree_size (whole p.rows p.cols))
    (λ v i. tree-length v b.rules p.rows p.cols a (whole p.rows p.cols) i)

pub given-small : (b : Contents) (a : ℕ) (p : Picture) (xs : List ℕ) → length b.rules ≤ 65536 → p.rows ≤ 65536 → p.cols ≤ 65536
    → Given b a p xs → Small 65536 xs
given-small b a p xs hr hm hn =
    every_given b a p xs (Small 65536)
    (λ v i. tree-small v b.rules p.rows p.cols 65536 hr hm hn (omega arith) a (whole p.rows p.cols) i)
