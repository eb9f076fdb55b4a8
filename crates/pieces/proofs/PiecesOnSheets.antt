-- Of a piece that lies on a sheet all tests are passed: its parts are those of the cut, and it is one cell of a colour exactly where the cell has the colour's number.
use Prim.Native.Nat.{ℕ, ◌+◌, ◌-◌, ◌*◌, ◌≤◌, ◌<◌}
use mathlib.Core.Path.{◌≡◌, ◌∙◌}
use mathlib.Core.Bool.{true}
use mathlib.Core.List.{List}
use mathlib.Core.Logic.{◌↔◌}
use native.Mathlib.Omega.{arith}
use lib.Dec.{ltb, leb}
use lib.ListN.{length, get_or}
use borrow.Author.Tests.{ltb-true, lt-ltb, leb-true, le-leb}
use Rattle.names.specs.Name.{listed}
use Rattle.names.specs.Pick.{and_then}
use Rattle.names.specs.Spelling.{Distinct}
use Rattle.names.proofs.Settled.{Settles, settles}
use Rattle.names.proofs.Tests.{and_both, and-make, and-on}
use Rattle.books.specs.Contents.{Contents, Has, Called}
use Rattle.books.specs.Keeps.{Sound}
use Rattle.books.specs.Picture.{Picture}
use Rattle.books.specs.Size.{Within}
use Rattle.books.specs.declared.rule.Dir.{Dir}
use Rattle.books.specs.declared.size.Size.{Size}
use Rattle.books.specs.declared.rule.Body.TheVariants.{Colour}
use Rattle.pieces.specs.declared.piece.Piece.{Piece}
use Rattle.pieces.specs.Choice.{covers}
use Rattle.pieces.specs.Most.{most}
use Rattle.pieces.specs.OnSheet.{stretch_in, lies_on, two, parts_on, numbered, covers_on}
use Rattle.pieces.specs.Parts.{reach, first_part, rest_part}
use Rattle.pieces.specs.Pieces.{Inside}
use Rattle.pieces.proofs.ExactViews.{number-name}

stretch-told : (n from long : ℕ) → stretch_in n from long ≡ true → (1 ≤ long) × (long ≤ n) × (n ≤ most) × (from ≤ n - long)
unfolding stretch_in
stretch-told n from long e =
    let (a, u) = and_both (ltb 0 long) (λ _. and_then (leb long n) (λ _. and_then (leb n most) (λ _. leb from (n - long)))) e in
    let (b, v) = and_both (leb long n) (λ _. and_then (leb n most) (λ _. leb from (n - long))) u in
    let (c, d) = and_both (leb n most) (λ _. leb from (n - long)) v in
    (ltb-true 0 long a, leb-true long n b, leb-true n most c, leb-true from (n - long) d)

stretch-make : (n from long : ℕ) → 1 ≤ long → from + long ≤ n → n ≤ most → stretch_in n from long ≡ true
unfolding stretch_in
stretch-make n from long h g f =
    and-make (ltb 0 long) _ (lt-ltb 0 long h)
    (and-make (leb long n) _ (le-leb long n (omega arith)) (and-make (leb n most) _ (le-leb n most f) (le-leb from (n - long) (omega arith))))

module _ (s : Size) (q : Piece) where
  -- ── Whether a piece lies on the sheet ──

  pub lies-told : lies_on s q ≡ true → Within most s.rows s.cols × Inside s.rows s.cols q
  unfolding lies_on
  lies-told e =
      let (a, b) = and_both (stretch_in s.rows q.top q.height) (λ _. stretch_in s.cols q.left q.width) e in
      let (ha, hb, hc, hd) = stretch-told s.rows q.top q.height a in
      let (wa, wb, wc, wd) = stretch-told s.cols q.left q.width b in (
        record { rows_some = omega arith; rows_few = hc; cols_some = omega arith; cols_few = wc },
        record { tall = ha; wide = wa; low = omega arith; right = omega arith },
      )

  module _ (rows_few : s.rows ≤ most) (cols_few : s.cols ≤ most) (i : Inside s.rows s.cols q) where
    pub lies-make : lies_on s q ≡ true
    unfolding lies_on
    lies-make =
        and-make (stretch_in s.rows q.top q.height) _
        (stretch-make s.rows q.top q.height i.tall i.low rows_few)
        (stretch-make s.cols q.left q.width i.wide i.right cols_few)

    -- ── What is found there ──

    pub parts-found : (d : Dir) (k l r : ℕ) → k ≤ reach d q → parts_on s d k l r q ≡ two (first_part d k q) l (rest_part d k q) r
    unfolding parts_on
    parts-found d k l r h = simp (and-make (lies_on s q) (λ _. leb k (reach d q)) lies-make (le-leb k (reach d q) h))

    pub cell-found : (colours : List ℕ) (c : ℕ) → s.rows * s.cols ≤ length colours → covers_on s colours q c ≡ covers (numbered s.cols colours) q c
    unfolding covers_on
    cell-found colours c h = and-on (lies_on s q) _ lies-make ∙ and-on (leb (s.rows * s.cols) (length colours)) _ (le-leb _ _ h)

-- ── Colours by their numbers ──

-- Where each cell has its colour's number in the book, it has the number of a rule's colour exactly where it has its name.
pub number-exact : (b : Contents) (p : Picture) → Sound b → Distinct b.colours → (colours : List ℕ)
    → ((i j : ℕ) → i < p.rows → j < p.cols → get_or colours (i * p.cols + j) 0 ≡ listed b.colours (p.cell i j))
    → (c : ℕ) (q : Piece) → Inside p.rows p.cols q → ((a : ℕ) × Has b a (Colour c)) → (numbered p.cols colours c q ≡ true) ↔ Called b c (p.cell q.top q.left)
number-exact b p sound apart colours numbers c q i ruled =
    rw (numbers q.top q.left (omega (arith, i)) (omega (arith, i)))
    (number-name b.colours (p.cell q.top q.left) c apart (sound.rules_fit _ ruled.1).body_fits)

-- ── Two outcomes are equal ──

pub reach-settled : (p : Piece) (d : Dir) → Settles (reach d p)
reach-settled p d = settles _

pub parts_on-settled : (s : Size) (d : Dir) (k l r : ℕ) (q : Piece) → Settles (parts_on s d k l r q)
parts_on-settled s d k l r q = settles _

pub covers_on-settled : (s : Size) (colours : List ℕ) (q : Piece) (c : ℕ) → Settles (covers_on s colours q c)
covers_on-settled s colours q c = settles _
