-- The nodes that are printed are those of the derivation given: 2mn - 1 for m rows and n columns, each of two numbers, and never more than the slice was lent for. On 0 the
-- tree slice begins with them, since 0 is answered only where the derivation was written.
use Prim.Native.Nat.{ℕ, ◌*◌, ◌-◌, ◌≤◌}
use mathlib.Core.Path.{◌≡◌}
use mathlib.Core.Bool.{false}
use mathlib.Core.List.{List}
use native.Mathlib.Omega.{arith}
use borrow.Author.Tests.{eqb-false}
use lib.Dec.{eqb, ltb}
use lib.ListN.{length, take, drop}
use lib.Seq.{take_at}
use Rattle.names.specs.Fault.{Fault}
use Rattle.names.proofs.Picking.{pick_ind}
use Rattle.books.specs.Contents.{Contents}
use Rattle.books.specs.Lent.{contents_of, picture_of}
use Rattle.books.specs.Press.{greatest_of}
use Rattle.books.specs.Picture.{Picture}
use Rattle.books.specs.Answer.{blaming}
use Rattle.books.specs.Book.{book_of}
use Rattle.books.specs.Decide.{derives?}
use Rattle.books.specs.Calls.{size_of}
use Rattle.books.specs.Sheet.{sheet_of}
use Rattle.books.proofs.Deciding.{decided}
use Rattle.books.proofs.Area.{area}
use Rattle.books.proofs.ReadingSheets.{size_few}
use Rattle.pieces.specs.Given.{Given}
use Rattle.pieces.specs.Tree.{tree}
use Rattle.pieces.specs.Derivation.{Derivation, leaving, entries_needed, numbers_needed, filled, judged, roomed, derivation}
use Rattle.pieces.proofs.TheTree.{tree-given, given-length}
use Rattle.belongs.specs.Nodes.{nodes_of}

-- a sheet that was read has few cells, and a refused one has none
pub cells-few : (s : List ℕ) → (size_of 0 s).rows * (size_of 0 s).cols ≤ greatest_of 0 * greatest_of 0
cells-few s = let (rows, cols) = size_few 0 s in area _ _ _ rows cols

pub nodes-few : (s : List ℕ) (n : ℕ) → n ≡ nodes_of s → n ≤ 2 * (greatest_of 0 * greatest_of 0) - 1
nodes-few s n e = omega (arith, cells-few s)

-- whatever the family and the motif, the derivation given of the sheet has so many nodes
pub nodes-given : (b : Contents) (a : ℕ) (s xs : List ℕ) → Given b a (picture_of 0 s) xs → length xs ≡ 2 * nodes_of s
nodes-given b a s xs = given-length b a (picture_of 0 s) xs

-- ── What is printed on 0 ──

module _ (book sheet numbers : List ℕ) where
  abbrev b : Contents
  b = contents_of book

  abbrev p : Picture
  p = picture_of 0 sheet

  -- so many numbers of the tree slice are the derivation given
  abbrev Prints : Derivation → Type 0
  Prints d = d.answer.number ≡ 0 → Given b b.start p (take (2 * nodes_of sheet) d.numbers)

  judged-prints : (entries : List ℕ) → Prints (judged b p entries numbers)
  unfolding judged
  judged-prints entries =
      pick_ind Prints (derives? b b.start p) _ _
      (λ e.
      let given = tree-given b p ((decided b b.start p).0 e) in
      let nodes = tree b p in
      rw (take_at nodes (drop (length nodes) numbers) (2 * nodes_of sheet) (nodes-given b b.start sheet nodes given)) (λ _. given))
      (λ _ z. absurd (omega arith))

  roomed-prints : (entries : List ℕ) → Prints (roomed b p entries numbers)
  unfolding roomed
  roomed-prints entries =
      pick_ind Prints (ltb (length entries) (entries_needed p)) _ _
      (λ _ z. absurd (omega arith))
      (λ _. pick_ind Prints (ltb (length numbers) (numbers_needed p)) _ _ (λ _ z. absurd (omega arith)) (λ _. judged-prints (filled b p entries)))

  -- a fault has a number
  fault-prints : (input : ℕ) (f : Fault) (entries : List ℕ) → eqb f.number 0 ≡ false → Prints (leaving (blaming input f) entries numbers)
  fault-prints input f entries t z = absurd (eqb-false f.number 0 t (rw t at z))

  pub prints-given : (entries : List ℕ) → Prints (derivation 0 book sheet entries numbers)
  unfolding derivation
  prints-given entries =
      pick_ind Prints (eqb (book_of book).fault.number 0) _ _
      (λ _. pick_ind Prints (eqb (sheet_of 0 sheet).fault.number 0) _ _ (λ _. roomed-prints entries) (fault-prints 2 (sheet_of 0 sheet).fault entries))
      (fault-prints 1 (book_of book).fault entries)
