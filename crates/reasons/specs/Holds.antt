-- What each reason says of a book and a picture, and which of them is the first that holds.
use Rattle.std.specs.Prelude.{ℕ, ◌≤◌, ◌<◌, ◌≡◌, ◌⊎◌}
use Rattle.names.specs.Name.{Name}
use Rattle.books.specs.Contents.{Contents, Has, Called}
use Rattle.books.specs.Picture.{Picture}
use Rattle.books.specs.Derives.{Derives, Member}
use Rattle.books.specs.declared.rule.Body.TheVariants.{Colour}
use Rattle.pieces.specs.Pieces.{piece, Inside, slot_of}
use Rattle.pieces.specs.Area.{area}
use Rattle.pieces.specs.Table.{cut}
use Rattle.pieces.specs.declared.piece.Piece.{Piece}
use Rattle.sizes.specs.Promise.{Sized}
use Rattle.reasons.specs.declared.reason.Reason.{Reason}
use Rattle.reasons.specs.declared.reason.Reason.TheVariants.{NoReason, Unnamed, NoSuchSize, Largest, NoPiece}
use Rattle.reasons.specs.Reason.{kind}

-- some colour rule of the book has a colour of this name, whether the start reaches it or not
pub record Named (b : Contents) (n : Name) : Type 0 where
  pub head : ℕ
  pub colour : ℕ
  pub ruled : Has b head (Colour colour)
  pub called : Called b colour n

-- the cell in row i and column j comes before that in row r and column c, row by row
abbrev pub Before : ℕ → ℕ → ℕ → ℕ → Type 0
Before i j r c = (i < r) ⊎ ((i ≡ r) × (j < c))

-- a cell of the picture has a colour that no rule names, and those of all cells before it are named
pub record FirstUnnamed (b : Contents) (p : Picture) (r c : ℕ) : Type 0 where
  pub in_rows : r < p.rows
  pub in_cols : c < p.cols
  pub unnamed : Named b (p.cell r c) → ⊥
  pub earlier : (i j : ℕ) → i < p.rows → j < p.cols → Before i j r c → Named b (p.cell i j)

-- the family has a sheet of the picture's size, and the picture is none of its sheets
pub record SizeOnly (b : Contents) (p : Picture) : Type 0 where
  pub sized : Sized b p.rows p.cols
  pub other : Member b p → ⊥

-- a piece of the picture that the start motif derives
pub record StartPiece (b : Contents) (p : Picture) (q : Piece) : Type 0 where
  pub inside : Inside p.rows p.cols q
  pub derived : Derives b b.start (cut p q)

-- ... of greatest area, and of those the earliest in the table
pub record LargestPiece (b : Contents) (p : Picture) (q : Piece) : Type 0 where
  pub is : StartPiece b p q
  pub greatest : (x : Piece) → StartPiece b p x → area x ≤ area q
  pub earliest : (x : Piece) → StartPiece b p x → area x ≡ area q → slot_of p.rows p.cols q ≤ slot_of p.rows p.cols x

-- what a reason says: that there is none says nothing, and holds never
abbrev pub Holds : Contents → Picture → Reason → Type 0
Holds b p NoReason = ⊥
Holds b p (Unnamed row column) = FirstUnnamed b p row column
Holds b p NoSuchSize = Sized b p.rows p.cols → ⊥
Holds b p (Largest top left height width) = SizeOnly b p × LargestPiece b p (piece height width top left)
Holds b p NoPiece = SizeOnly b p × ((q : Piece) → StartPiece b p q → ⊥)

-- it holds, and none that is named before it does
pub record First (b : Contents) (p : Picture) (r : Reason) : Type 0 where
  pub holds : Holds b p r
  pub none_before : (s : Reason) → kind s < kind r → Holds b p s → ⊥
