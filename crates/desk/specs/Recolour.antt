-- One cell of a sheet recoloured: its byte is changed, and the entries of the pieces that have the cell are made anew, each by what the rules give it by
-- the entries of its parts as they then stand.
use Rattle.std.specs.Prelude.{ℕ, ◌+◌, ◌-◌, ◌*◌, ◌≡◌, Bool, List, ltb, length, set}
use Rattle.names.specs.Bits.{bits}
use Rattle.names.specs.Pick.{pick, and_then}
use Rattle.books.specs.Contents.{Contents}
use Rattle.books.specs.Picture.{Picture}
use Rattle.books.specs.Sheet.{sheet_of}
use Rattle.books.specs.Lent.{picture_of, lent_both}
use Rattle.books.specs.Answer.{plain, packed}
use Rattle.books.specs.declared.answer.Answer.{Answer}
use Rattle.books.specs.declared.rule.Rule.{Rule}
use Rattle.books.specs.declared.size.Size.{Size}
use Rattle.pieces.specs.declared.piece.Piece.{Piece}
use Rattle.pieces.specs.View.{View, named}
use Rattle.pieces.specs.Choice.{lowest}
use Rattle.pieces.specs.Largest.{marked}
use Rattle.pieces.specs.Derivation.{entries_needed}
use Rattle.pieces.specs.Asking.{start_answer}
use Rattle.pieces.specs.Refill.{refilled}

-- ── The cell ──

-- a sheet of a size with so many colours has the row, the column and the colour
unfoldable pub has? : Size → ℕ → ℕ → ℕ → ℕ → Bool
has? s colours row column colour = and_then (ltb row s.rows) (λ _. and_then (ltb column s.cols) (λ _. ltb colour colours))

-- a sheet ends with its cells, row by row, a byte each
abbrev pub cell_place : ℕ → Size → ℕ → ℕ → ℕ
cell_place long s row column = long - s.rows * s.cols + (row * s.cols + column)

abbrev pub with_cell : List ℕ → Size → ℕ → ℕ → ℕ → List ℕ
with_cell sheet s row column colour = set sheet (cell_place (length sheet) s row column) colour

-- the bytes of a sheet of a press with the cell changed
abbrev pub sheet_with : ℕ → List ℕ → ℕ → ℕ → ℕ → List ℕ
sheet_with press sheet row column colour = with_cell sheet (sheet_of press sheet).sheet.size row column colour

-- ── The entries ──

-- what tells of a piece: the bits of a slice for its parts, and the picture for its cell
abbrev pub view_of : Contents → Picture → List ℕ → View
view_of b p t = named b p (marked p.rows p.cols t)

-- some rule with head a fits a piece: a colour rule for the cell, or a join with a cut whose two parts have their bits
unfoldable pub some_fits? : View → List Rule → ℕ → Piece → Bool
some_fits? v rules a q = ltb (lowest v rules a q) (length rules)

-- the motifs with such a rule
unfoldable pub ruled : Contents → Picture → List ℕ → Piece → ℕ
ruled b p t q = bits b.motifs (λ a. some_fits? (view_of b p t) b.rules a q)

-- ── The outcome ──

-- the answer, the bytes of the sheet, and what stands in the work slice
pub record Recolouring : Type 0 where
  pub answer : Answer
  pub bytes : List ℕ
  pub entries : List ℕ

-- an answer that leaves both as they are
abbrev pub untouched : Answer → List ℕ → List ℕ → Recolouring
untouched a sheet entries = record { answer = a; bytes = sheet; entries = entries }

-- 0 where the start motif has its bit at the whole sheet, and else 11
abbrev pub judged_sheet : Contents → Picture → List ℕ → List ℕ → Recolouring
judged_sheet b p sheet entries = record { answer = plain (start_answer p.rows p.cols entries b.start); bytes = sheet; entries = entries }

-- with the byte changed, the entries are made anew by what the sheet then shows
unfoldable pub recast : ℕ → Contents → List ℕ → ℕ → ℕ → List ℕ → Recolouring
recast press b sheet row column entries =
    let p = picture_of press sheet in
    judged_sheet b p sheet (refilled (ruled b p) p.rows p.cols row column entries)

-- the book's fault, then the sheet's; 19 where the sheet has not got the row, the column or the colour; 9 where the work slice is too short: on these
-- nothing is written
unfoldable pub recolouring : ℕ → List ℕ → List ℕ → List ℕ → ℕ → ℕ → ℕ → Recolouring
recolouring press book sheet entries row column colour =
    let g = (sheet_of press sheet).sheet in
    lent_both press book sheet (λ a. untouched a sheet entries) (λ b p.
    pick (has? g.size g.colours.count row column colour)
    (pick (ltb (length entries) (entries_needed p)) (untouched (plain 9) sheet entries)
    (recast press b (sheet_with press sheet row column colour) row column entries))
    (untouched (plain 19) sheet entries))

-- what a caller is told of the answer, and the sheet and the work slice as the call leaves them, are those of a recolouring
pub record LeftBy {A : Type 0} (told : Answer → A) (d : Recolouring) (r : A) (sheet work : List ℕ) : Type 0 where
  pub answers : r ≡ told d.answer
  pub leaves_sheet : sheet ≡ d.bytes
  pub leaves_work : work ≡ d.entries

abbrev pub Recolours : Recolouring → Answer → List ℕ → List ℕ → Type 0
Recolours d r sheet work = LeftBy (λ a. a) d r sheet work

-- packed into one number for the C host, with 0 for the count
abbrev pub RecoloursPacked : Recolouring → ℕ → List ℕ → List ℕ → Type 0
RecoloursPacked d r sheet work = LeftBy (λ a. packed a 0) d r sheet work
