-- The pieces of a sheet without its table: whether a piece lies on the sheet, its parts, and whether it is one cell of a colour. Each is settled of any piece.
use Rattle.std.specs.Prelude.{ℕ, ◌+◌, ◌-◌, ◌*◌, ◌≡◌, Bool, true, List, eqb, ltb, leb, length, get_or}
use Rattle.names.specs.Pick.{pick, and_then}
use Rattle.books.specs.Search.{Cutting}
use Rattle.books.specs.declared.rule.Dir.{Dir}
use Rattle.books.specs.declared.size.Size.{Size}
use Rattle.pieces.specs.declared.piece.Piece.{Piece}
use Rattle.pieces.specs.declared.part.Parts.{Parts}
use Rattle.pieces.specs.Choice.{covers}
use Rattle.pieces.specs.Most.{most}
use Rattle.pieces.specs.Parts.{reach, first_part, rest_part}

-- a stretch lies in a row of n cells: it has some, and the row no more than the code's numbers have room for
unfoldable pub stretch_in : ℕ → ℕ → ℕ → Bool
stretch_in n from long = and_then (ltb 0 long) (λ _. and_then (leb long n) (λ _. and_then (leb n most) (λ _. leb from (n - long))))

unfoldable pub lies_on : Size → Piece → Bool
lies_on s q = and_then (stretch_in s.rows q.top q.height) (λ _. stretch_in s.cols q.left q.width)

-- two pieces with their motifs
abbrev pub two : Piece → ℕ → Piece → ℕ → Parts
two p l q r = record { first = record { piece = p; motif = l }; rest = record { piece = q; motif = r } }

-- the two parts of a piece of the sheet that is cut in its reach; else the piece itself, twice
unfoldable pub parts_on : Size → Dir → ℕ → ℕ → ℕ → Piece → Parts
parts_on s d k l r q = pick (and_then (lies_on s q) (λ _. leb k (reach d q))) (two (first_part d k q) l (rest_part d k q) r) (two q l q r)

-- a piece's first cell has colour c, by the numbers of the cells' colours, row by row
abbrev pub numbered : ℕ → List ℕ → ℕ → Piece → Bool
numbered cols colours c q = eqb (get_or colours (q.top * cols + q.left) 0) c

-- a piece of the sheet is one cell of colour c; none is where the sheet has more cells than numbers
unfoldable pub covers_on : Size → List ℕ → Piece → ℕ → Bool
covers_on s colours q c =
    and_then (lies_on s q) (λ _. and_then (leb (s.rows * s.cols) (length colours)) (λ _. covers (numbered s.cols colours) q c))

-- the pieces of a sheet as they come apart
abbrev pub on_sheet : Size → List ℕ → Cutting Piece
on_sheet s colours =
    record {
      reach = reach;
      first = first_part;
      rest = rest_part;
      Shows = λ c q. covers_on s colours q c ≡ true;
      shown = λ c q. covers_on s colours q c;
    }
