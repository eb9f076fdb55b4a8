-- The reason, computed, and what the call answers and leaves.
use Rattle.std.specs.Prelude.{ℕ, ◌-◌, ◌*◌, ◌/◌, ◌%◌, ◌≡◌, Bool, false, not, List, [], ◌∷◌, eqb, ltb, length}
use Rattle.names.specs.Name.{Name}
use Rattle.names.specs.Pick.{pick, or_else}
use Rattle.books.specs.Contents.{Contents}
use Rattle.books.specs.Picture.{Picture}
use Rattle.books.specs.Lent.{lent_both}
use Rattle.books.specs.Decide.{called?, derives?}
use Rattle.books.specs.Answer.{plain, packed}
use Rattle.books.specs.declared.answer.Answer.{Answer}
use Rattle.books.specs.declared.rule.Rule.{Rule}
use Rattle.books.specs.declared.rule.Body.{Body}
use Rattle.books.specs.declared.rule.Body.TheVariants.{Colour, Across, Down}
use Rattle.names.specs.Counted.{least}
use Rattle.pieces.specs.Table.{cut}
use Rattle.pieces.specs.Largest.{largest_of}
use Rattle.pieces.specs.Derivation.{entries_needed, filled}
use Rattle.pieces.specs.declared.piece.Piece.{Piece}
use Rattle.sizes.specs.Card.{sized?}
use Rattle.reasons.specs.declared.reason.Reason.{Reason}
use Rattle.reasons.specs.declared.reason.Reason.TheVariants.{NoReason, Unnamed, NoSuchSize, Largest, NoPiece}
use Rattle.reasons.specs.declared.calls.WhyNot.{WhyNot}
use Rattle.reasons.specs.Reason.{packed_reason}

-- ── The reason ──

-- whether some rule has a colour of this name
abbrev pub body_names : Contents → Name → Body → Bool
body_names b n (Colour c) = called? b c n
body_names b n (Across l r) = false
body_names b n (Down u v) = false

unfoldable pub rules_name : Contents → Name → List Rule → Bool
rules_name b n [] = false
rules_name b n (r ∷ rs) = or_else (body_names b n r.body) (λ _. rules_name b n rs)

-- whether no rule names the colour of the cell that is number i, row by row
unfoldable pub unnamed? : Contents → Picture → ℕ → Bool
unnamed? b p i = not (rules_name b (p.cell (i / p.cols) (i % p.cols)) b.rules)

-- the first such cell, or the number of cells
unfoldable pub first_unnamed : Contents → Picture → ℕ
first_unnamed b p = least (unnamed? b p) 0 (p.rows * p.cols)

-- the largest piece that the start motif derives, or no piece
unfoldable pub largest_derived : Contents → Picture → Piece
largest_derived b p = largest_of (λ q. derives? b b.start (cut p q)) p.rows p.cols

-- a cell by its number, among cells in rows of n
abbrev pub cell_reason : ℕ → ℕ → Reason
cell_reason n i = Unnamed (i / n) (i % n)

abbrev pub piece_reason : Piece → Reason
piece_reason q = pick (eqb q.height 0) NoPiece (Largest q.top q.left q.height q.width)

-- the first cell that no rule names; then whether the size card has the size; then the largest piece
unfoldable pub reason_of : Contents → Picture → Reason
reason_of b p =
    pick (ltb (first_unnamed b p) (p.rows * p.cols)) (cell_reason p.cols (first_unnamed b p))
    (pick (sized? b (p.rows - 1) (p.cols - 1)) (piece_reason (largest_derived b p)) NoSuchSize)

-- ── The call ──

-- the answer, the reason, and what stands in the work slice
pub record Outcome : Type 0 where
  pub answer : Answer
  pub reason : Reason
  pub entries : List ℕ

-- a refusal has no reason
abbrev pub refused : Answer → List ℕ → Outcome
refused a entries = record { answer = a; reason = NoReason; entries = entries }

-- with the table written: 15 where the start motif derives the picture, and else 0 with the reason
unfoldable pub judged : Contents → Picture → List ℕ → Outcome
judged b p entries =
    pick (derives? b b.start p) (refused (plain 15) (filled b p entries))
    (record { answer = plain 0; reason = reason_of b p; entries = filled b p entries })

-- 9 where the work slice is too short
unfoldable pub roomed : Contents → Picture → List ℕ → Outcome
roomed b p entries = pick (ltb (length entries) (entries_needed p)) (refused (plain 9) entries) (judged b p entries)

-- 21, then the book's fault, then the sheet's
unfoldable pub why_not : ℕ → List ℕ → List ℕ → List ℕ → Outcome
why_not press book sheet entries =
    lent_both press book sheet (λ a. refused a entries) (λ b p. roomed b p entries)

-- what the call answers, and the slice as it leaves it, are those of an outcome
pub record Answers (o : Outcome) (r : WhyNot) (entries : List ℕ) : Type 0 where
  pub answers : r.answer ≡ o.answer
  pub reasons : r.reason ≡ o.reason
  pub leaves : entries ≡ o.entries

-- the same of the number that a C host gets
pub record Leaves (o : Outcome) (r : ℕ) (entries : List ℕ) : Type 0 where
  pub answers : r ≡ packed o.answer (packed_reason o.reason)
  pub leaves : entries ≡ o.entries
