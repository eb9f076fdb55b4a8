-- A sheet is refused exactly for what `SheetFault` says: from what was read so far reading goes on with the next number, so that it stops where one of them
-- is refused or bytes follow the last cell, and nowhere else.
use Prim.Native.Nat.{ℕ, suc, ◌-◌, ◌*◌, ◌≤◌}
use mathlib.Core.Path.{◌≡◌, refl, ◌∙◌, ap}
use mathlib.Core.List.{List}
use mathlib.Core.Logic.{◌↔◌, ◌⊎◌, inl, inr}
use native.Mathlib.Omega.{arith}
use borrow.Author.Tests.{ltb-true, lt-ltb, eqb-true, eqb-false, ne_eqb}
use lib.Dec.{ltb, eqb}
use lib.ListN.{length}
use Rattle.names.specs.Pick.{fault}
use Rattle.names.specs.Onward.{onward}
use Rattle.names.specs.Number.{number_at, number_in, number_below}
use Rattle.names.specs.Colours.{colours_of}
use Rattle.names.specs.ReadsList.{ListRead}
use Rattle.names.specs.Fault.{Fault}
use Rattle.names.specs.Read.{Value}
use Rattle.names.specs.declared.colours.Colours.{Colours}
use Rattle.names.proofs.Picking.{pick_ind}
use Rattle.names.proofs.Onwards.{onward-ind}
use Rattle.names.proofs.ReadingNumbers.{number_below-refused}
use Rattle.names.specs.Bytes.{Bytes}
use Rattle.names.proofs.Exactly.{number-exactly, number_in-exactly, number_below-exactly}
use Rattle.names.proofs.FirstFault.{FirstFault, first-fault}
use Rattle.names.proofs.ListExactly.{list-first, list-read-exactly}
use Rattle.books.specs.Grid.{Grid, GridKeeps}
use Rattle.books.specs.ContentsIn.{grid_in}
use Rattle.books.specs.SpellSheet.{spell_sheet}
use Rattle.books.specs.Press.{greatest_of}
use Rattle.books.specs.Size.{size_by, size_at, after_size}
use Rattle.books.specs.Cells.{CellsRead, no_cells, refused_cells, cells_onward, cells_at}
use Rattle.books.specs.Sheet.{refused_sheet, filled_at, sheet_of}
use Rattle.books.specs.ReadsSheet.{TicketRead, ticket_read, RowsRead, rows_read, CellStands, CellsSoFar, cells_so_far, SheetFault, no_list, no_ticket, no_rows, no_columns, no_cell, more_bytes}
use Rattle.books.specs.declared.size.Size.{Size}
use Rattle.books.specs.SizeRead.{SizeRead, By, Refused as RefusedSize}
use Rattle.books.specs.SheetRead.{SheetRead}
use Rattle.books.proofs.ReadingSheets.{sheet-lies}
use Rattle.books.proofs.SpellingSheets.{sheet-accepted, sheet-read-back}
use Rattle.books.proofs.OneByOne.{in-turn-on, in-turn-out}

-- ── What is left to read ──

-- the columns, and what stands before them
abbrev columns_at : ℕ → List ℕ → ℕ → ℕ → SizeRead
columns_at press s rows at = onward RefusedSize (number_in s at 1 (greatest_of press)) (λ cols next. By (size_by rows cols) next)

abbrev sized : ℕ → List ℕ → Colours → ℕ → SizeRead → SheetRead
sized press s c ticket r = after_size refused_sheet r (λ size next. filled_at s (greatest_of press) c ticket size (cells_at s c.count next (size.rows * size.cols)))

abbrev ticket_at : ℕ → List ℕ → Colours → ℕ → SheetRead
ticket_at press s c at = onward refused_sheet (number_at s at) (λ ticket then. sized press s c ticket (size_at s then (greatest_of press)))

-- so many cells, of so many colours, after those that were read
abbrev cells_left : ℕ → List ℕ → Colours → ℕ → Size → ℕ → List ℕ → ℕ → ℕ → ℕ → SheetRead
cells_left press s c ticket size colours cells i at k = filled_at s (greatest_of press) c ticket size (cells_onward s colours cells i at k)

filled-refused : (press : ℕ) (s : List ℕ) (c : Colours) (ticket : ℕ) (size : Size) (f : Fault) → 1 ≤ f.number → filled_at s (greatest_of press) c ticket size (refused_cells f) ≡ refused_sheet f
unfolding filled_at
filled-refused press s c ticket size f some = rw (ne_eqb f.number 0 (λ q. omega arith))

-- ── What stands there is read ──

-- a cell may be of any colour, whatever stands before it
abbrev Any : List ℕ → Type 0
Any cells = Unit {0}

-- reading the sheet is reading what is left, with so many colours
record On (press : ℕ) (s : List ℕ) (colours : ℕ) (left : SheetRead) : Type 0 where
  many : (colours_of s).colours.count ≡ colours
  on : sheet_of press s ≡ left

-- ... from the i-th cell on
record CellsOn (press : ℕ) (s : List ℕ) (colours i at k : ℕ) : Type 0 where
  ticket : ℕ
  size : Size
  cells : List ℕ
  on : sheet_of press s ≡ cells_left press s (colours_of s).colours ticket size colours cells i at k

module _ (press : ℕ) (s : List ℕ) (colours : ℕ) where
  abbrev c : Colours
  c = (colours_of s).colours

  list_on : (at : ℕ) → ListRead s colours at → On press s colours (ticket_at press s c at)
  unfolding sheet_of
  list_on at l =
      let e = (list-read-exactly s colours at).1 l in
      record { many = e.1; on = rw (e.0, e.2) }

  ticket-on : (at : ℕ) → TicketRead s colours at → (ticket : ℕ) × On press s colours (sized press s c ticket (size_at s at (greatest_of press)))
  ticket-on at (ticket_read from ticket l h) =
      let o = list_on from l in
      (ticket, record { many = o.many; on = o.on ∙ rw ((number-exactly s from _).1 h) })

  rows_on : (rows at : ℕ) → RowsRead press s colours rows at → (ticket : ℕ) × On press s colours (sized press s c ticket (columns_at press s rows at))
  unfolding size_at
  rows_on rows at (rows_read from t h) =
      let o = ticket-on from t in
      (o.0, record { many = o.1.many; on = o.1.on ∙ rw ((number_in-exactly s from 1 (greatest_of press) _).1 h) })

  cells-on : (count at : ℕ) (cells : List ℕ) → CellsSoFar press s colours count cells at → length cells ≤ count
      → CellsOn press s colours (length cells) at (count - length cells)
  unfolding cells_at
  cells-on count at cells (cells_so_far from rows cols first t h area r) few =
      let o = rows_on rows from t in
      let size = size_by rows cols in
      let whole : sheet_of press s ≡ cells_left press s c o.0 size colours no_cells 0 first count = rw (o.1.on, (number_in-exactly s from 1 (greatest_of press) _).1 h, o.1.many, area) in
      let left = in-turn-on (CellStands s colours) Any (λ _ _. Unit {0}) (cells_left press s c o.0 size colours) count (λ xs ys x h _. tt)
      (λ xs x _. tt) (λ xs ys p k x next _ _ w. rw ((number_below-exactly s p colours 6 _).1 w)) (sheet_of press s) no_cells first tt whole r tt few in
      record { ticket = o.0; size = size; cells = left.places; on = left.on }

fault-is : (press : ℕ) (s : List ℕ) (f : Fault) → SheetFault press s f → sheet_of press s ≡ refused_sheet f
unfolding sheet_of size_at filled_at
fault-is press s f (no_list h) =
    let some = (list-first s).some f h in
    rw (((list-first s).exactly f some).1 h, ne_eqb f.number 0 (λ q. omega arith))
fault-is press s f (no_ticket colours at l h) = (list_on press s colours at l).on ∙ rw ((number-exactly s at _).1 h)
fault-is press s f (no_rows colours at t h) = (ticket-on press s colours at t).1.on ∙ rw ((number_in-exactly s at 1 (greatest_of press) _).1 h)
fault-is press s f (no_columns colours rows at t h) = (rows_on press s colours rows at t).1.on ∙ rw ((number_in-exactly s at 1 (greatest_of press) _).1 h)
fault-is press s f (no_cell colours count at before r more h) =
    let o = cells-on press s colours count at before r (omega arith) in
    let left : count - length before ≡ suc (count - length before - 1) = omega arith in
    let e = (number_below-exactly s at colours 6 _).1 h in
    let some = (number_below-refused s at colours 6 f e (omega arith) (omega arith)).some in
    o.on ∙ rw (left, e) (filled-refused press s (colours_of s).colours o.ticket o.size f some)
fault-is press s f (more_bytes colours count at cells r all more e) =
    let none : count - length cells ≡ 0 = omega arith in
    (cells-on press s colours count at cells r (omega arith)).on ∙ rw (none, lt-ltb at (length s) more, e)

-- ── What is read stands there ──

-- a sheet is read to its end, or refused for a fault of the sheet
abbrev Out : ℕ → List ℕ → SheetRead → Type 0
Out press s r = (r.fault ≡ fault 0 0) ⊎ SheetFault press s r.fault

module _ (press : ℕ) (s : List ℕ) (c : Colours) where
  cells_out : (ticket rows cols from at : ℕ) → RowsRead press s c.count rows from → number_in s from 1 (greatest_of press) ≡ Value cols at
      → Out press s (filled_at s (greatest_of press) c ticket (size_by rows cols) (cells_at s c.count at (rows * cols)))
  unfolding cells_at filled_at
  cells_out ticket rows cols from first t e =
      let n = c.count in
      let size = size_by rows cols in
      let count = rows * cols in
      let h = (number_in-exactly s from 1 (greatest_of press) _).0 e in
      in-turn-out (CellStands s n) Any (λ _ _. Unit {0}) (cells_left press s c ticket size n) count (λ xs ys x h _. tt) (Out press s) first
      (λ xs ys at r _ all.
      pick_ind (Out press s) (ltb at (length s)) _ _
      (λ b. inr (more_bytes n count at xs (cells_so_far from rows cols first t h refl r) all (ltb-true _ _ b) refl)) (λ _. inl refl))
      (λ xs ys at k r _ _ more rest.
      onward-ind (λ (x : CellsRead). Out press s (filled_at s (greatest_of press) c ticket size x)) refused_cells (number_below s at n 6) _
      (λ f d. rw (filled-refused press s c ticket size f (number_below-refused s at n 6 f d (omega arith) (omega arith)).some)
      (inr (no_cell n count at xs (cells_so_far from rows cols first t h refl r) more ((number_below-exactly s at n 6 _).0 d))))
      (λ v next d. rest v next ((number_below-exactly s at n 6 _).0 d) tt))
      no_cells tt tt

  ticket-out : (at : ℕ) → ListRead s c.count at → Out press s (ticket_at press s c at)
  unfolding size_at
  ticket-out at l =
      onward-ind (Out press s) refused_sheet (number_at s at) _
      (λ f e. inr (no_ticket c.count at l ((number-exactly s at _).0 e)))
      (λ ticket next e.
      let t : TicketRead s c.count next = ticket_read at ticket l ((number-exactly s at _).0 e) in
      onward-ind (λ (r : SizeRead). Out press s (sized press s c ticket r)) RefusedSize (number_in s next 1 (greatest_of press)) _
      (λ f d. inr (no_rows c.count next t ((number_in-exactly s next 1 (greatest_of press) _).0 d)))
      (λ rows then d.
      let r : RowsRead press s c.count rows then = rows_read next t ((number_in-exactly s next 1 (greatest_of press) _).0 d) in
      onward-ind (λ (r : SizeRead). Out press s (sized press s c ticket r)) RefusedSize (number_in s then 1 (greatest_of press)) _
      (λ f b. inr (no_columns c.count rows then r ((number_in-exactly s then 1 (greatest_of press) _).0 b)))
      (λ cols end b. cells_out ticket rows cols then end r b)))

sheet-out : (press : ℕ) (s : List ℕ) → Out press s (sheet_of press s)
unfolding sheet_of
sheet-out press s =
    pick_ind (Out press s) (eqb (colours_of s).fault.number 0) _ _
    (λ t. ticket-out press s (colours_of s).colours (colours_of s).next ((list-read-exactly s _ _).0 (eqb-true _ 0 t, refl, refl)))
    (λ t.
    let some : 1 ≤ (colours_of s).fault.number = omega (arith, eqb-false (colours_of s).fault.number 0 t) in
    inr (no_list (((list-first s).exactly _ some).0 refl)))

-- a refused sheet has no colours, and one that is read has some
pub sheet-first : (press : ℕ) (s : List ℕ) → FirstFault (SheetFault press s) (sheet_of press s).fault
sheet-first press s =
    first-fault (SheetFault press s) (sheet_of press s).fault (sheet-out press s) (λ f x. ap (λ (r : SheetRead). r.fault) (fault-is press s f x))
    (λ z f x. omega (arith, (sheet-lies press s z).some, ap (λ (r : SheetRead). r.sheet.colours.count) (fault-is press s f x)))

pub sheet-refused-exactly : (press : ℕ) (s : List ℕ) (f : Fault) → 1 ≤ f.number → ((sheet_of press s).fault ≡ f) ↔ SheetFault press s f
sheet-refused-exactly press s = (sheet-first press s).exactly

pub sheet-one-fault : (press : ℕ) (s : List ℕ) (f g : Fault) → SheetFault press s f → SheetFault press s g → f ≡ g
sheet-one-fault press s = (sheet-first press s).one

-- what nothing refuses is the spelling of contents that keep the rules
pub sheet-faultless-exactly : (press : ℕ) (s : List ℕ) → Bytes s → ((f : Fault) → SheetFault press s f → ⊥) ↔ ((g : Grid) × GridKeeps press g × (s ≡ spell_sheet g))
sheet-faultless-exactly press s bytes = (
  λ no. let a = sheet-accepted press s bytes ((sheet-first press s).none.0 no) in (grid_in s (sheet_of press s).sheet, a.keeps, a.spelled),
  λ x. (sheet-first press s).none.1 (rw x.2 (ap (λ (f : Fault). f.number) (sheet-read-back press x.0 x.1).0)),
)
