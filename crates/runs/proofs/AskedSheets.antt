-- A sheet that was asked of an accepted press book with room enough has the answer of a derivation with room enough, so that adding it makes the figures
-- those of one sheet more. The table of a sheet never reaches past the greatest sheet's.
use Prim.Native.Nat.{ℕ, ◌+◌, ◌-◌, ◌≤◌, ◌<◌}
use mathlib.Core.Path.{◌≡◌, refl, sym, ap, ◌∙◌}
use mathlib.Core.List.{List, [], ◌∷◌, ◌++◌}
use native.Mathlib.Decide.{ℕ_discrete}
use native.Mathlib.Omega.{arith}
use borrow.Author.Tests.{eq-eqb, ne_eqb}
use lib.Dec.{eqb}
use lib.ListN.{length, get_or, take, drop, length-take}
use lib.Seq.{get_or-take, drop-append-add, drop-drop}
use Rattle.names.specs.Spelling.{most_colours}
use Rattle.names.specs.Bytes.{Bytes}
use Rattle.books.specs.Book.{book_of}
use Rattle.books.specs.Derives.{Member}
use Rattle.books.specs.Lent.{contents_of, picture_of, Accepted}
use Rattle.books.specs.Press.{IsPress}
use Rattle.books.specs.Sheet.{sheet_of, over}
use Rattle.books.specs.declared.answer.Answer.{Answer}
use Rattle.books.proofs.CellsOver.{sheet-cells}
use Rattle.books.proofs.NumberedCells.{numbers_all}
use Rattle.books.proofs.Packing.{ticket-packs}
use Rattle.pieces.specs.Asking.{Asking, asking, Asks}
use Rattle.pieces.specs.Derivation.{entries_needed}
use Rattle.pieces.specs.Table.{table}
use Rattle.pieces.specs.declared.asking.Asked.{Asked}
use Rattle.pieces.proofs.AskingAnswers.{sheet-first, derived-asked, other-asked, asked-table}
use Rattle.pieces.proofs.TableEntries.{table-length}
use Rattle.runs.specs.Figures.{work_room, answer_of, showing, figures_of, in_a_row}
use Rattle.runs.specs.Lists.{how_many}
use Rattle.runs.specs.inner.Adding.{most_added, Spare, area_of, with_asked, Addable}
use Rattle.runs.specs.inner.Reporting.{Adds}
use Rattle.runs.proofs.AddingSheets.{declined-row, accepted-row}
use Rattle.runs.proofs.AnswersOfSheets.{table_fits, answer-ends, answer-listed, accepted-exactly}
use Rattle.runs.proofs.CellsShown.{numbers-low, showing-numbers}
use Rattle.runs.proofs.FiguresInARow.{Low, count_low}

-- past what was written at its front, a slice is as it was
past-front : (t s : List ℕ) (n m : ℕ) → length t ≡ n → n ≤ m → drop m (t ++ drop n s) ≡ drop m s
past-front t s n m size h =
    let k = m - n in
    let e : m ≡ length t + k = omega arith in
    let d : n + k ≡ m = omega arith in
    ap (λ (x : ℕ). drop x (t ++ drop n s)) e ∙ drop-append-add t (drop n s) k ∙ drop-drop k n s ∙ ap (λ (x : ℕ). drop x s) d

module _ (press : ℕ) (is : IsPress press) (book sheet work : List ℕ) (fine : (book_of book).fault.number ≡ 0) (enough : work_room press ≤ length work) where
  fits : (sheet_of press sheet).fault.number ≡ 0 → entries_needed (picture_of press sheet) ≤ length work
  fits z = omega (arith, table_fits press sheet z, enough)

  pub asked-number : (asking press book sheet work).answer.number ≡ answer_of press book sheet
  asked-number =
      answer-ends press book sheet (λ n. (asking press book sheet work).answer.number ≡ n)
      (record {
        no_press = λ none. absurd (none is);
        in_book = λ n. absurd (n fine);
        in_sheet = λ z n. rw (sheet-first press book sheet work n, ne_eqb (sheet_of press sheet).fault.number 0 n) refl;
        declined = λ f none. ap (λ (a : Asking). a.answer.number) (other-asked press book sheet work f (fits f.sheet_fine) none);
        derived = λ f x. ap (λ (a : Asking). a.answer.number) (derived-asked press book sheet work f (fits f.sheet_fine) x);
      })

  asked-beyond : drop (work_room press) (asking press book sheet work).entries ≡ drop (work_room press) work
  asked-beyond = go (ℕ_discrete (sheet_of press sheet).fault.number 0)
    where
      go : Dec ((sheet_of press sheet).fault.number ≡ 0) → drop (work_room press) (asking press book sheet work).entries ≡ drop (work_room press) work
      go (yes z) =
          let accepted : Accepted press book sheet = record { book_fine = fine; sheet_fine = z } in
          ap (drop (work_room press)) (asked-table press book sheet work accepted (fits z))
          ∙ past-front (table (contents_of book) (picture_of press sheet)) work (entries_needed (picture_of press sheet)) (work_room press)
          (table-length (contents_of book) (picture_of press sheet)) (table_fits press sheet z)
      go (no n) = ap (λ (a : Asking). drop (work_room press) a.entries) (sheet-first press book sheet work n)

  module _ (bytes : Bytes book) (before : List ℕ) (r : Asked) (cells left : List ℕ) (asks : Asks press book sheet before work r cells left) where
    abbrev area : ℕ
    area = area_of r.size

    number_is : r.answer.number ≡ answer_of press book sheet
    number_is = ap (λ (a : Answer). a.number) asks.answers ∙ asked-number

    module _ (zero_is : r.answer.number ≡ 0) where
      derived : Accepted press book sheet × Member (contents_of book) (picture_of press sheet)
      derived = (accepted-exactly press book sheet).0 (sym number_is ∙ zero_is)

      low : (i : ℕ) → i < area → get_or cells i 0 < most_colours
      low = rw (asks.size, asks.cells_are) (numbers-low press book sheet bytes derived.0 derived.1 before)

      taken-low : Low (take area cells)
      taken-low i h =
          let inside : i < area = omega (arith, length-take area cells) in
          omega (arith, get_or-take area cells i 0 inside, low i inside)

      shows : (c : ℕ) → showing press book c sheet ≡ how_many (λ (x : ℕ). eqb x c) (take area cells)
      shows = rw (asks.size, asks.cells_are) (showing-numbers press book sheet bytes derived.0 derived.1 before)

    pub addable : (f : List ℕ) → Spare most_added f → Addable r cells f
    addable f spare =
        let g = sheet-cells before press sheet in
        let few = rw (← asks.size) at g.area_few in
        let all = ap length asks.cells_are ∙ numbers_all book (book_of book).family.colours sheet (over before (sheet_of press sheet)).sheet g.cells_all in
        record {
          counted = rw number_is (count_low (answer_of press book sheet) (answer-listed press book sheet is fine));
          spare = spare;
          area_few = few;
          cells_all = rw asks.size (omega (arith, g.cells_all, all));
          cells_low = low;
          ticket_fits = omega (arith, asks.ticket, (ticket-packs press sheet).count_fits);
        }

    -- the figures of any sheets become those of one sheet more
    with-sheet : (so_far : List (List ℕ)) (rest : List ℕ)
        → with_asked (in_a_row (figures_of press book so_far) ++ rest) r cells ≡ in_a_row (figures_of press book (so_far ++ (sheet ∷ []))) ++ rest
    unfolding with_asked
    with-sheet so_far rest = go (ℕ_discrete r.answer.number 0)
      where
        go : Dec (r.answer.number ≡ 0) → with_asked (in_a_row (figures_of press book so_far) ++ rest) r cells ≡ in_a_row (figures_of press book (so_far ++ (sheet ∷ []))) ++ rest
        go (yes z) =
            rw (eq-eqb r.answer.number 0 z, asks.ticket, number_is)
            (accepted-row press is book fine so_far sheet rest (sym number_is ∙ z) (take area cells) (taken-low z) (shows z))
        go (no n) = rw (ne_eqb r.answer.number 0 n, number_is) (declined-row press is book fine so_far sheet rest (λ z. n (number_is ∙ z)))

    pub asked-adds : (f : List ℕ) → Adds press book sheet work left f (with_asked f r cells)
    asked-adds f =
        record {
          counts = λ so_far rest e. ap (λ (l : List ℕ). with_asked l r cells) e ∙ with-sheet so_far rest;
          work_same = ap (drop (work_room press)) asks.leaves_work ∙ asked-beyond;
        }
