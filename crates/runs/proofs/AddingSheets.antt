-- A sheet more: its answer has one count more, and an accepted sheet adds its cells and its ticket. So the figures of the sheets so far become
-- those of one sheet more.
use Prim.Native.Nat.{ℕ, ◌+◌}
use mathlib.Core.Path.{◌≡◌, sym, ap, ◌∙◌}
use mathlib.Core.List.{List, [], ◌∷◌, ◌++◌, map, map-append, append-nil}
use borrow.Author.Tests.{eq-eqb, ne_eqb}
use lib.Dec.{eqb}
use lib.ListN.{length, length-append}
use Rattle.names.specs.Counted.{each}
use Rattle.names.specs.Pick.{pick}
use Rattle.books.specs.Book.{book_of}
use Rattle.books.specs.Calls.{ticket_of}
use Rattle.books.specs.Press.{IsPress}
use Rattle.runs.specs.Figures.{answer_of, showing, answering, accepted, got, cells_of, tickets, figures_of, in_a_row}
use Rattle.runs.specs.Lists.{those, how_many, added_up, any_in, least_in, greatest_in}
use Rattle.runs.specs.inner.Adding.{answered, coloured, ticketed}
use Rattle.runs.proofs.AnswersOfSheets.{answer-listed}
use Rattle.runs.proofs.CountingLists.{once, those-append, how_many-append, how_many-one, added-append, added-one, least_more, greatest-more, any-more}
use Rattle.runs.proofs.FiguresInARow.{row, ticket_row, Low, row-answered, row-coloured, row-ticketed}

module _ (press : ℕ) (is : IsPress press) (book : List ℕ) (fine : (book_of book).fault.number ≡ 0) (sheets : List (List ℕ)) (sheet : List ℕ) where
  abbrev more : List (List ℕ)
  more = sheets ++ (sheet ∷ [])

  -- ── The list with one sheet more ──

  got-more : (a : ℕ) → got press book sheets a + once (eqb (answer_of press book sheet) a) ≡ got press book more a
  unfolding got
  got-more a =
      sym (how_many-append (answering press book a) sheets (sheet ∷ []) ∙ ap (λ (n : ℕ). how_many (answering press book a) sheets + n) (how_many-one (answering press book a) sheet))

  accepted-more : accepted press book more ≡ accepted press book sheets ++ pick (eqb (answer_of press book sheet) 0) (sheet ∷ []) []
  unfolding accepted those
  accepted-more = those-append (answering press book 0) sheets (sheet ∷ [])

  -- ── The figures ──

  module _ (rest : List ℕ) where
    abbrev so_far : List ℕ
    so_far = in_a_row (figures_of press book sheets) ++ rest

    abbrev with_it : List ℕ
    with_it = in_a_row (figures_of press book more) ++ rest

    answered-row : answered so_far (answer_of press book sheet) ≡ row (length more) (got press book more) (cells_of press book sheets) (ticket_row (tickets press book sheets) rest)
    unfolding in_a_row figures_of each
    answered-row =
        row-answered (length sheets) (got press book sheets) (cells_of press book sheets) (ticket_row (tickets press book sheets) rest) (answer_of press book sheet)
        (answer-listed press book sheet is fine)
        ∙ (λ i. row (sym (length-append sheets (sheet ∷ [])) i) (λ a. got-more a i) (cells_of press book sheets) (ticket_row (tickets press book sheets) rest))

    pub declined-row : (answer_of press book sheet ≡ 0 → ⊥) → answered so_far (answer_of press book sheet) ≡ with_it
    unfolding in_a_row figures_of each cells_of tickets
    declined-row other =
        answered-row ∙ ap (λ (l : List (List ℕ)). row (length more) (got press book more) (λ c. added_up (showing press book c) l) (ticket_row (map (ticket_of press) l) rest)) left_out
      where
        left_out : accepted press book sheets ≡ accepted press book more
        left_out = sym ((rw (ne_eqb (answer_of press book sheet) 0 other) at accepted-more) ∙ append-nil (accepted press book sheets))

    pub accepted-row : answer_of press book sheet ≡ 0 → (l : List ℕ) → Low l → ((c : ℕ) → showing press book c sheet ≡ how_many (λ (x : ℕ). eqb x c) l)
        → ticketed (coloured (answered so_far (answer_of press book sheet)) l) (ticket_of press sheet) ≡ with_it
    unfolding in_a_row figures_of each cells_of tickets
    accepted-row zero_is l low shows =
        ap (λ (f : List ℕ). ticketed (coloured f l) t) answered-row
        ∙ ap (λ (f : List ℕ). ticketed f t) (row-coloured (length more) (got press book more) (cells_of press book sheets) (ticket_row ts rest) l low)
        ∙ row-ticketed (length more) (got press book more) cells (any_in ts) (least_in ts) (greatest_in ts) rest t
        ∙ (λ i. row (length more) (got press book more) (λ c. cells-taken c i) (any-more ts t i ∷ least_more ts t i ∷ greatest-more ts t i ∷ rest))
        ∙ ap (λ (x : List ℕ). row (length more) (got press book more) (cells_of press book more) (ticket_row x rest)) tickets-taken
      where
        cells : ℕ → ℕ
        cells c = cells_of press book sheets c + how_many (λ (x : ℕ). eqb x c) l

        t : ℕ
        t = ticket_of press sheet

        ts : List ℕ
        ts = tickets press book sheets

        taken : accepted press book sheets ++ (sheet ∷ []) ≡ accepted press book more
        taken = sym (rw (eq-eqb (answer_of press book sheet) 0 zero_is) at accepted-more)

        cells-taken : (c : ℕ) → cells c ≡ cells_of press book more c
        cells-taken c =
            ap (λ (n : ℕ). cells_of press book sheets c + n) (sym (shows c) ∙ sym (added-one (showing press book c) sheet))
            ∙ sym (added-append (showing press book c) (accepted press book sheets) (sheet ∷ [])) ∙ ap (added_up (showing press book c)) taken

        tickets-taken : ts ++ (t ∷ []) ≡ tickets press book more
        tickets-taken = sym (map-append (ticket_of press) (accepted press book sheets) (sheet ∷ [])) ∙ ap (map (ticket_of press)) taken
