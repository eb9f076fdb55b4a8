-- What the figures say of a run on a press, over the list of its sheets: every sheet has one of the ten answers, whatever the slices of a derivation that is asked, so
-- that the counts add up; the least and the greatest ticket are tickets of accepted sheets and bound them; and where no sheet is accepted, nothing is told of tickets.
use Prim.Native.Nat.{ℕ, ◌≤◌}
use mathlib.Core.Path.{◌≡◌, refl, sym, ap, ◌∙◌}
use mathlib.Core.List.{List, [], ◌∷◌, map}
use mathlib.Core.Logic.{◌⊎◌, inl, inr, ⊎_elim}
use native.Mathlib.Decide.{ℕ_discrete}
use native.Mathlib.Omega.{arith}
use lib.Dec.{eqb}
use lib.ListN.{length, replicate}
use Rattle.names.specs.Number.{number_at}
use Rattle.names.specs.Pick.{fault}
use Rattle.names.specs.Read.{Value}
use Rattle.names.proofs.Tests.{lt-or-le}
use Rattle.books.specs.Book.{book_of}
use Rattle.books.specs.Calls.{ticket_of}
use Rattle.books.specs.Press.{presses, IsPress}
use Rattle.books.specs.declared.answer.Answer.{Answer}
use Rattle.pieces.specs.Derivation.{Derivation, derivation}
use Rattle.pieces.proofs.AskingAnswers.{as-derived}
use Rattle.books.proofs.LentEnds.{Refusal, no_press, in_book}
use Rattle.pieces.proofs.DerivationAnswers.{refused-first}
use Rattle.names.specs.Counted.{each}
use Rattle.runs.specs.Run.{frame_at, sheet_in, walk_from, framing, sheets_of}
use Rattle.runs.specs.Figures.{work_room, tree_room, answer_of, answering, accepted, got, cells_of, tickets, answers_given, figures_of, no_figures}
use Rattle.runs.specs.Lists.{those, how_many, added_up, any_in, least_in, greatest_in}
use Rattle.runs.specs.declared.figures.Figures.{Figures}
use Rattle.runs.specs.Run.{Frame}
use Rattle.runs.proofs.AnswersOfSheets.{tree-fits, of-listed, nothing-answers}
use Rattle.runs.proofs.AskedSheets.{asked-number}
use Rattle.runs.proofs.CountingLists.{once, how_many-none, how_many-cons, Bounds, least-bounds, greatest-bounds}
use Rattle.runs.proofs.WalkingRuns.{framed-whole, sheet-framed}
-- The answer of a sheet of a press under an accepted book is 0 to 8, or 11 (`answer-listed`), and 0 exactly where book and sheet are read and the family has the sheet (`accepted-exactly`).
pub use Rattle.runs.proofs.AnswersOfSheets.{Listed, answer-listed, accepted-exactly}

-- ── The answer of a sheet ──

-- It is the number that every derivation with room for the greatest sheet gives, whatever stands in the slices and however long they are beyond that.
pub any-room : (press : ℕ) (book sheet work tree : List ℕ) → work_room press ≤ length work → tree_room press ≤ length tree
    → (derivation press book sheet work tree).answer.number ≡ answer_of press book sheet
unfolding answer_of
any-room press book sheet work tree enough long =
    ⊎_elim (λ is. go is (ℕ_discrete (book_of book).fault.number 0))
    (λ h. refused (no_press (λ is. omega arith)))
    (lt-or-le press presses)
  where
    Same : Type 0
    Same = (derivation press book sheet work tree).answer.number ≡ (derivation press book sheet (replicate (work_room press) 0) (replicate (tree_room press) 0)).answer.number

    number : Derivation → ℕ
    number d = d.answer.number

    refused : {a : Answer} → Refusal press book sheet a → Same
    refused r =
        ap number (refused-first press book sheet work tree r)
        ∙ sym (ap number (refused-first press book sheet (replicate (work_room press) 0) (replicate (tree_room press) 0) r))

    go : IsPress press → Dec ((book_of book).fault.number ≡ 0) → Same
    go is (yes z) =
        ap (λ (a : Answer). a.number) (as-derived press book sheet work tree z (omega (arith, tree-fits press sheet)) is).same_answer
        ∙ asked-number press is book sheet work z enough
    go is (no n) = refused (in_book is n)

-- ── The counts add up ──

abbrev itself : ℕ → ℕ
itself n = n

-- the sum of the ten counts
abbrev pub in_all : (ℕ → ℕ) → ℕ
in_all f = added_up itself (map f answers_given)

-- an answer is one of the ten, and of no two
abbrev Once : ℕ → Type 0
Once n = in_all (λ a. once (eqb n a)) ≡ 1

once-in-all : (n : ℕ) → Listed n → Once n
unfolding added_up
once-in-all = of-listed Once refl refl refl refl refl refl refl refl refl refl

-- on a press under an accepted book the answer counts of any list of sheets add up to the number of sheets
pub answers-add-up : (press : ℕ) → IsPress press → (book : List ℕ) → (book_of book).fault.number ≡ 0 → (sheets : List (List ℕ)) → in_all (got press book sheets) ≡ length sheets
unfolding got added_up
answers-add-up press is book fine [] = ap in_all (λ i a. how_many-none (answering press book a) i)
answers-add-up press is book fine (s ∷ sheets) =
    let counts = ap in_all (λ i a. how_many-cons (answering press book a) s sheets i) in
    omega (arith, counts, once-in-all (answer_of press book s) (answer-listed press book s is fine), answers-add-up press is book fine sheets)

pub counts-add-up : (press : ℕ) → IsPress press → (book : List ℕ) → (book_of book).fault.number ≡ 0 → (sheets : List (List ℕ))
    → added_up itself (figures_of press book sheets).answers ≡ (figures_of press book sheets).sheets
unfolding figures_of
counts-add-up press is book fine sheets = answers-add-up press is book fine sheets

-- ── Tickets ──

some-bounds : (l : List ℕ) → any_in l ≡ 1 → Bounds (λ n x. n ≤ x) l (least_in l) × Bounds (λ n x. x ≤ n) l (greatest_in l)
unfolding any_in
some-bounds [] e = absurd (omega arith)
some-bounds (x ∷ l) e = (least-bounds x l, greatest-bounds x l)

none_left : (l : List ℕ) → any_in l ≡ 0 → l ≡ []
unfolding any_in
none_left [] e = refl
none_left (x ∷ l) e = absurd (omega arith)

module _ (press : ℕ) (book : List ℕ) (sheets : List (List ℕ)) where
  abbrev figures : Figures
  figures = figures_of press book sheets

  -- where some sheet is accepted, the least ticket is that of an accepted sheet, and no accepted sheet has a lesser one; so the greatest
  pub tickets-bound : figures.any ≡ 1
      → Bounds (λ n x. n ≤ x) (tickets press book sheets) figures.least × Bounds (λ n x. x ≤ n) (tickets press book sheets) figures.greatest
  unfolding figures_of
  tickets-bound e = some-bounds (tickets press book sheets) e

  -- and else no sheet is, and both are 0
  pub no-tickets : figures.any ≡ 0 → (accepted press book sheets ≡ []) × (figures.least ≡ 0) × (figures.greatest ≡ 0)
  unfolding figures_of tickets least_in greatest_in
  no-tickets e =
      let none = none_left (tickets press book sheets) e in
      (unmapped (accepted press book sheets) none, ap least_in none, ap greatest_in none)
    where
      unmapped : (l : List (List ℕ)) → map (ticket_of press) l ≡ [] → l ≡ []
      unmapped [] e = refl
      unmapped (x ∷ l) e = absurd (omega (arith, ap length e))

  pub any_told : (figures.any ≡ 0) ⊎ (figures.any ≡ 1)
  unfolding figures_of any_in
  any_told = told (tickets press book sheets)
    where
      told : (l : List ℕ) → (any_in l ≡ 0) ⊎ (any_in l ≡ 1)
      told [] = inl refl
      told (x ∷ l) = inr refl

-- ── No sheets, and sheets of no bytes ──

pub nothing-counted : (press : ℕ) (book : List ℕ) → figures_of press book [] ≡ no_figures
unfolding figures_of got how_many those cells_of accepted tickets added_up any_in least_in greatest_in each
nothing-counted press book = refl

pub empty-run : (framing [] ≡ fault 0 0) × (sheets_of [] ≡ [])
unfolding framing sheets_of walk_from
empty-run = (refl, refl)

-- a length of 0 frames a sheet of no bytes, which an accepted book answers with 1 on every press
pub no_bytes : (run : List ℕ) (at next : ℕ) → number_at run at ≡ Value 0 next → ((frame_at run at).fault ≡ fault 0 0) × (sheet_in run (frame_at run at) ≡ [])
no_bytes run at next e =
    let whole = framed-whole run at 0 next e (omega arith) in
    (ap (λ (f : Frame). f.fault) whole, ap (sheet_in run) whole ∙ sheet-framed run next 0)

pub no-bytes-answers : (press : ℕ) → IsPress press → (book : List ℕ) → (book_of book).fault.number ≡ 0 → answer_of press book [] ≡ 1
no-bytes-answers = nothing-answers
