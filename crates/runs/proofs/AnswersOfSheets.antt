-- With room enough for the greatest sheet neither slice of a derivation can be too short, so that it ends in one of five ways: there is no such press, or an
-- input is refused, or the family has the sheet, or not. So on a press the answer is 0 to 8 or 11.
use Prim.Native.Nat.{ℕ, ◌+◌, ◌≤◌, ◌<◌}
use mathlib.Core.Path.{◌≡◌, refl, ap}
use mathlib.Core.List.{List, []}
use mathlib.Core.Logic.{◌↔◌, ◌⊎◌, inl, inr}
use native.Mathlib.Decide.{ℕ_discrete}
use native.Mathlib.Omega.{arith}
use borrow.Author.Count.{below_none, below_more}
use lib.ListN.{replicate, length-replicate}
use Rattle.names.specs.Colours.{colours_of}
use Rattle.names.specs.Number.{number_at, number_in}
use Rattle.names.specs.Pick.{fault, ReadersNumber}
use Rattle.names.specs.Fault.{Fault}
use Rattle.names.proofs.Tests.{together, neither}
use Rattle.books.specs.Book.{book_of}
use Rattle.books.specs.Derives.{Member}
use Rattle.books.specs.Lent.{contents_of, picture_of, Accepted}
use Rattle.books.specs.Press.{IsPress}
use Rattle.books.specs.Sheet.{sheet_of}
use Rattle.books.specs.declared.answer.Answer.{Answer}
use Rattle.books.proofs.LentEnds.{blamed_is, accepted-press, Refusal, no_press, in_book, in_sheet}
use Rattle.books.proofs.Area.{within-area}
use Rattle.books.proofs.ReadingSheets.{sheet-refused, sheet-lies}
use Rattle.pieces.specs.Derivation.{Derivation, entries_needed, numbers_needed}
use Rattle.pieces.proofs.Endings.{derivation-ends}
use Rattle.pieces.proofs.Stretches.{total-few}
use Rattle.runs.specs.Figures.{work_room, tree_room, answer_of}

-- ── Room enough ──

pub table_fits : (press : ℕ) (sheet : List ℕ) → (sheet_of press sheet).fault.number ≡ 0 → entries_needed (picture_of press sheet) ≤ work_room press
table_fits press sheet z = let l = (sheet-lies press sheet z).within in total-few _ _ _ l.rows_few l.cols_few

pub tree-fits : (press : ℕ) (sheet : List ℕ) → numbers_needed (picture_of press sheet) ≤ tree_room press
tree-fits press sheet = go (ℕ_discrete (sheet_of press sheet).fault.number 0)
  where
    go : Dec ((sheet_of press sheet).fault.number ≡ 0) → numbers_needed (picture_of press sheet) ≤ tree_room press
    go (yes z) = omega (arith, within-area (sheet-lies press sheet z).within)
    go (no n) = rw (sheet-refused press sheet n).none (omega arith)

-- ── The answers ──

-- 0 to 8, or 11
abbrev pub Listed : ℕ → Type 0
Listed n = ReadersNumber n ⊎ (n ≡ 11)

-- what holds of each of the ten
pub of-listed : (P : ℕ → Type 0) → P 0 → P 1 → P 2 → P 3 → P 4 → P 5 → P 6 → P 7 → P 8 → P 11 → (n : ℕ) → Listed n → P n
of-listed P zero one two three four five six seven eight eleven n (inl h) =
    next 8 (next 7 (next 6 (next 5 (next 4 (next 3 (next 2 (next 1 (next 0 (below_none P) zero) one) two) three) four) five) six) seven) eight n (omega arith)
  where
    next : (i : ℕ) → ((k : ℕ) → k < i → P k) → P i → (k : ℕ) → k < i + 1 → P k
    next i = below_more P i
of-listed P zero one two three four five six seven eight eleven n (inr e) = rw e eleven

module _ (press : ℕ) (book sheet : List ℕ) where
  pub record Ways (P : ℕ → Type 0) : Type 0 where
    pub no_press : (IsPress press → ⊥) → P 21
    pub in_book : ((book_of book).fault.number ≡ 0 → ⊥) → P (book_of book).fault.number
    pub in_sheet : (book_of book).fault.number ≡ 0 → ((sheet_of press sheet).fault.number ≡ 0 → ⊥) → P (sheet_of press sheet).fault.number
    pub declined : Accepted press book sheet → (Member (contents_of book) (picture_of press sheet) → ⊥) → P 11
    pub derived : Accepted press book sheet → Member (contents_of book) (picture_of press sheet) → P 0

  pub answer-ends : (P : ℕ → Type 0) → Ways P → P (answer_of press book sheet)
  unfolding answer_of
  answer-ends P ways =
      derivation-ends press book sheet (replicate (work_room press) 0) (replicate (tree_room press) 0) (λ (d : Derivation). P d.answer.number)
      (record {
        refused = λ a r. out r;
        short_work = λ fine short. absurd (omega (arith, short, length-replicate {A = ℕ} (work_room press) 0, table_fits press sheet fine.sheet_fine));
        short_tree = λ fine enough short. absurd (omega (arith, short, length-replicate {A = ℕ} (tree_room press) 0, tree-fits press sheet));
        declined = λ fine room none. ways.declined fine none;
        derived = λ fine room x nodes given. ways.derived fine x;
      })
    where
      out : {a : Answer} → Refusal press book sheet a → P a.number
      out (no_press none) = ways.no_press none
      out (in_book is n) = rw (blamed_is 1 (book_of book).fault n) (ways.in_book n)
      out (in_sheet is z n) = rw (blamed_is 2 (sheet_of press sheet).fault n) (ways.in_sheet z n)

  pub answer-listed : IsPress press → (book_of book).fault.number ≡ 0 → Listed (answer_of press book sheet)
  answer-listed is fine =
      answer-ends Listed
      (record {
        no_press = λ none. absurd (none is);
        in_book = λ n. absurd (n fine);
        in_sheet = λ z n. inl (sheet-refused press sheet n).blamed.known;
        declined = λ fine none. inr refl;
        derived = λ fine x. inl (omega arith);
      })

  -- an accepted sheet is read, and a member of the family; and every such sheet is accepted
  pub accepted-exactly : (answer_of press book sheet ≡ 0) ↔ (Accepted press book sheet × Member (contents_of book) (picture_of press sheet))
  accepted-exactly =
      answer-ends (λ n. (n ≡ 0) ↔ (Accepted press book sheet × Member (contents_of book) (picture_of press sheet)))
      (record {
        no_press = λ none. neither (λ e. omega arith) (λ x. none (accepted-press x.0));
        in_book = λ n. neither n (λ x. n x.0.book_fine);
        in_sheet = λ z n. neither n (λ x. n x.0.sheet_fine);
        declined = λ fine none. neither (λ e. omega arith) (λ x. none x.1);
        derived = λ fine x. together refl (fine, x);
      })

-- a sheet of no bytes ends at once
nothing_read : (press : ℕ) → (sheet_of press []).fault ≡ fault 1 0
unfolding sheet_of colours_of number_in number_at
nothing_read press = refl

pub nothing-answers : (press : ℕ) → IsPress press → (book : List ℕ) → (book_of book).fault.number ≡ 0 → answer_of press book [] ≡ 1
nothing-answers press is book z =
    let ends : (sheet_of press []).fault.number ≡ 1 = ap (λ (f : Fault). f.number) (nothing_read press) in
    answer-ends press book [] (λ n. n ≡ 1)
    (record {
      no_press = λ none. absurd (none is);
      in_book = λ n. absurd (n z);
      in_sheet = λ _ _. ends;
      declined = λ fine _. absurd (omega (arith, ends, fine.sheet_fine));
      derived = λ fine _. absurd (omega (arith, ends, fine.sheet_fine));
    })
