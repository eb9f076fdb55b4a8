-- What a C host learns from `dv_read_book` and `dv_read_sheet`, whatever the bytes, with the answer taken apart as the header's functions do: where there is no such press, 21 is
-- told of a sheet and nothing else; else its number is 0 to 8, or 18 for a book, a fault blames the input at a place within it, no fault blames nothing, each refusal is told
-- exactly of the bytes that `BookFault` or `SheetFault` gives it, 0 is told exactly of what is accepted, and with it the ticket of a sheet. The readers' laws bound the fault,
-- so that it packs.
use Prim.Native.Nat.{ℕ, ◌/◌, ◌%◌, ◌^◌, ◌≤◌}
use mathlib.Core.Path.{◌≡◌, sym, ap, ◌∙◌, subst⁻¹}
use mathlib.Core.Logic.{◌↔◌, inl}
use mathlib.Core.List.{List}
use native.Mathlib.Omega.{arith}
use borrow.Author.Tests.{eqb-true, eqb-false}
use lib.Dec.{eqb}
use lib.ListN.{length}
use Rattle.names.specs.Pick.{fault, ReadersNumber}
use Rattle.names.specs.Fault.{Fault}
use Rattle.names.proofs.Picking.{pick_ind}
use Rattle.names.proofs.ReadingNumbers.{BlamedBy}
use Rattle.names.specs.Bytes.{Bytes}
use Rattle.books.specs.Contents.{Contents}
use Rattle.books.specs.Press.{IsPress}
use Rattle.books.specs.Lent.{contents_of}
use Rattle.books.specs.ContentsIn.{grid_in}
use Rattle.books.specs.Keeps.{Keeps}
use Rattle.books.specs.Grid.{Grid, GridKeeps}
use Rattle.books.specs.SpellBook.{spell_book}
use Rattle.books.specs.SpellSheet.{spell_sheet}
use Rattle.books.specs.ReadsBook.{BookFault}
use Rattle.books.specs.ReadsSheet.{SheetFault}
use Rattle.books.specs.Answer.{InputsNumber, answer, plain, blaming, packed, Packs}
use Rattle.books.specs.Book.{book_of}
use Rattle.books.specs.Sheet.{sheet_of}
use Rattle.books.specs.Calls.{book_answer, sheet_answer, ticket_of}
use Rattle.books.specs.declared.answer.Answer.{Answer}
use Rattle.books.specs.declared.sheet.Sheet.{Sheet}
use Rattle.books.proofs.ReadingBooks.{farthest_book, book-refused, book-accepted}
use Rattle.books.proofs.LentEnds.{on_press_lem}
use Rattle.books.proofs.ReadingSheets.{sheet-refused}
use Rattle.books.proofs.SpellingBooks.{book-read-back}
use Rattle.books.proofs.SpellingSheets.{sheet-accepted, sheet-read-back}
use Rattle.books.proofs.BookExactly.{book-refused-exactly}
use Rattle.books.proofs.SheetExactly.{sheet-refused-exactly}
use Rattle.books.proofs.Packing.{apart, book-placed, ticket-packs, no-press-packed}

-- what the answer r tells of these bytes and the first fault in them, where the reader's numbers are known
pub record Told (Known : ℕ → Type 0) (s : List ℕ) (f : Fault) (r : ℕ) : Type 0 where
  pub number_is : r % 2 ^ 8 ≡ f.number
  pub known : Known (r % 2 ^ 8)
  pub blamed : 1 ≤ r % 2 ^ 8 → (r / 2 ^ 8 % 2 ^ 4 ≡ 1) × (r / 2 ^ 12 % 2 ^ 20 ≡ f.place) × (r / 2 ^ 12 % 2 ^ 20 ≤ length s)
  pub unblamed : r % 2 ^ 8 ≡ 0 → (r / 2 ^ 8 % 2 ^ 4 ≡ 0) × (r / 2 ^ 12 % 2 ^ 20 ≡ 0)

-- the one law of both calls, whatever count their answers carry
told : (Known : ℕ → Type 0) → Known 0 → (s : List ℕ) (limit count : ℕ) (f : Fault) → Packs (blaming 1 f) count
    → ((f.number ≡ 0 → ⊥) → BlamedBy Known s limit f) → Told Known s f (packed (blaming 1 f) count)
told Known none s limit count f =
    pick_ind (λ (a : Answer). Packs a count → ((f.number ≡ 0 → ⊥) → BlamedBy Known s limit f) → Told Known s f (packed a count)) (eqb f.number 0) (plain 0) (answer f.number 1 f.place)
    (λ t p b.
    let y = apart (plain 0) count p in
    record {
      number_is = y.number_is ∙ sym (eqb-true f.number 0 t);
      known = subst⁻¹ Known y.number_is none;
      blamed = λ h. absurd (omega (arith, y.number_is));
      unblamed = λ _. (y.blamed_is, y.place_is);
    })
    (λ t p b.
    let x = b (eqb-false f.number 0 t) in
    let y = apart (answer f.number 1 f.place) count p in
    record {
      number_is = y.number_is;
      known = subst⁻¹ Known y.number_is x.known;
      blamed = λ _. (y.blamed_is, y.place_is, omega (arith, y.place_is, x.inside));
      unblamed = λ z. absurd (omega (arith, y.number_is, x.some));
    })

-- the number and the place of a fault are told exactly where it is the first
told-first : {Known : ℕ → Type 0} (s : List ℕ) (f g : Fault) (r : ℕ) → Told Known s f r → 1 ≤ g.number → ((r % 2 ^ 8 ≡ g.number) × (r / 2 ^ 12 % 2 ^ 20 ≡ g.place)) ↔ (f ≡ g)
told-first s f g r t some = (
  λ h.
      let number : f.number ≡ g.number = sym t.number_is ∙ h.0 in
      let place : f.place ≡ g.place = sym (t.blamed (omega (arith, h.0))).1 ∙ h.1 in
      ap (λ (n : ℕ). fault n f.place) number ∙ ap (fault g.number) place,
  λ e.
      let number : r % 2 ^ 8 ≡ g.number = t.number_is ∙ ap (λ (x : Fault). x.number) e in
      (number, (t.blamed (omega arith)).1 ∙ ap (λ (x : Fault). x.place) e),
)

-- ... each refusal is told exactly when its row says, and 0 is told of no other bytes than the spellings of contents that keep the rules
pub record BookTold (s : List ℕ) (r : ℕ) : Type 0 where
  pub tells : Told InputsNumber s (book_of s).fault r
  pub refused : (f : Fault) → 1 ≤ f.number → ((r % 2 ^ 8 ≡ f.number) × (r / 2 ^ 12 % 2 ^ 20 ≡ f.place)) ↔ BookFault s f
  pub accepted : Bytes s → (r % 2 ^ 8 ≡ 0) ↔ ((b : Contents) × Keeps b × (s ≡ spell_book b))
  pub count : r / 2 ^ 32 ≡ 0

-- the count is the ticket of the contents, and 0 where the sheet is refused
pub record SheetTold (press : ℕ) (s : List ℕ) (r : ℕ) : Type 0 where
  pub tells : Told ReadersNumber s (sheet_of press s).fault r
  pub refused : (f : Fault) → 1 ≤ f.number → ((r % 2 ^ 8 ≡ f.number) × (r / 2 ^ 12 % 2 ^ 20 ≡ f.place)) ↔ SheetFault press s f
  pub accepted : Bytes s → (r % 2 ^ 8 ≡ 0) ↔ ((g : Grid) × GridKeeps press g × (s ≡ spell_sheet g))
  pub ticket : (g : Grid) → GridKeeps press g → s ≡ spell_sheet g → r / 2 ^ 32 ≡ g.ticket
  pub no_ticket : 1 ≤ r % 2 ^ 8 → r / 2 ^ 32 ≡ 0

pub read_book-told : (s : List ℕ) (r : ℕ) → r ≡ packed (book_answer s) 0 → BookTold s r
read_book-told s r e =
    let packs = (book-placed s 1 (omega arith)).packs in
    let t : Told InputsNumber s (book_of s).fault r = rw e (told InputsNumber (inl (omega arith)) s farthest_book 0 (book_of s).fault packs (λ n. (book-refused s n).blamed)) in
    record {
      tells = t;
      refused = λ f some. let first = told-first s _ f r t some in let row = book-refused-exactly s f some in (λ h. row.0 (first.0 h), λ x. first.1 (row.1 x));
      accepted = λ bytes. (
        λ z. let a = book-accepted s bytes (sym t.number_is ∙ z) in (contents_of s, a.keeps, a.spelled),
        λ x. t.number_is ∙ rw x.2 (ap (λ (f : Fault). f.number) (book-read-back x.0 x.1).0),
      );
      count = rw e (apart (book_answer s) 0 packs).count_is;
    }

pub read_sheet-told : (press : ℕ) → IsPress press → (s : List ℕ) (r : ℕ) → r ≡ packed (sheet_answer press s) (ticket_of press s) → SheetTold press s r
read_sheet-told press is s r given =
    let a = blaming 1 (sheet_of press s).fault in
    let e : r ≡ packed a (ticket_of press s) = given ∙ ap (λ (x : Answer). packed x (ticket_of press s)) (on_press_lem press (λ x. x) a is) in
    let packs = ticket-packs press s in
    let t : Told ReadersNumber s (sheet_of press s).fault r = rw e (told ReadersNumber (omega arith) s _ (ticket_of press s) (sheet_of press s).fault packs (λ n. (sheet-refused press s n).blamed)) in
    let count : r / 2 ^ 32 ≡ ticket_of press s = rw e (apart a (ticket_of press s) packs).count_is in
    record {
      tells = t;
      refused = λ f some. let first = told-first s _ f r t some in let row = sheet-refused-exactly press s f some in (λ h. row.0 (first.0 h), λ x. first.1 (row.1 x));
      accepted = λ bytes. (
        λ z. let a = sheet-accepted press s bytes (sym t.number_is ∙ z) in (grid_in s (sheet_of press s).sheet, a.keeps, a.spelled),
        λ x. t.number_is ∙ rw x.2 (ap (λ (f : Fault). f.number) (sheet-read-back press x.0 x.1).0),
      );
      ticket = λ g k i. count ∙ rw i (ap (λ (x : Grid). x.ticket) (sheet-read-back press g k).1);
      no_ticket = λ h. count ∙ ap (λ (x : Sheet). x.ticket) (sheet-refused press s (λ z. omega (arith, t.number_is))).none;
    }

-- where there is no such press, the answer is 21, which blames no input, with no place and no ticket
pub no-press-told : (press : ℕ) → (IsPress press → ⊥) → (s : List ℕ) (r : ℕ) → r ≡ packed (sheet_answer press s) (ticket_of press s) → r ≡ 21
no-press-told press n s r e = e ∙ no-press-packed press s n
