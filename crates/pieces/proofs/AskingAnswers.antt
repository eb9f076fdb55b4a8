-- What asking a book for a sheet means: the order of its tests, that it says what a derivation says, and that a sheet is accepted exactly when the rules derive
-- it. A derivation makes the same tests beside those of the book and of the tree's slice.
use Prim.Native.Nat.{ℕ, ◌≤◌, ◌<◌}
use mathlib.Core.Path.{◌≡◌, sym, ap, ◌∙◌}
use mathlib.Core.Bool.{true, false}
use mathlib.Core.List.{List}
use mathlib.Core.Logic.{◌↔◌, ⊎_elim}
use native.Mathlib.Omega.{arith}
use borrow.Author.Tests.{eq-eqb, ne_eqb, lt-ltb, le-ltb}
use lib.ListN.{length, get_or}
use Rattle.names.proofs.Settled.{Settles, settles, SettlesBoth, settled}
use Rattle.std.specs.Prelude.{Result, Ok, Err}
use Rattle.names.specs.Bytes.{Bytes}
use Rattle.names.specs.declared.fault.Fault.{Fault as CodeFault}
use Rattle.names.proofs.Tests.{true-or-false}
use Rattle.books.specs.Press.{IsPress}
use Rattle.books.specs.Contents.{Contents}
use Rattle.books.specs.Picture.{Picture}
use Rattle.books.specs.Derives.{Derives, Member}
use Rattle.books.specs.Decide.{derives?}
use Rattle.books.specs.Book.{book_of, refused_book}
use Rattle.books.specs.declared.family.Family.{Family}
use Rattle.books.proofs.Following.{told-some}
use Rattle.books.proofs.Settled.{book-one}
use Rattle.books.specs.Sheet.{sheet_of}
use Rattle.books.specs.Answer.{plain, blaming}
use Rattle.books.specs.declared.answer.Answer.{Answer}
use Rattle.books.specs.declared.rule.Dir.{Dir}
use Rattle.books.proofs.Deciding.{decided, refused}
use Rattle.books.proofs.LentEnds.{Refusal, no_press, in_book, in_sheet}
use Rattle.books.proofs.ReadingBooks.{book-accepted}
use Rattle.pieces.specs.declared.asking.Asked.{Asked}
use Rattle.pieces.specs.Split.{Split, told_split}
use Rattle.pieces.specs.Masks.{no_joins}
use Rattle.pieces.specs.declared.asking.Split.{Split as CodeSplit}
use Rattle.pieces.specs.declared.masks.Joins.{Joins}
use Rattle.pieces.specs.declared.piece.Piece.{Piece}
use Rattle.pieces.specs.Pieces.{Inside, slot_of}
use Rattle.pieces.specs.Table.{cut}
use Rattle.names.specs.Bits.{bit}
use Rattle.pieces.specs.Derivation.{Derivation, leaving, entries_needed, numbers_needed, filled, derivation}
use Rattle.pieces.specs.Asking.{SplitBook, kept_with, split_book, AskedSheet, asked_with, ask_sheet, Asking, unwritten, tabled, asking}
use Rattle.pieces.specs.Firing.{fire_of, painted_of}
use Rattle.pieces.proofs.Entries.{entry-derives, derives-entry}
use Rattle.pieces.proofs.ExactViews.{motif-below}
use Rattle.pieces.proofs.Judging.{filled-holds, held-entry}
use Rattle.books.specs.Lent.{contents_of, picture_of, Accepted}
use Rattle.pieces.proofs.Endings.{derivation-ends}

-- ── The order of the answers ──

module _ (press : ℕ) (book sheet entries : List ℕ) where
  pub sheet-first : ((sheet_of press sheet).fault.number ≡ 0 → ⊥) → asking press book sheet entries ≡ unwritten (blaming 2 (sheet_of press sheet).fault) entries
  unfolding asking
  sheet-first n = simp (ne_eqb (sheet_of press sheet).fault.number 0 n)

  pub room-second : (sheet_of press sheet).fault.number ≡ 0 → length entries < entries_needed (picture_of press sheet) → asking press book sheet entries ≡ unwritten (plain 9) entries
  unfolding asking
  room-second z short = simp (eq-eqb (sheet_of press sheet).fault.number 0 z, lt-ltb (length entries) (entries_needed (picture_of press sheet)) short)

  pub table-last : (sheet_of press sheet).fault.number ≡ 0 → entries_needed (picture_of press sheet) ≤ length entries
      → asking press book sheet entries ≡ tabled (contents_of book) (picture_of press sheet) entries
  unfolding asking
  table-last z enough = simp (eq-eqb (sheet_of press sheet).fault.number 0 z, le-ltb (length entries) (entries_needed (picture_of press sheet)) enough)

-- ── With the table written ──

module _ (b : Contents) (p : Picture) (entries : List ℕ) where
  pub tabled-derived : Member b p → tabled b p entries ≡ unwritten (plain 0) (filled b p entries)
  unfolding tabled
  tabled-derived x = simp ((decided b b.start p).1 x)

  pub tabled-other : (Member b p → ⊥) → tabled b p entries ≡ unwritten (plain 11) (filled b p entries)
  unfolding tabled
  tabled-other n = simp ((refused b b.start p).1 n)

-- ── An accepted book and sheet, with room for the table ──

module _ (press : ℕ) (book sheet entries : List ℕ) (fine : Accepted press book sheet) (room : entries_needed (picture_of press sheet) ≤ length entries) where
  abbrev b : Contents
  b = contents_of book

  abbrev p : Picture
  p = picture_of press sheet

  pub derived-asked : Member b p → asking press book sheet entries ≡ unwritten (plain 0) (filled b p entries)
  derived-asked x = table-last press book sheet entries fine.sheet_fine room ∙ tabled-derived b p entries x

  pub other-asked : (Member b p → ⊥) → asking press book sheet entries ≡ unwritten (plain 11) (filled b p entries)
  other-asked n = table-last press book sheet entries fine.sheet_fine room ∙ tabled-other b p entries n

  -- accepted exactly when the rules derive it
  pub asked-exactly : ((asking press book sheet entries).answer ≡ plain 0) ↔ Member b p
  asked-exactly = (
    λ e. ⊎_elim
        (λ (t : derives? b b.start p ≡ true). (decided b b.start p).0 t)
        (λ (t : derives? b b.start p ≡ false).
        let other = ap (λ (a : Asking). a.answer.number) (other-asked ((refused b b.start p).0 t)) in
        let z : ◌≡◌ {A = ℕ} 11 0 = sym other ∙ ap (λ (a : Answer). a.number) e in
        absurd (omega arith))
        (true-or-false (derives? b b.start p)),
    λ x. ap (λ (a : Asking). a.answer) (derived-asked x),
  )

  -- the work slice holds the table, and the slice beyond is as it was
  pub asked-table : (asking press book sheet entries).entries ≡ filled b p entries
  unfolding tabled
  asked-table = ap (λ (a : Asking). a.entries) (table-last press book sheet entries fine.sheet_fine room)

  -- whose bit a at a piece is set exactly when motif a derives the piece
  pub asked-bit : Bytes book → (a : ℕ) (q : Piece) → Inside p.rows p.cols q
      → (bit (get_or (asking press book sheet entries).entries (slot_of p.rows p.cols q) 0) a ≡ 1) ↔ Derives b a (cut p q)
  asked-bit bytes a q inq =
      let sound = (book-accepted book bytes fine.book_fine).keeps.sound in
      rw (asked-table, held-entry b p (filled b p entries) (filled-holds b p entries) q inq)
      (entry-derives b (cut p q) a, λ x. derives-entry b (cut p q) a (motif-below b sound x) x)

-- ── Asking says what a derivation says ──

module _ (press : ℕ) (book sheet entries numbers : List ℕ) (fine : (book_of book).fault.number ≡ 0) (long : numbers_needed (picture_of press sheet) ≤ length numbers) where
  pub record Says (d : Derivation) : Type 0 where
    pub same_answer : d.answer ≡ (asking press book sheet entries).answer
    pub same_entries : d.entries ≡ (asking press book sheet entries).entries

  says : {d : Derivation} → asking press book sheet entries ≡ unwritten d.answer d.entries → Says d
  says e = record { same_answer = sym (ap (λ (a : Asking). a.answer) e); same_entries = sym (ap (λ (a : Asking). a.entries) e) }

  pub as-derived : IsPress press → Says (derivation press book sheet entries numbers)
  as-derived is =
      derivation-ends press book sheet entries numbers Says
      (record {
        refused = λ a r. out r;
        short_work = λ f short. says (room-second press book sheet entries f.sheet_fine short);
        short_tree = λ f enough short. absurd (omega arith);
        declined = λ f r none. says (other-asked press book sheet entries f r.work_long none);
        derived = λ f r x nodes given. says (derived-asked press book sheet entries f r.work_long x);
      })
    where
      out : {a : Answer} → Refusal press book sheet a → Says (leaving a entries numbers)
      out (no_press none) = absurd (none is)
      out (in_book _ n) = absurd (n fine)
      out (in_sheet _ _ n) = says (sheet-first press book sheet entries n)

-- ── Two outcomes that a contract allows are equal ──

pub split_book-settled : (book masks : List ℕ) → SettlesBoth (λ (r : Split) (left : List ℕ). kept_with r left ≡ split_book book masks)
split_book-settled book masks r q x y e f = let same = settled e f in (ap (λ (s : SplitBook). s.split) same, ap (λ (s : SplitBook). s.masks) same)

-- and what the code gives is told with nothing left out
pub split-one : (q r : Result CodeSplit CodeFault) → told_split q ≡ told_split r → q ≡ r
split-one (Ok s) (Ok t) e = ap (λ (x : Split). Ok (record { colours = x.colours; start = x.start; joins = x.joins })) e
split-one (Err f) (Err g) e = ap again (book-one (Err f) (Err g) (ap (λ (x : Split). refused_book x.fault) e))
  where
    again : Result Family CodeFault → Result CodeSplit CodeFault
    again (Ok x) = Ok (record { colours = x.colours; start = x.start; joins = no_joins })
    again (Err f) = Err f
split-one (Ok s) (Err g) e = absurd (told-some g (sym (ap (λ (x : Split). x.fault.number) e)))
split-one (Err f) (Ok t) e = absurd (told-some f (ap (λ (x : Split). x.fault.number) e))

pub ask_sheet-settled : (press : ℕ) (book : List ℕ) (split : Split) (masks sheet before entries : List ℕ) (r q : Asked) (cells numbers left after : List ℕ)
    → asked_with r cells left ≡ ask_sheet press book split masks sheet before entries → asked_with q numbers after ≡ ask_sheet press book split masks sheet before entries
    → (r ≡ q) × (cells ≡ numbers) × (left ≡ after)
ask_sheet-settled press book split masks sheet before entries r q cells numbers left after e f =
    let same = settled e f in (ap (λ (s : AskedSheet). s.asked) same, ap (λ (s : AskedSheet). s.cells) same, ap (λ (s : AskedSheet). s.entries) same)

pub fire-settled : (masks : List ℕ) (j : Joins) (d : Dir) (l r : ℕ) → Settles (fire_of masks j d l r)
fire-settled masks j d l r = settles (fire_of masks j d l r)

pub painted-settled : (masks : List ℕ) → Settles (painted_of masks)
painted-settled masks = settles (painted_of masks)
