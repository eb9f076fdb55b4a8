-- Which sheets are looked up in a slice: those that the code's numbers have room for, where the slice has room for their table. Of any other there is no largest
-- piece, and 11 is told of the whole.
use Prim.Native.Nat.{ℕ, ◌≤◌, ◌<◌}
use mathlib.Core.Path.{◌≡◌, sym, ◌∙◌}
use mathlib.Core.Bool.{true, false, true≢false}
use mathlib.Core.List.{List}
use mathlib.Core.Logic.{⊎_elim}
use borrow.Author.Tests.{leb-true, le-leb}
use lib.Dec.{leb}
use lib.ListN.{length}
use Rattle.names.proofs.Settled.{Settles, settles}
use Rattle.names.proofs.Tests.{lt-or-le, and_both, and-make}
use Rattle.books.specs.Reply.{number_of}
use Rattle.books.specs.Size.{Within, within?}
use Rattle.books.specs.declared.reply.Reply.{Reply}
use Rattle.books.proofs.Settled.{reply-one}
use Rattle.books.proofs.SizesWithin.{within-exactly}
use Rattle.pieces.specs.Pieces.{total}
use Rattle.pieces.specs.Most.{most}
use Rattle.pieces.specs.Asking.{start_answer, whole_answer}
use Rattle.pieces.specs.Largest.{no_piece, largest_of, marked, fits_table, largest_in}

pub fits-room : (m n entries : ℕ) → fits_table m n entries ≡ true → Within most m n × (total m n ≤ entries)
unfolding fits_table
fits-room m n entries e =
    let (sizes, long) = and_both (within? most m n) (λ _. leb (total m n) entries) e in
    ((within-exactly most m n).0 sizes, leb-true (total m n) entries long)

pub room_fits : (m n entries : ℕ) → Within most m n → total m n ≤ entries → fits_table m n entries ≡ true
unfolding fits_table
room_fits m n entries sizes long = and-make (within? most m n) _ ((within-exactly most m n).1 sizes) (le-leb (total m n) entries long)

pub too_short : (m n entries : ℕ) → Within most m n → fits_table m n entries ≡ false → entries < total m n
too_short m n entries sizes e =
    ⊎_elim (λ (h : entries < total m n). h) (λ h. absurd (true≢false (sym (room_fits m n entries sizes h) ∙ e))) (lt-or-le entries (total m n))

module _ (work : List ℕ) (a m n : ℕ) where
  pub in_table : fits_table m n (length work) ≡ true → largest_in work a m n ≡ largest_of (marked m n work a) m n
  unfolding largest_in
  in_table e = simp e

  pub no_table : fits_table m n (length work) ≡ false → largest_in work a m n ≡ no_piece
  unfolding largest_in
  no_table e = simp e

  pub whole_in : fits_table m n (length work) ≡ true → whole_answer m n work a ≡ start_answer m n work a
  unfolding whole_answer
  whole_in e = simp e

  pub whole_out : fits_table m n (length work) ≡ false → whole_answer m n work a ≡ 11
  unfolding whole_answer
  whole_out e = simp e

-- ── Two outcomes are equal ──

pub fits_table-settled : (m n entries : ℕ) → Settles (fits_table m n entries)
fits_table-settled m n entries = settles (fits_table m n entries)

pub whole_sheet-settled : (m n : ℕ) (work : List ℕ) (a : ℕ) → Settles (whole_answer m n work a)
whole_sheet-settled m n work a = settles (whole_answer m n work a)

-- the number that is answered settles the reply
pub whole_sheet-one : (m n : ℕ) (work : List ℕ) (a : ℕ) (q r : Reply) → number_of q ≡ whole_answer m n work a → number_of r ≡ whole_answer m n work a → q ≡ r
whole_sheet-one m n work a q r e f = reply-one q r (e ∙ sym f)

pub largest-settled : (work : List ℕ) (a m n : ℕ) → Settles (largest_in work a m n)
largest-settled work a m n = settles (largest_in work a m n)
