-- A refused book has no rules, whose rows are zeros; the start motif of a book that was read fits a byte.
use mathlib.Core.Path.{ap}
use native.Mathlib.Omega.{arith}
use Rattle.std.proofs.lemmas.Result.{err_from_is_err_and}
use Rattle.books.specs.BookRead.{BookRead}
use Rattle.books.specs.RuleBytes.{book_figures, lent_rules}
use Rattle.books.proofs.ReadingBooks.{book-start}
use Rattle.books.proofs.lent.read_rules.Goals as goal

pub returns-in_err-family : goal.returns-in_err-family
unfolding lent_rules
returns-in_err-family c =
    record {
      figures = let e = err_from_is_err_and c.from_residual.result c.from_residual.ensures.1 in
          rw (e.1, e.2) (ap book_figures c.in_err-family.ensures);
      lent = ap (λ (b : BookRead). lent_rules b.family.rules b.family.count) c.in_err-family.ensures;
    }

pub overflow_cast-result : goal.overflow_cast-result
overflow_cast-result c = omega (arith, book-start c.args.book.now, ap (λ (b : BookRead). b.family.start) c.in_ok-family.ensures)
