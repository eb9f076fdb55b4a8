-- What the call answers and leaves, from the bytes of the lent book and of the output slice.
use Rattle.std.specs.Prelude.{ℕ, false, List}
use Rattle.names.specs.Pick.{pick}
use Rattle.books.specs.Answer.{plain}
use Rattle.books.specs.Contents.{Contents}
use Rattle.drafts.specs.Outcome.{Outcome, refused, written, lent_by}
use Rattle.tidy.specs.Marking.{rewrites?}
use Rattle.tidy.specs.Tidied.{tidied}

-- 17 where the start cannot be rewritten to colours, and else the tidied book, or 13
unfoldable pub tidied_out : Contents → List ℕ → Outcome
tidied_out b out = pick (rewrites? b b.start) (written (tidied b) out) (refused (plain 17) out)

-- the book's fault comes first; equal rules in it are none
unfoldable pub tidying : List ℕ → List ℕ → Outcome
tidying book out = lent_by false 1 book out (λ b. tidied_out b out)
