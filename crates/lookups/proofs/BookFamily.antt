-- A book that is not refused gives its family, and a refused one gives none: its own has no colours and no rules.
use Prim.Native.Nat.{ℕ}
use mathlib.Core.Path.{◌≡◌, ap, ◌∙◌}
use mathlib.Core.List.{List}
use Rattle.std.specs.Prelude.{Some, None, Result, Ok, Err}
use Rattle.std.specs.Result.{result_ok}
use Rattle.names.specs.declared.fault.Fault.{Fault}
use Rattle.books.specs.Book.{book_of, no_family}
use Rattle.books.specs.BookRead.{BookRead}
use Rattle.books.specs.Told.{told_book}
use Rattle.books.specs.declared.family.Family.{Family}

pub family-there : (s : List ℕ) (r : Result Family Fault) (f : Family) → told_book r ≡ book_of s → Some f ≡ result_ok r → f ≡ (book_of s).family
family-there s (Ok g) f read there = let same : f ≡ g = cc in same ∙ ap (λ (b : BookRead). b.family) read
family-there s (Err why) f read there = cc

pub family-none : (s : List ℕ) (r : Result Family Fault) → told_book r ≡ book_of s → None ≡ result_ok r → no_family ≡ (book_of s).family
family-none s (Ok g) read there = cc
family-none s (Err why) read there = ap (λ (b : BookRead). b.family) read
