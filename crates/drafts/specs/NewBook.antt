-- What a call that answers 0 has written: a new book at the front of the output slice, and nothing beyond it.
use Rattle.std.specs.Prelude.{ℕ, ◌≤◌, ◌≡◌, List, ◌↔◌, length, take, drop}
use Rattle.books.specs.Book.{IsBook}
use Rattle.books.specs.Derives.{Member}
use Rattle.books.specs.Keeps.{Keeps}
use Rattle.books.specs.Lent.{contents_of}
use Rattle.books.specs.Picture.{Picture}

-- the pictures that the book holds
abbrev pub Held : List ℕ → Picture → Type 0
Held s = Member (contents_of s)

-- the first count bytes of left are a book that keeps the rules and holds exactly the pictures of X; beyond them left is as out was
pub record NewBook (out left : List ℕ) (count : ℕ) (X : Picture → Type 0) : Type 0 where
  pub accepted : IsBook (take count left)
  pub keeps : Keeps (contents_of (take count left))
  pub holds : (p : Picture) → Held (take count left) p ↔ X p
  pub room : count ≤ length out
  pub beyond : drop count left ≡ drop count out
  pub as_long : length left ≡ length out
