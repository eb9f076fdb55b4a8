-- A colour's name, by its number in a colour list that was read: what it is, and where it stands in the lent input.
use Rattle.std.specs.Prelude.{ℕ, ◌+◌, ◌*◌, ◌^◌, List, [], ltb, length, get_or}
use Rattle.names.specs.Pick.{pick}
use Rattle.names.specs.Name.{Name}
use Rattle.names.specs.Colours.{names_in}
use Rattle.names.specs.declared.colours.Colours.{Colours}
use Rattle.books.specs.Book.{book_of}
use Rattle.books.specs.Contents.{name}
use Rattle.books.specs.Lent.{contents_of}

-- the name, and nothing where there is no such colour
abbrev pub name_with : List ℕ → Colours → ℕ → Name
name_with s c k = get_or (names_in s c) k []

-- where that name starts in the input, 0 where there is none
abbrev pub start_with : Colours → ℕ → ℕ
start_with c k = pick (ltb k c.count) (get_or c.starts k 0) 0

-- where it starts, and how long it is above 2 ^ 32
abbrev pub place_with : List ℕ → Colours → ℕ → ℕ
place_with s c k = start_with c k + 2 ^ 32 * length (name_with s c k)

-- the same of a book: a refused one has no colours
abbrev pub shown : List ℕ → ℕ → Name
shown s k = name (contents_of s) k

abbrev pub shown_start : List ℕ → ℕ → ℕ
shown_start s k = start_with (book_of s).family.colours k

abbrev pub shown_place : List ℕ → ℕ → ℕ
shown_place s k = place_with s (book_of s).family.colours k
