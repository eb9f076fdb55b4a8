-- How many rules a combination has: those of its books and the new ones.
use Prim.Native.Nat.{◌+◌}
use mathlib.Core.Path.{◌≡◌}
use mathlib.Core.List.{List}
use native.Mathlib.Omega.{arith}
use lib.ListN.{length, length-append, length-map}
use Rattle.books.specs.Contents.{Contents}
use Rattle.books.specs.declared.rule.Dir.{Dir}
use Rattle.books.specs.declared.rule.Rule.{Rule}
use Rattle.books.specs.declared.rule.Body.{Body}
use Rattle.families.specs.Combine.{copies, both_books, repeated, rebodied}

pub both-length : (f g : Contents) (new : List Rule) → length (both_books f g new).rules ≡ length f.rules + length g.rules + length new
both-length f g new = simp (length-append, length-map) (omega arith)

-- A run or a stack has the book's rules, the copies of its start's, and the rule that joins.
pub repeated-length : (d : Dir) (f : Contents) → length (repeated d f).rules ≡ length f.rules + length (copies f.motifs f.start f.rules) + 1
unfolding repeated
repeated-length d f = simp length-append (omega arith)

-- A change of bodies leaves the count as it is.
pub rebodied-length : (t : Body → Body) (f : Contents) → length (rebodied t f).rules ≡ length f.rules
rebodied-length t f = simp length-map
