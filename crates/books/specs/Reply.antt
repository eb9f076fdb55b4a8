-- What a call answers of itself, where it blames no input.
use Rattle.std.specs.Prelude.{ℕ}
use Rattle.books.specs.declared.reply.Reply.{Reply}
use Rattle.books.specs.declared.reply.Reply.TheVariants.{Accepted, WorkShort, TreeShort, NotDerived, TooMany, OutShort, InFamily, WrongTree, StartLost, NoSuchCell, TooManyCells, NoPress}

-- the number that an answer has for it
abbrev pub number_of : Reply → ℕ
number_of Accepted = 0
number_of WorkShort = 9
number_of TreeShort = 10
number_of NotDerived = 11
number_of TooMany = 12
number_of OutShort = 13
number_of InFamily = 15
number_of WrongTree = 16
number_of StartLost = 17
number_of NoSuchCell = 19
number_of TooManyCells = 20
number_of NoPress = 21
