-- What the code gives, as the definitions tell it.
use Rattle.std.specs.Prelude.{ℕ, Option, Some, None, Result, Ok, Err}
use Rattle.names.specs.Pick.{fault}
use Rattle.names.specs.Fault.{Fault, told_fault, told_numbered}
use Rattle.names.specs.Read.{Read, Value, Refused}
use Rattle.names.specs.ColourRead.{ColourRead, At, Refused as RefusedColour}
use Rattle.names.specs.ColoursRead.{ColoursRead, ListFigures}
use Rattle.names.specs.Colours.{refused_colours}
use Rattle.names.specs.declared.fault.Fault.{Fault as CodeFault}
use Rattle.names.specs.declared.numbered.Numbered.{Numbered}
use Rattle.names.specs.declared.reader.Span.{Span}
use Rattle.names.specs.declared.colours.ColourList.{ColourList}
use Rattle.names.specs.declared.colours.Listed.{Listed}

-- a number, with the place where the reader stands after it
abbrev pub told : Result ℕ CodeFault → ℕ → Read
told (Ok v) next = Value v next
told (Err f) next = Refused (told_fault f)

-- the same, refused by any number
abbrev pub told_by_number : Result ℕ Numbered → ℕ → Read
told_by_number (Ok v) next = Value v next
told_by_number (Err f) next = Refused (told_numbered f)

-- the same, where the place is given beside the number
abbrev pub told_with_place : Result (ℕ × ℕ) CodeFault → Read
told_with_place (Ok n) = Value n.0 n.1
told_with_place (Err f) = Refused (told_fault f)

-- a name
abbrev pub told_name : Result Span CodeFault → ColourRead
told_name (Ok name) = At name.start name.len
told_name (Err f) = RefusedColour (told_fault f)

-- a colour list
abbrev pub told_colours : Result ColourList CodeFault → ColoursRead
told_colours (Ok list) = record { fault = fault 0 0; colours = list.colours; next = list.next }
told_colours (Err f) = refused_colours (told_fault f)

-- a colour list whose places went into lent arrays
abbrev pub told_list : Result Listed CodeFault → ListFigures
told_list (Ok list) = record { fault = fault 0 0; count = list.count; next = list.next }
told_list (Err f) = record { fault = told_fault f; count = 0; next = 0 }

-- the number of a colour that was looked for among so many, or their count where none has the name
abbrev pub told_found : ℕ → Option ℕ → ℕ
told_found count (Some j) = j
told_found count None = count

-- whether anything follows: the fault, or none
abbrev pub told_end : Result (Unit {0}) CodeFault → Fault
told_end (Ok _) = fault 0 0
told_end (Err f) = told_fault f
