-- What the code gives, as the definitions tell it.
use Rattle.std.specs.Prelude.{ℕ, Bool, true, false, List, Result, Ok, Err}
use Rattle.names.specs.Pick.{fault}
use Rattle.names.specs.Fault.{told_fault}
use Rattle.names.specs.declared.fault.Fault.{Fault as CodeFault}
use Rattle.books.specs.BodyRead.{BodyRead, Whole as WholeBody, Refused as RefusedBody}
use Rattle.books.specs.RuleRead.{RuleRead, RulesRead, Whole as WholeRule, Refused as RefusedRule}
use Rattle.books.specs.BookRead.{BookRead, BookFigures}
use Rattle.books.specs.SizeRead.{SizeRead, By, Refused as RefusedSize}
use Rattle.books.specs.SheetRead.{SheetRead, SheetFigures}
use Rattle.books.specs.Rules.{refused_rules}
use Rattle.books.specs.Book.{no_family, refused_book}
use Rattle.books.specs.Sheet.{refused_sheet, sheet_figures}
use Rattle.books.specs.declared.family.Family.{Family}
use Rattle.books.specs.declared.lent.BookFigures.{BookFigures as CodeBookFigures}
use Rattle.books.specs.declared.rule.Body.{Body}
use Rattle.books.specs.declared.rule.Rule.{Rule}
use Rattle.books.specs.declared.rules.Copies.{Copies}
use Rattle.books.specs.declared.rules.Copies.TheVariants.{Refused, Taken}
use Rattle.books.specs.declared.sheet.Sheet.{Sheet}
use Rattle.books.specs.declared.sheet.SheetFigures.{SheetFigures as CodeSheetFigures}
use Rattle.books.specs.declared.size.Size.{Size}

-- a body, a rule, rules, and rows and columns, each with the place where the reader stands after it
abbrev pub told_body : Result Body CodeFault → ℕ → BodyRead
told_body (Ok body) next = WholeBody body next
told_body (Err f) next = RefusedBody (told_fault f)

abbrev pub told_rule : Result Rule CodeFault → ℕ → RuleRead
told_rule (Ok rule) next = WholeRule rule next
told_rule (Err f) next = RefusedRule (told_fault f)

abbrev pub told_rules : Result (List Rule) CodeFault → ℕ → RulesRead
told_rules (Ok rules) next = record { fault = fault 0 0; rules = rules; next = next }
told_rules (Err f) next = refused_rules (told_fault f)

abbrev pub told_size : Result Size CodeFault → ℕ → SizeRead
told_size (Ok size) next = By size next
told_size (Err f) next = RefusedSize (told_fault f)

-- whether copies are refused
abbrev pub strict : Copies → Bool
strict Refused = true
strict Taken = false

-- a book
abbrev pub told_book : Result Family CodeFault → BookRead
told_book (Ok family) = record { fault = fault 0 0; family = family }
told_book (Err f) = refused_book (told_fault f)

-- a book whose rules went into lent rows
abbrev pub told_book_figures : Result CodeBookFigures CodeFault → BookFigures
told_book_figures (Ok b) = record { fault = fault 0 0; colours = b.colours; start = b.start; rules = b.rules }
told_book_figures (Err f) = record { fault = told_fault f; colours = no_family.colours; start = 0; rules = 0 }

-- a sheet
abbrev pub told_sheet : Result Sheet CodeFault → SheetRead
told_sheet (Ok sheet) = record { fault = fault 0 0; sheet = sheet }
told_sheet (Err f) = refused_sheet (told_fault f)

-- a sheet whose colours and cells went into lent arrays
abbrev pub told_figures : Result CodeSheetFigures CodeFault → SheetFigures
told_figures (Ok g) = record { fault = fault 0 0; colours = g.colours; ticket = g.ticket; most = g.most; size = g.size }
told_figures (Err f) = sheet_figures (refused_sheet (told_fault f))
