-- Two outcomes that a contract allows are equal. Each line has the name of a public function and cites the very definition that the function's contract does.
use Prim.Native.Nat.{ℕ}
use mathlib.Core.Path.{◌≡◌, refl, sym, ap, ap₂, ◌∙◌}
use mathlib.Core.List.{List}
use Rattle.names.specs.declared.colours.Colours.{Colours}
use lib.Dec.{eqb}
use lib.ListN.{take}
use Rattle.std.specs.Prelude.{Result, Ok, Err}
use Rattle.names.specs.Pick.{pick}
use Rattle.names.specs.Fault.{Fault, number_of, told_fault, told_numbered}
use Rattle.names.specs.declared.fault.Fault.{Fault as CodeFault}
use Rattle.names.specs.declared.fault.Refusal.{Refusal}
use Rattle.names.specs.declared.numbered.Numbered.{Numbered}
use Rattle.names.specs.declared.fault.Refusal.TheVariants.{EndsEarly, Misspelt, OutOfRange, BadByte, TwiceInList, Unlisted, UnknownKind, MoreFollows, RuleAgain}
use Rattle.names.proofs.Settled.{Settles, settles}
pub use Rattle.names.proofs.Settled.{settled}
use Rattle.books.specs.Book.{no_family, book_of}
use Rattle.books.specs.Size.{within?}
use Rattle.books.specs.Sheet.{sheet_of, over, sheet_figures, SheetInto}
use Rattle.books.specs.Numbering.{Numbers}
use Rattle.books.specs.RuleBytes.{lent_rules, BookInto, kind_dir}
use Rattle.books.specs.Answer.{plain, blaming, packed}
use Rattle.books.specs.Calls.{book_answer, sheet_answer, ticket_of, size_of}
use Rattle.books.specs.declared.answer.Answer.{Answer}
use Rattle.books.specs.BookRead.{BookRead, BookFigures}
use Rattle.books.specs.Told.{told_book, told_sheet, told_figures, told_book_figures}
use Rattle.books.specs.declared.family.Family.{Family}
use Rattle.books.specs.declared.lent.BookFigures.{BookFigures as CodeBookFigures}
use Rattle.books.specs.declared.sheet.Sheet.{Sheet}
use Rattle.books.specs.declared.sheet.SheetFigures.{SheetFigures as CodeSheetFigures}
use Rattle.books.specs.declared.reply.Reply.{Reply}
use Rattle.books.specs.declared.reply.Reply.TheVariants.{Accepted, WorkShort, TreeShort, NotDerived, TooMany, OutShort, InFamily, WrongTree, StartLost, NoSuchCell, TooManyCells, NoPress}
use Rattle.books.specs.Reply.{number_of as reply_number}
use Rattle.books.specs.declared.rule.Rule.{Rule}
use Rattle.books.specs.SheetRead.{SheetRead, SheetFigures}
use Rattle.books.specs.declared.size.Size.{Size}
use Rattle.books.proofs.Following.{told-some}

-- ── Answers ──

pub unblamed-settled : (number : ℕ) → Settles (plain number)
unblamed-settled number = settles _

pub blame-settled : (input : ℕ) (f : Fault) → Settles (blaming input f)
blame-settled input f = settles _

pub blame_numbered-settled : (input : ℕ) (f : Numbered) → Settles (blaming input (told_numbered f))
blame_numbered-settled input f = settles _

pub pack-settled : (a : Answer) (count : ℕ) → Settles (packed a count)
pack-settled a count = settles _

pub within-settled : (most : ℕ) (z : Size) → Settles (within? most z.rows z.cols)
within-settled most z = settles _

-- ── Readers ──

pub no_family-settled : Settles no_family
no_family-settled = settles _

pub read_book-settled : (s : List ℕ) → Settles (book_of s)
read_book-settled s = settles _

pub read_sheet-settled : (press : ℕ) (s : List ℕ) → Settles (sheet_of press s)
read_sheet-settled press s = settles _

pub sheet_figures-settled : (press : ℕ) (s : List ℕ) → Settles (sheet_figures (sheet_of press s))
sheet_figures-settled press s = settles _

pub sheet_size-settled : (press : ℕ) (s : List ℕ) → Settles (size_of press s)
sheet_size-settled press s = settles _

pub read_sheet_into-settled : (press : ℕ) (s before : List ℕ) (r q : SheetFigures) (starts lens cells places sizes numbers : List ℕ)
    → SheetInto (over before (sheet_of press s)) r starts lens cells → SheetInto (over before (sheet_of press s)) q places sizes numbers
    → (r ≡ q) × (starts ≡ places) × (lens ≡ sizes) × (cells ≡ numbers)
read_sheet_into-settled press s before r q starts lens cells places sizes numbers x y =
    (settled x.figures y.figures, settled x.starts y.starts, settled x.lens y.lens, settled x.cells y.cells)

pub number_sheet-settled : (press : ℕ) (book : List ℕ) (c : Colours) (sheet before : List ℕ) (r q : SheetFigures) (cells numbers : List ℕ)
    → Numbers press book c sheet before r cells → Numbers press book c sheet before q numbers → (r ≡ q) × (cells ≡ numbers)
number_sheet-settled press book c sheet before r q cells numbers x y = (settled x.figures y.figures, settled x.cells y.cells)

pub lend-settled : (rules : List Rule) (count : ℕ) → Settles (lent_rules rules count)
lend-settled rules count = settles _

pub read_rules-settled : (book : List ℕ) (r q : BookFigures) (rows others : List (List ℕ)) → BookInto book r rows → BookInto book q others → (r ≡ q) × (rows ≡ others)
read_rules-settled book r q rows others x y = (settled x.figures y.figures, settled x.lent y.lent)

pub direction-settled : (kind : ℕ) → Settles (kind_dir kind)
direction-settled kind = settles _

-- ── What the code gives ──

-- A refusal is known by its number, and so what the code gives is known by what is told of it: the contracts settle it too.
refusal_of : ℕ → Refusal
refusal_of n =
    pick (eqb n 1) EndsEarly
    (pick (eqb n 2) Misspelt
    (pick (eqb n 3) OutOfRange
    (pick (eqb n 4) BadByte
    (pick (eqb n 5) TwiceInList (pick (eqb n 6) Unlisted (pick (eqb n 7) UnknownKind (pick (eqb n 8) MoreFollows RuleAgain)))))))

refusal-back : (r : Refusal) → refusal_of (number_of r) ≡ r
unfolding refusal_of
refusal-back EndsEarly = refl
refusal-back Misspelt = refl
refusal-back OutOfRange = refl
refusal-back BadByte = refl
refusal-back TwiceInList = refl
refusal-back Unlisted = refl
refusal-back UnknownKind = refl
refusal-back MoreFollows = refl
refusal-back RuleAgain = refl

fault-one : (f g : CodeFault) → told_fault f ≡ told_fault g → f ≡ g
fault-one f g e =
    let refusals : f.refusal ≡ g.refusal =
    sym (refusal-back f.refusal) ∙ (ap (λ (x : Fault). refusal_of x.number) e ∙ refusal-back g.refusal) in
    let fault_at : Refusal → ℕ → CodeFault = λ r n. record { refusal = r; place = n } in
    ap₂ fault_at refusals (ap (λ (x : Fault). x.place) e)

-- a value is no fault
no-fault : (f : CodeFault) → 0 ≡ (told_fault f).number → ⊥
no-fault f e = told-some f (sym e)

pub book-one : (q r : Result Family CodeFault) → told_book q ≡ told_book r → q ≡ r
book-one (Ok f) (Ok g) e = ap Ok (ap (λ (b : BookRead). b.family) e)
book-one (Err f) (Err g) e = ap Err (fault-one f g (ap (λ (b : BookRead). b.fault) e))
book-one (Ok f) (Err g) e = absurd (no-fault g (ap (λ (b : BookRead). b.fault.number) e))
book-one (Err f) (Ok g) e = absurd (told-some f (ap (λ (b : BookRead). b.fault.number) e))

pub sheet-one : (q r : Result Sheet CodeFault) → told_sheet q ≡ told_sheet r → q ≡ r
sheet-one (Ok f) (Ok g) e = ap Ok (ap (λ (b : SheetRead). b.sheet) e)
sheet-one (Err f) (Err g) e = ap Err (fault-one f g (ap (λ (b : SheetRead). b.fault) e))
sheet-one (Ok f) (Err g) e = absurd (no-fault g (ap (λ (b : SheetRead). b.fault.number) e))
sheet-one (Err f) (Ok g) e = absurd (told-some f (ap (λ (b : SheetRead). b.fault.number) e))

pub figures-one : (q r : Result CodeSheetFigures CodeFault) → told_figures q ≡ told_figures r → q ≡ r
figures-one (Ok f) (Ok g) e =
    ap (λ (b : SheetFigures). Ok (record { colours = b.colours; ticket = b.ticket; most = b.most; size = b.size })) e
figures-one (Err f) (Err g) e = ap Err (fault-one f g (ap (λ (b : SheetFigures). b.fault) e))
figures-one (Ok f) (Err g) e = absurd (no-fault g (ap (λ (b : SheetFigures). b.fault.number) e))
figures-one (Err f) (Ok g) e = absurd (told-some f (ap (λ (b : SheetFigures). b.fault.number) e))

pub rows-one : (q r : Result CodeBookFigures CodeFault) → told_book_figures q ≡ told_book_figures r → q ≡ r
rows-one (Ok f) (Ok g) e = ap (λ (b : BookFigures). Ok (record { colours = b.colours; start = b.start; rules = b.rules })) e
rows-one (Err f) (Err g) e = ap Err (fault-one f g (ap (λ (b : BookFigures). b.fault) e))
rows-one (Ok f) (Err g) e = absurd (no-fault g (ap (λ (b : BookFigures). b.fault.number) e))
rows-one (Err f) (Ok g) e = absurd (told-some f (ap (λ (b : BookFigures). b.fault.number) e))

-- A reply is known by its number too.
reply_of : ℕ → Reply
reply_of n =
    pick (eqb n 0) Accepted
    (pick (eqb n 9) WorkShort
    (pick (eqb n 10) TreeShort
    (pick (eqb n 11) NotDerived
    (pick (eqb n 12) TooMany
    (pick (eqb n 13) OutShort
    (pick (eqb n 15) InFamily
    (pick (eqb n 16) WrongTree
    (pick (eqb n 17) StartLost (pick (eqb n 19) NoSuchCell (pick (eqb n 20) TooManyCells NoPress))))))))))

reply-back : (r : Reply) → reply_of (reply_number r) ≡ r
unfolding reply_of
reply-back Accepted = refl
reply-back WorkShort = refl
reply-back TreeShort = refl
reply-back NotDerived = refl
reply-back TooMany = refl
reply-back OutShort = refl
reply-back InFamily = refl
reply-back WrongTree = refl
reply-back StartLost = refl
reply-back NoSuchCell = refl
reply-back TooManyCells = refl
reply-back NoPress = refl

pub reply-one : (q r : Reply) → reply_number q ≡ reply_number r → q ≡ r
reply-one q r e = sym (reply-back q) ∙ (ap reply_of e ∙ reply-back r)

pub reply_number-settled : (r : Reply) → Settles (reply_number r)
reply_number-settled r = settles _

pub reply_answer-settled : (r : Reply) → Settles (plain (reply_number r))
reply_answer-settled r = settles _

pub rules-settled : (f : Family) → Settles (take f.count f.rules)
rules-settled f = settles _

-- ── Calls ──

pub dv_read_book-settled : (s : List ℕ) → Settles (packed (book_answer s) 0)
dv_read_book-settled s = settles _

pub dv_read_sheet-settled : (press : ℕ) (s : List ℕ) → Settles (packed (sheet_answer press s) (ticket_of press s))
dv_read_sheet-settled press s = settles _
