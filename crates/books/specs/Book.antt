-- What reading a book finds: a colour list; the motif count, the start motif and the rule count; the rules; and nothing after them.
use Rattle.std.specs.Prelude.{ℕ, ◌≡◌, Bool, true, false, List}
use Rattle.names.specs.Pick.{fault}
use Rattle.names.specs.Onward.{onward, ending}
use Rattle.names.specs.Number.{number_in, number_below}
use Rattle.names.specs.Colours.{no_colours, colours_of, after_colours}
use Rattle.names.specs.Fault.{Fault}
use Rattle.names.specs.declared.colours.Colours.{Colours}
use Rattle.books.specs.Rules.{no_rules, rules_at, after_rules}
use Rattle.books.specs.Keeps.{most_motifs, most_rules}
use Rattle.books.specs.declared.rule.Rule.{Rule}
use Rattle.books.specs.declared.family.Family.{Family}
use Rattle.books.specs.RuleRead.{RulesRead}
use Rattle.books.specs.BookRead.{Figures, FiguresRead, Whole, Refused, BookRead}

-- a refused book has no colours, no motifs and no rules
abbrev pub no_family : Family
no_family = record { colours = no_colours; motifs = 0; start = 0; count = 0; rules = no_rules }

abbrev pub refused_book : Fault → BookRead
refused_book f = record { fault = f; family = no_family }

-- the motif count, the start motif, the rule count: each count from 1 to its greatest
unfoldable pub figures_at : List ℕ → ℕ → FiguresRead
figures_at s at =
    onward Refused (number_in s at 1 most_motifs) (λ motifs next.
    onward Refused (number_below s next motifs 6) (λ start then.
    onward Refused (number_in s then 1 most_rules) (λ count end.
    Whole (record { motifs = motifs; start = start; count = count }) end)))

abbrev pub after_figures {ℓ} : {A : Type ℓ} → (Fault → A) → FiguresRead → (Figures → ℕ → A) → A
after_figures refuse (Whole figures next) go = go figures next
after_figures refuse (Refused f) go = refuse f

-- the family of colours, figures and rules
abbrev pub family_of : Colours → Figures → List Rule → Family
family_of c g rules = record { colours = c; motifs = g.motifs; start = g.start; count = g.count; rules = rules }

-- the book ends with its rules
unfoldable pub ruled_at : List ℕ → Colours → Figures → RulesRead → BookRead
ruled_at s c g r =
    after_rules refused_book r (λ rules next.
    ending refused_book s next (record { fault = fault 0 0; family = family_of c g rules }))

-- figures, then rules
unfoldable pub figured_at : Bool → List ℕ → Colours → ℕ → BookRead
figured_at strict s c at =
    after_figures refused_book (figures_at s at) (λ g next.
    ruled_at s c g (rules_at strict s next g.motifs c.count g.count))

-- colours, then what stands after them
unfoldable pub book_by : Bool → List ℕ → BookRead
book_by strict s = after_colours refused_book (colours_of s) (λ c next. figured_at strict s c next)

-- no rule of a book repeats an earlier one; only tidying reads books that have such rules
abbrev pub book_of : List ℕ → BookRead
book_of = book_by true

abbrev pub untidy_of : List ℕ → BookRead
untidy_of = book_by false

-- these bytes are a book, ...
abbrev pub IsBookBy : Bool → List ℕ → Type 0
IsBookBy strict s = (book_by strict s).fault ≡ fault 0 0

abbrev pub IsBook : List ℕ → Type 0
IsBook = IsBookBy true

-- ... and these are one but that equal rules may stand in it
abbrev pub IsUntidy : List ℕ → Type 0
IsUntidy = IsBookBy false
