-- What a host looks up in a book, and the one number that it gets: the counts, and a rule. And the version, which it asks of no book.
use Rattle.std.specs.Prelude.{ℕ, ◌+◌, ◌*◌, ◌^◌, List, eqb, ltb, length, get_or, Option, Some, None}
use Rattle.names.specs.Pick.{pick}
use Rattle.books.specs.Book.{book_of}
use Rattle.books.specs.Contents.{Contents}
use Rattle.books.specs.Lent.{contents_of}
use Rattle.books.specs.RuleNumbers.{packed_rule}
use Rattle.books.specs.Rules.{no_rule}
use Rattle.books.specs.declared.rule.Rule.{Rule}

-- ── What is found ──

-- a rule of a book, or that there is none with the number asked for
pub data RuleFound : Type 0 where
  There : Rule → RuleFound
  Missing : RuleFound

-- the rule with a number
unfoldable pub rule_with : Contents → ℕ → RuleFound
rule_with b k = pick (ltb k (length b.rules)) (There (get_or b.rules k no_rule)) Missing

-- a rule that the code found or not, told so
abbrev pub told_rule : Option Rule → RuleFound
told_rule (Some r) = There r
told_rule None = Missing

-- that of a lent book; a refused one has no rules
abbrev pub rule_of : List ℕ → ℕ → RuleFound
rule_of s k = rule_with (contents_of s) k

-- ── The one number that a C host gets ──

abbrev pub packed_found : RuleFound → ℕ
packed_found (There r) = packed_rule r
packed_found Missing = 0

-- the counts of colours, motifs and rules with the start, a byte each, and 1 above them, so that no book is 0
abbrev pub packed_counts : Contents → ℕ
packed_counts b = length b.colours + 2 ^ 8 * b.motifs + 2 ^ 16 * b.start + 2 ^ 24 * length b.rules + 2 ^ 32

abbrev pub rule_shown : List ℕ → ℕ → ℕ
rule_shown s k = packed_found (rule_of s k)

abbrev pub counts_shown : List ℕ → ℕ
counts_shown s = pick (eqb (book_of s).fault.number 0) (packed_counts (contents_of s)) 0

-- one for each of the customer's requests, and one for the look-ups that came after them
abbrev pub version : ℕ
version = 15
