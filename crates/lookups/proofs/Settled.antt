-- Two outcomes that a contract allows are equal. Each line has the name of a public function and cites the very definition that the function's contract does.
use Prim.Native.Nat.{ℕ}
use mathlib.Core.Path.{◌≡◌, refl}
use mathlib.Core.List.{List}
use denote.Ref.{Bor}
use Rattle.std.specs.Prelude.{Option, Some, None}
use Rattle.names.specs.Part.{Part}
use Rattle.names.proofs.Settled.{Settles, settles, SettlesPart, part-settles}
use Rattle.books.specs.RuleNumbers.{packed_rule}
use Rattle.books.specs.declared.rule.Rule.{Rule}
use Rattle.lookups.specs.Book.{told_rule, counts_shown, rule_of, rule_shown, version}
use Rattle.lookups.specs.Colour.{shown, shown_start, shown_place}
use Rattle.lookups.specs.Sheet.{size_shown, cell_shown, sheet_colour_shown}

-- ── Of a book ──

pub colour-settled : (book : Bor (List ℕ)) (k : ℕ) → SettlesPart (Part book (shown_start book.now k) (shown book.now k))
colour-settled book k = part-settles book _ _

pub dv_colour-settled : (s : List ℕ) (k : ℕ) → Settles (shown_place s k)
dv_colour-settled s k = settles _

pub dv_counts-settled : (s : List ℕ) → Settles (counts_shown s)
dv_counts-settled s = settles _

pub rule-settled : (s : List ℕ) (k : ℕ) → Settles (rule_of s k)
rule-settled s k = settles _

-- two rules that are told alike are equal, so that what is settled of the one told is settled of the result
pub told_rule-once : (r q : Option Rule) → told_rule r ≡ told_rule q → r ≡ q
told_rule-once (Some r) (Some q) e = cc
told_rule-once (Some r) None e = cc
told_rule-once None (Some q) e = cc
told_rule-once None None e = refl

pub pack_rule-settled : (rule : Rule) → Settles (packed_rule rule)
pack_rule-settled rule = settles _

pub dv_rule-settled : (s : List ℕ) (k : ℕ) → Settles (rule_shown s k)
dv_rule-settled s k = settles _

pub dv_version-settled : Settles version
dv_version-settled = settles _

-- ── Of a sheet ──

pub dv_sheet_size-settled : (press : ℕ) (s : List ℕ) → Settles (size_shown press s)
dv_sheet_size-settled press s = settles _

pub dv_cell-settled : (press : ℕ) (s : List ℕ) (row column : ℕ) → Settles (cell_shown press s row column)
dv_cell-settled press s row column = settles _

pub dv_sheet_colour-settled : (press : ℕ) (s : List ℕ) (k : ℕ) → Settles (sheet_colour_shown press s k)
dv_sheet_colour-settled press s k = settles _
