-- The smallest cut, what a rule gives at a motif and a piece, and what the first rule that gives something gives: each where there is one.
use Rattle.std.specs.Prelude.{ℕ, ◌≤◌, ◌<◌, ◌≡◌, Bool, true, false, List, ltb, length, MatchOption, get_or}
use Rattle.std.specs.declared.option.Option.{Option}
use Rattle.std.specs.declared.option.Option.TheVariants.{Some, None}
use Rattle.names.specs.Pick.{pick}
use Rattle.books.specs.declared.rule.Dir.{Dir}
use Rattle.books.specs.declared.rule.Rule.{Rule}
use Rattle.pieces.specs.declared.piece.Piece.{Piece}
use Rattle.pieces.specs.declared.choice.Choice.{Choice}
use Rattle.pieces.specs.Parts.{reach}
use Rattle.books.specs.Rules.{no_rule}
use Rattle.pieces.specs.View.{View}
use Rattle.pieces.specs.Choice.{cut_of, takes, chosen}

abbrev pub where_true : {A : Type 0} → Bool → A → Option A
where_true t x = pick t (Some x) None

unfoldable pub smallest : (ℕ → Piece → Bool) → Dir → ℕ → ℕ → Piece → Option ℕ
smallest has d l r q = where_true (ltb (cut_of has d l r q) (reach d q)) (cut_of has d l r q)

-- by the rule's number
unfoldable pub tried : View → ℕ → Piece → ℕ → Rule → Option Choice
tried v a q i r = where_true (takes v a q r) (chosen v.has q i r.body)

abbrev pub NoneBelow : (ℕ → Bool) → ℕ → Type 0
NoneBelow test n = (j : ℕ) → 1 ≤ j → j < n → test j ≡ false

-- the first number from 1 on and below n that passes, where there is one
abbrev pub FirstCut : (ℕ → Bool) → ℕ → Option ℕ → Type 0
FirstCut test n o = MatchOption o (NoneBelow test n) (λ k. (1 ≤ k) × (k < n) × (test k ≡ true) × NoneBelow test k)

abbrev pub NothingBelow : (ℕ → Rule → Option Choice) → List Rule → ℕ → Type 0
NothingBelow give rules n = (j : ℕ) → j < n → give j (get_or rules j no_rule) ≡ None

abbrev pub FirstRule : (ℕ → Rule → Option Choice) → List Rule → Option Choice → Type 0
FirstRule give rules o = MatchOption o (NothingBelow give rules (length rules)) (λ y. (i : ℕ) × (i < length rules) × (give i (get_or rules i no_rule) ≡ Some y) × NothingBelow give rules i)
