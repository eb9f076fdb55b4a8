-- The trials of a sheet: one piece, one cut and one rule of that direction. Their number is the work that the table takes.
use Rattle.std.specs.Prelude.{ℕ, suc, ◌+◌, ◌-◌, ◌*◌, ◌/◌, ◌≤◌, ◌<◌, ◌≡◌, length, get_or}
use mathlib.Core.List.{List, [], ◌∷◌, Memᴰ, flat_map}
use Rattle.names.specs.Counted.{each}
use Rattle.books.specs.Keeps.{most_rules}
use Rattle.books.specs.Picture.{joins}
use Rattle.books.specs.Rules.{no_rule}
use Rattle.books.specs.declared.rule.Dir.{Dir}
use Rattle.books.specs.declared.rule.Dir.TheVariants.{Across as across, Down as down}
use Rattle.books.specs.declared.rule.Rule.{Rule}
use Rattle.books.specs.declared.rule.Body.{Body}
use Rattle.books.specs.declared.rule.Body.TheVariants.{Colour, Across, Down}
use Rattle.pieces.specs.Parts.{reach}
use Rattle.pieces.specs.Pieces.{Inside, pieces}
use Rattle.pieces.specs.declared.piece.Piece.{Piece}

-- ── The list ──

-- the rule by its number in the book
pub record Trial : Type 0 where
  pub piece : Piece
  pub cut : ℕ
  pub rule : ℕ

abbrev pub trial : Piece → ℕ → ℕ → Trial
trial p k i = record { piece = p; cut = k; rule = i }

-- how many cuts a piece has in the direction of a rule; a colour rule has none
abbrev pub cuts_for : Body → Piece → ℕ
cuts_for (Colour c) p = 0
cuts_for (Across l r) p = p.width - 1
cuts_for (Down u v) p = p.height - 1

-- at one piece: each rule at each cut of its direction, from 1 on
unfoldable pub trials_at : List Rule → Piece → List Trial
trials_at rules p = each (length rules) (λ i. each (cuts_for (get_or rules i no_rule).body p) (λ k. trial p (suc k) i ∷ []))

-- at all pieces of a sheet of m rows and n columns
unfoldable pub trials : List Rule → ℕ → ℕ → List Trial
trials rules m n = flat_map (trials_at rules) (pieces m n)

-- ── What is in it ──

-- a piece of the sheet, a rule that joins in a direction, and a cut of the piece in that direction
pub record Tries (rules : List Rule) (m n : ℕ) (t : Trial) : Type 0 where
  pub on : Inside m n t.piece
  pub numbered : t.rule < length rules
  pub direction : Dir
  pub first : ℕ
  pub second : ℕ
  pub joining : (get_or rules t.rule no_rule).body ≡ joins direction first second
  pub some : 1 ≤ t.cut
  pub within : t.cut < reach direction t.piece

-- nothing stands twice
abbrev pub Once : {A : Type 0} → List A → Type 0
Once [] = Unit {0}
Once (x ∷ xs) = (Memᴰ x xs → ⊥) × Once xs

-- ── How many there are ──

-- 1 for a rule that joins in a direction, and else 0
abbrev pub goes : Dir → Body → ℕ
goes d (Colour c) = 0
goes across (Across l r) = 1
goes across (Down u v) = 0
goes down (Across l r) = 0
goes down (Down u v) = 1

-- the rules of a direction
unfoldable pub rules_of : Dir → List Rule → ℕ
rules_of d [] = 0
rules_of d (r ∷ rs) = goes d r.body + rules_of d rs

-- with a across and d down rules
abbrev pub trials_for : ℕ → ℕ → ℕ → ℕ → ℕ
trials_for a d m n = a * (m * (m + 1) / 2) * ((n - 1) * n * (n + 1) / 6) + d * (n * (n + 1) / 2) * ((m - 1) * m * (m + 1) / 6)

-- the most that a sheet takes where no sheet has more rows, and none more columns, than so many: the largest, with as many rules as a book has, all of one
-- direction
abbrev pub most_trials : ℕ → ℕ
most_trials top = trials_for most_rules 0 top top
