-- What is taken at a piece and its motif: the lowest-numbered rule with that head that fits, and for a join the smallest cut that works.
use Rattle.std.specs.Prelude.{ℕ, ◌-◌, Bool, List, eqb, ltb, length, get_or}
use Rattle.names.specs.Counted.{least}
use Rattle.names.specs.Pick.{and_then}
use Rattle.books.specs.declared.rule.Rule.{Rule}
use Rattle.books.specs.declared.rule.Body.{Body}
use Rattle.books.specs.declared.rule.Body.TheVariants.{Colour, Across, Down}
use Rattle.pieces.specs.declared.piece.Piece.{Piece}
use Rattle.books.specs.declared.rule.Dir.{Dir}
use Rattle.books.specs.declared.rule.Dir.TheVariants.{Across as across, Down as down}
use Rattle.pieces.specs.declared.choice.Choice.{Choice}
use Rattle.pieces.specs.declared.choice.Choice.TheVariants.{Leaf, Join}
use Rattle.pieces.specs.Parts.{reach, first_part, rest_part}
use Rattle.books.specs.Rules.{no_rule}
use Rattle.pieces.specs.View.{View}

-- a cut works where both parts have their bits
unfoldable pub works : (ℕ → Piece → Bool) → Dir → ℕ → ℕ → Piece → ℕ → Bool
works has d l r q k = and_then (has l (first_part d k q)) (λ _. has r (rest_part d k q))

-- the smallest cut that works, or the piece's reach where none does
unfoldable pub cut_of : (ℕ → Piece → Bool) → Dir → ℕ → ℕ → Piece → ℕ
cut_of has d l r q = least (works has d l r q) 1 (reach d q - 1)

-- whether a piece is one cell of a colour
unfoldable pub covers : (ℕ → Piece → Bool) → Piece → ℕ → Bool
covers paints q c = and_then (eqb q.height 1) (λ _. and_then (eqb q.width 1) (λ _. paints c q))

-- whether a body fits a piece
unfoldable pub fits : View → Piece → Body → Bool
fits v q (Colour c) = covers v.paints q c
fits v q (Across l r) = ltb (cut_of v.has across l r q) q.width
fits v q (Down u w) = ltb (cut_of v.has down u w q) q.height

-- whether a rule has head a and fits
unfoldable pub takes : View → ℕ → Piece → Rule → Bool
takes v a q r = and_then (eqb r.head a) (λ _. fits v q r.body)

-- the lowest-numbered rule that is taken, or the rules' count where none is
unfoldable pub taken : View → List Rule → ℕ → Piece → ℕ → Bool
taken v rules a q i = takes v a q (get_or rules i no_rule)

unfoldable pub lowest : View → List Rule → ℕ → Piece → ℕ
lowest v rules a q = least (taken v rules a q) 0 (length rules)

-- rule number i with the cut that its body wants
abbrev pub join_with : (ℕ → Piece → Bool) → Piece → ℕ → Dir → ℕ → ℕ → Choice
join_with has q i d l r = Join i d (cut_of has d l r q) l r

unfoldable pub chosen : (ℕ → Piece → Bool) → Piece → ℕ → Body → Choice
chosen has q i (Colour c) = Leaf i
chosen has q i (Across l r) = join_with has q i across l r
chosen has q i (Down u w) = join_with has q i down u w

-- asked only where some rule is taken
unfoldable pub choose : View → List Rule → ℕ → Piece → Choice
choose v rules a q = chosen v.has q (lowest v rules a q) (get_or rules (lowest v rules a q) no_rule).body
