-- When a rule fits a piece: a colour rule by the colour of its cell, and a join by the bits of the two parts of a cut.
use Rattle.std.specs.Prelude.{ℕ, ◌≤◌, ◌<◌, ◌≡◌, Bool, true, List, length, get_or}
use Rattle.books.specs.Rules.{no_rule}
use Rattle.books.specs.declared.rule.Rule.{Rule}
use Rattle.books.specs.declared.rule.Body.{Body}
use Rattle.books.specs.declared.rule.Body.TheVariants.{Colour, Across, Down}
use Rattle.books.specs.declared.rule.Dir.{Dir}
use Rattle.books.specs.declared.rule.Dir.TheVariants.{Across as across, Down as down}
use Rattle.pieces.specs.declared.piece.Piece.{Piece}
use Rattle.pieces.specs.Parts.{reach, first_part, rest_part}
use Rattle.pieces.specs.View.{View}

-- a cut of a piece whose two parts have their bits set
pub record BothSet (has : ℕ → Piece → Bool) (d : Dir) (l r : ℕ) (q : Piece) (k : ℕ) : Type 0 where
  pub from_one : 1 ≤ k
  pub inside : k < reach d q
  pub first_set : has l (first_part d k q) ≡ true
  pub rest_set : has r (rest_part d k q) ≡ true

-- a colour for the cell, or a join with such a cut
abbrev pub Suits : View → Piece → Body → Type 0
Suits v q (Colour c) = (q.height ≡ 1) × (q.width ≡ 1) × (v.paints c q ≡ true)
Suits v q (Across l r) = (k : ℕ) × BothSet v.has across l r q k
Suits v q (Down u w) = (k : ℕ) × BothSet v.has down u w q k

-- a rule with head a fits
pub record SomeFits (v : View) (rules : List Rule) (a : ℕ) (q : Piece) : Type 0 where
  pub number : ℕ
  pub body : Body
  pub below : number < length rules
  pub rule_is : get_or rules number no_rule ≡ record { head = a; body = body }
  pub suits : Suits v q body
