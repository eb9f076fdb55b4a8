-- When a number is right for a thing that is cut: its bits are the motifs that the rules give. And when masks serve rules: their joins are what fires
-- at a cut, and their colour rules the painters.
use Rattle.std.specs.Prelude.{ℕ, ◌+◌, ◌<◌, ◌≡◌, true, List, ◌↔◌, length, get_or}
use Rattle.names.specs.Bits.{bit}
use Rattle.books.specs.Picture.{joins}
use Rattle.books.specs.Search.{Cutting, Ruled, Gives}
use Rattle.books.specs.declared.rule.Dir.{Dir}
use Rattle.books.specs.declared.rule.Rule.{Rule}
use Rattle.books.specs.declared.rule.Body.TheVariants.{Colour}
use Rattle.pieces.specs.Masks.{painters_from, colour_masks}
use Rattle.pieces.specs.Firing.{joins_fired, fitting}
use Rattle.pieces.specs.declared.masks.Joins.{Joins}

-- the number whose bits are the motifs that the rules give a thing
abbrev pub Right : {X : Type 0} → Cutting X → List Rule → ℕ → X → Type 0
Right c rules e x = (a : ℕ) → (bit e a ≡ 1) ↔ Gives c rules a x

-- what fires at a cut whose parts have the motifs of l and of r: the head of each join of a motif of l with one of r, and nothing else
pub record Fires (rules : List Rule) (fire : Dir → ℕ → ℕ → ℕ) : Type 0 where
  pub only : (d : Dir) (l r a : ℕ) → bit (fire d l r) a ≡ 1
      → (x : ℕ) × (y : ℕ) × Ruled rules a (joins d x y) × (bit l x ≡ 1) × (bit r y ≡ 1)
  pub each : (d : Dir) (l r a x y : ℕ) → Ruled rules a (joins d x y) → bit l x ≡ 1 → bit r y ≡ 1 → bit (fire d l r) a ≡ 1

-- the heads of the colour rules of a colour that a thing shows
abbrev pub Painted : {X : Type 0} → Cutting X → List Rule → ℕ → X → Type 0
Painted c rules e x = (a : ℕ) → (bit e a ≡ 1) ↔ ((k : ℕ) × Ruled rules a (Colour k) × c.Shows k x)

-- masks with a place for each join, whose joins and painters are those of some rules
pub record Serves (rules : List Rule) (masks : List ℕ) (j : Joins) : Type 0 where
  pub fits : fitting (length masks) j ≡ true
  pub fires : Fires rules (joins_fired masks j)
  pub paints : (c : ℕ) → c < colour_masks → (a : ℕ) → (bit (get_or masks (painters_from + c) 0) a ≡ 1) ↔ Ruled rules a (Colour c)
