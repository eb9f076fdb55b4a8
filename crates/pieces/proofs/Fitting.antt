-- What fits a piece and what is taken there, one case at a time.
use Prim.Native.Nat.{ℕ}
use mathlib.Core.Path.{◌≡◌, refl, ap, ◌∙◌}
use mathlib.Core.Bool.{Bool, true, false}
use lib.Dec.{ltb}
use borrow.Author.Tests.{eq-eqb, ne_eqb}
use Rattle.books.specs.declared.rule.Rule.{Rule}
use Rattle.books.specs.declared.rule.Body.TheVariants.{Colour}
use Rattle.pieces.specs.declared.piece.Piece.{Piece}
use Rattle.books.specs.declared.rule.Dir.{Dir}
use Rattle.books.specs.declared.rule.Dir.TheVariants.{Across as across, Down as down}
use Rattle.pieces.specs.declared.choice.Choice.{Choice}
use Rattle.pieces.specs.declared.choice.Choice.TheVariants.{Leaf, Join}
use Rattle.std.specs.declared.option.Option.{Option}
use Rattle.std.specs.declared.option.Option.TheVariants.{Some, None}
use Rattle.pieces.specs.Parts.{reach}
use Rattle.pieces.specs.View.{View}
use Rattle.books.specs.Picture.{joins}
use Rattle.pieces.specs.Choice.{cut_of, covers, fits, takes, chosen}
use Rattle.pieces.specs.inner.Tried.{tried}
use Rattle.names.proofs.Picking.{pick_ind}
use Rattle.names.proofs.Tests.{and-on, and-off}

-- A piece is one cell of a colour where it has one row and one column and the cell has the colour.
module _ (paints : ℕ → Piece → Bool) (q : Piece) (c : ℕ) where
  pub covers-cell : q.height ≡ 1 → q.width ≡ 1 → covers paints q c ≡ paints c q
  unfolding covers
  covers-cell h w = and-on _ _ (eq-eqb _ _ h) ∙ and-on _ _ (eq-eqb _ _ w)

  pub covers_high : (q.height ≡ 1 → ⊥) → covers paints q c ≡ false
  unfolding covers
  covers_high h = and-off _ _ (ne_eqb _ _ h)

  pub covers-wide : q.height ≡ 1 → (q.width ≡ 1 → ⊥) → covers paints q c ≡ false
  unfolding covers
  covers-wide h w = and-on _ _ (eq-eqb _ _ h) ∙ and-off _ _ (ne_eqb _ _ w)

-- A join fits exactly where its smallest cut lies in the piece, and is taken with that cut, whichever its direction.
pub joins-fit : (v : View) (q : Piece) (d : Dir) (l r : ℕ) → fits v q (joins d l r) ≡ ltb (cut_of v.has d l r q) (reach d q)
unfolding fits
joins-fit v q across l r = refl
joins-fit v q down l r = refl

pub joins-chosen : (has : ℕ → Piece → Bool) (q : Piece) (i : ℕ) (d : Dir) (l r : ℕ) → chosen has q i (joins d l r) ≡ Join i d (cut_of has d l r q) l r
unfolding chosen
joins-chosen has q i across l r = refl
joins-chosen has q i down l r = refl

-- What a rule gives tells whether it is taken.
module _ (v : View) (a : ℕ) (q : Piece) (i : ℕ) (r : Rule) where
  abbrev pub Tells : Option Choice → Type 0
  Tells (Some o) = (takes v a q r ≡ true) × (o ≡ chosen v.has q i r.body)
  Tells None = takes v a q r ≡ false

  pub tried-tells : (o : Option Choice) → tried v a q i r ≡ o → Tells o
  unfolding tried
  tried-tells o e = rw (← e) (pick_ind Tells (takes v a q r) _ _ (λ f. (f, refl)) (λ f. f))

  -- a colour rule with the motif for its head is taken where the piece is one cell of the colour
  pub colour-taken : {c : ℕ} → r.head ≡ a → r.body ≡ Colour c → covers v.paints q c ≡ true → tried v a q i r ≡ Some (Leaf i)
  unfolding tried takes fits chosen
  colour-taken own body e =
      let fit : takes v a q r ≡ true = and-on _ _ (eq-eqb _ _ own) ∙ ap (fits v q) body ∙ e in
      rw (fit, body)
