-- The first number that passes is the least, and the first rule that gives something is the lowest that is taken.
use Prim.Native.Nat.{ℕ, ◌+◌, ◌-◌, ◌≤◌, ◌<◌}
use mathlib.Core.Path.{◌≡◌, ap, ◌∙◌}
use mathlib.Core.Bool.{Bool, true, false}
use mathlib.Core.List.{List}
use native.Mathlib.Omega.{arith}
use borrow.Author.Tests.{lt-ltb, le-ltb}
use lib.ListN.{length, get_or}
use Rattle.std.specs.declared.option.Option.{Option}
use Rattle.std.specs.declared.option.Option.TheVariants.{Some, None}
use Rattle.names.specs.Counted.{least}
use Rattle.names.proofs.Least.{least-is}
use Rattle.books.specs.declared.rule.Dir.{Dir}
use Rattle.books.specs.declared.rule.Rule.{Rule}
use Rattle.pieces.specs.declared.piece.Piece.{Piece}
use Rattle.pieces.specs.Parts.{reach}
use Rattle.books.specs.Rules.{no_rule}
use Rattle.pieces.specs.declared.choice.Choice.{Choice}
use Rattle.pieces.specs.View.{View}
use Rattle.pieces.specs.Suiting.{SomeFits}
use Rattle.pieces.specs.Choice.{works, cut_of, taken, lowest, choose}
use Rattle.pieces.specs.Pieces.{Inside}
use Rattle.pieces.proofs.Choosing.{lowest-below}
use Rattle.pieces.proofs.Fitting.{tried-tells}
use Rattle.books.specs.declared.rule.Dir.TheVariants.{Across as across, Down as down}
use Rattle.pieces.specs.inner.Tried.{smallest, FirstCut, FirstRule, tried}

-- true is not false
apart : {t : Bool} → t ≡ true → t ≡ false → ⊥
apart e f = cc

module _ (t : ℕ → Bool) (a n : ℕ) where
  pub least-first : (i : ℕ) → a ≤ i → i < a + n → t i ≡ true → ((j : ℕ) → a ≤ j → j < i → t j ≡ false) → least t a n ≡ i
  least-first i from inside e below = let w = least-is t a n in grind (arith, w.from, w.upto, w.accepted, w.lower, e, below, apart)

  pub least-nowhere : ((j : ℕ) → a ≤ j → j < a + n → t j ≡ false) → least t a n ≡ a + n
  least-nowhere none = let w = least-is t a n in grind (arith, w.from, w.upto, w.accepted, none, apart)

pub reach-some : (m n : ℕ) (d : Dir) (q : Piece) → Inside m n q → 1 ≤ reach d q
reach-some m n across q i = i.wide
reach-some m n down q i = i.tall

pub cut_found : (has : ℕ → Piece → Bool) (d : Dir) (l r : ℕ) (q : Piece) (o : Option ℕ) → 1 ≤ reach d q → FirstCut (works has d l r q) (reach d q) o → o ≡ smallest has d l r q
unfolding smallest cut_of
cut_found has d l r q None some none =
    let e : least (works has d l r q) 1 (reach d q - 1) ≡ reach d q = least-nowhere _ 1 _ (λ j h g. none j h (omega arith)) ∙ omega arith in
    rw (e, le-ltb (reach d q) (reach d q) (omega arith))
cut_found has d l r q (Some i) some (from, inside, e, below) =
    let f : least (works has d l r q) 1 (reach d q - 1) ≡ i = least-first _ 1 _ i from (omega arith) e below in
    rw (f, lt-ltb i (reach d q) inside)

module _ (v : View) (rules : List Rule) (a : ℕ) (q : Piece) where
  -- what a rule that gives nothing, or something, says of the search for the lowest
  passed : (j : ℕ) → tried v a q j (get_or rules j no_rule) ≡ None → taken v rules a q j ≡ false
  unfolding taken
  passed j e = tried-tells v a q j (get_or rules j no_rule) None e

  pub choice_is : SomeFits v rules a q → (o : Option Choice) → FirstRule (tried v a q) rules o → o ≡ Some (choose v rules a q)
  unfolding choose lowest taken
  choice_is f None none =
      let low = lowest-below v rules a q f in
      absurd (apart ((least-is (taken v rules a q) 0 (length rules)).accepted (omega (arith, low))) (passed _ (none _ low)))
  choice_is f (Some y) (i, inside, e, below) =
      let (t, is) = tried-tells v a q i (get_or rules i no_rule) (Some y) e in
      let low : lowest v rules a q ≡ i = least-first (taken v rules a q) 0 (length rules) i (omega arith) (omega (arith, inside)) t (λ j h g. passed j (below j g)) in
      ap Some (rw (low, is))
