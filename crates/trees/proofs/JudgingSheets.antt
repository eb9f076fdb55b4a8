-- Judging the pieces of a sheet, one node at a time: each is a law of judging by places, kept to the place; the parts of a join that is right lie on the sheet, and have fewer rows
-- and columns in all than the piece.
use Prim.Native.Nat.{ℕ, ◌+◌, ◌≤◌, ◌<◌}
use mathlib.Core.Path.{◌≡◌, refl, sym, ap, ◌∙◌, subst}
use mathlib.Core.List.{List}
use native.Mathlib.Omega.{arith}
use lib.ListN.{length, get_or}
use Rattle.std.specs.Prelude.{Ok, Err}
use Rattle.books.specs.Search.{Cutting}
use Rattle.books.specs.declared.rule.Dir.{Dir}
use Rattle.books.specs.declared.rule.Rule.{Rule}
use Rattle.books.specs.declared.size.Size.{Size}
use Rattle.pieces.specs.OnSheet.{two, parts_on, on_sheet}
use Rattle.pieces.specs.Parts.{first_part, rest_part}
use Rattle.pieces.specs.Pieces.{Inside}
use Rattle.pieces.specs.declared.part.Part.{Part}
use Rattle.pieces.specs.declared.piece.Piece.{Piece}
use Rattle.pieces.proofs.ComingApart.{bulk, pieces-lessen}
use Rattle.pieces.proofs.PartsOfPieces.{first-inside, rest-inside}
use Rattle.pieces.proofs.PiecesOnSheets.{parts-found}
use Rattle.trees.specs.declared.node.Node.{Node}
use Rattle.trees.specs.Trees.{no_node}
use Rattle.trees.specs.Judge.{Judged, past, failed, followed, Step, Wrong, Cell, Join, step}
use Rattle.trees.specs.inner.OnSheets.{verdict, judged_at, Lying}
use Rattle.trees.specs.inner.Waiting.{after}
use Rattle.trees.proofs.Steps.{PartsAt, Means, step-means}
use Rattle.trees.proofs.Places.{judge_at, at-end, at-wrong, at-cell, at-parts}

-- ── What a verdict says of judging ──

-- what follows is judged where all is right so far
verdict-followed : (j : Judged) (go : ℕ → Judged) → verdict (followed j (λ e _. go e)) ≡ after (verdict j) (λ e. verdict (go e))
verdict-followed (past e left) go = refl
verdict-followed (failed e) go = refl

module _ (s : Size) (cells : List ℕ) (rules : List Rule) (x : Part) (ns : List Node) (at : ℕ) (lying : Lying s x.piece) where
  abbrev c : Cutting Piece
  c = on_sheet s cells

  abbrev q : Piece
  q = x.piece

  abbrev v : Node
  v = get_or ns at no_node

  abbrev k : ℕ
  k = v.cut

  pub none_left : length ns ≤ at → Err at ≡ judged_at s cells rules x ns at
  unfolding judged_at
  none_left h = ap verdict (sym (at-end c rules bulk (pieces-lessen s cells) x.motif q ns at h))

  module _ (below : at < length ns) where
    pub wrong-here : Wrong ≡ step c rules x.motif q v → Err at ≡ judged_at s cells rules x ns at
    unfolding judged_at
    wrong-here e = ap verdict (sym (at-wrong c rules bulk (pieces-lessen s cells) x.motif q ns at below (sym e)))

    pub cell-here : Cell ≡ step c rules x.motif q v → Ok (at + 1) ≡ judged_at s cells rules x ns at
    unfolding judged_at
    cell-here e = ap verdict (sym (at-cell c rules bulk (pieces-lessen s cells) x.motif q ns at below (sym e)))

    module _ (d : Dir) (l r : ℕ) (e : Join d l r ≡ step c rules x.motif q v) where
      abbrev first : Part
      first = record { piece = first_part d k q; motif = l }

      abbrev rest : Part
      rest = record { piece = rest_part d k q; motif = r }

      right : PartsAt c rules x.motif q v d l r
      right = subst (λ (t : Step). Means c rules x.motif q v t) (sym e) (step-means c rules x.motif q v)

      -- the parts lie on the sheet, ...
      pub parts-here : parts_on s d k l r q ≡ two (first_part d k q) l (rest_part d k q) r
      parts-here = parts-found s q lying.rows_few lying.cols_few lying.inside d k l r (omega (arith, right.inside))

      pub both-lie : Inside s.rows s.cols first.piece × Inside s.rows s.cols rest.piece
      both-lie = (first-inside d k lying.inside right.from_one (omega (arith, right.inside)), rest-inside d k lying.inside right.inside)

      -- ... have fewer rows and columns in all, ...
      pub both-less : (bulk first.piece < bulk q) × (bulk rest.piece < bulk q)
      both-less =
          let less = pieces-lessen s cells in
          (less.first_less d k q right.from_one right.inside, less.rest_less d k q right.from_one right.inside)

      -- ... and are judged in turn, the second from the place after the first
      pub parts-in-turn : judged_at s cells rules x ns at ≡ after (judged_at s cells rules first ns (at + 1)) (λ f. judged_at s cells rules rest ns f)
      unfolding judged_at
      parts-in-turn =
          let one : ℕ → Judged = λ f. judge_at c rules bulk (pieces-lessen s cells) r rest.piece ns f in
          ap verdict
          (at-parts c rules bulk (pieces-lessen s cells) x.motif q ns at below d l r (sym e))
          ∙ verdict-followed (judge_at c rules bulk (pieces-lessen s cells) l first.piece ns (at + 1)) one
