-- Where a view is exact, a rule fits at every node of the tree of a piece whose motif has its bit there. The motif derives the piece, by some rule; a body fits
-- exactly where it can derive the piece; and the parts of the join that is taken have their bits in turn.
use Prim.Native.Nat.{ℕ, ◌+◌, ◌<◌}
use mathlib.Core.Path.{◌≡◌, sym, ◌∙◌, ap₂, subst}
use mathlib.Core.Bool.{true}
use mathlib.Core.Logic.{◌↔◌}
use native.Mathlib.Nat.{add-zero, le_of_lt}
use Rattle.books.specs.Contents.{Contents, Called}
use Rattle.books.specs.Picture.{Picture}
use Rattle.books.specs.Derives.{Derives}
use Rattle.books.specs.declared.rule.Body.{Body}
use Rattle.books.specs.declared.rule.Body.TheVariants.{Colour, Across, Down}
use Rattle.pieces.specs.declared.piece.Piece.{Piece}
use Rattle.books.specs.declared.rule.Dir.{Dir}
use Rattle.books.specs.declared.rule.Dir.TheVariants.{Across as across, Down as down}
use Rattle.pieces.specs.declared.choice.Choice.TheVariants.{Join}
use Rattle.pieces.specs.Pieces.{Inside}
use Rattle.pieces.specs.Parts.{reach, first_part, rest_part}
use Rattle.pieces.specs.Table.{cut}
use Rattle.pieces.specs.View.{View}
use Rattle.pieces.specs.Given.{At, Works, Able}
use Rattle.pieces.specs.Choice.{choose}
use Rattle.pieces.specs.Suiting.{BothSet, Suits, SomeFits}
use Rattle.pieces.specs.inner.Fitted.{NodeOf, own, in_first, in_rest, Fitted}
use Rattle.pieces.proofs.Cutting.{cut-reach, cut-first, cut-rest}
use Rattle.pieces.proofs.PartsOfPieces.{first-inside, rest-inside}
use Rattle.pieces.proofs.Choosing.{Right, cut-set, choose-right}
use Rattle.pieces.proofs.ExactViews.{Exact}
use Rattle.pieces.proofs.Giving.{at_has, derives-able}

module _ (b : Contents) (p : Picture) (v : View) (exact : Exact b p v) (q : Piece) (inq : Inside p.rows p.cols q) where
  -- The two parts of a cut have their bits exactly where the cut works.
  pub set-exactly : (d : Dir) (l r k : ℕ) → BothSet v.has d l r q k ↔ Works b d l r (cut p q) k
  set-exactly d l r k = (
    λ c. record {
      from_one = c.from_one;
      inside = rw (cut-reach p q d) c.inside;
      first_in = rw (cut-first p q d k) ((exact.has_exact l (first_part d k q) (first-inside d k inq c.from_one (le_of_lt c.inside))).0 c.first_set);
      rest_in = rw (cut-rest p q d k) ((exact.has_exact r (rest_part d k q) (rest-inside d k inq c.inside)).0 c.rest_set);
    },
    λ w. let g : k < reach d q = rw (cut-reach p q d) at w.inside in
        record {
          from_one = w.from_one;
          inside = g;
          first_set = (exact.has_exact l (first_part d k q) (first-inside d k inq w.from_one (le_of_lt g))).1 (rw (cut-first p q d k) at w.first_in);
          rest_set = (exact.has_exact r (rest_part d k q) (rest-inside d k inq g)).1 (rw (cut-rest p q d k) at w.rest_in);
        },
  )

  some-cut : (d : Dir) (l r : ℕ) → ((k : ℕ) × BothSet v.has d l r q k) ↔ ((k : ℕ) × Works b d l r (cut p q) k)
  some-cut d l r = (λ c. (c.0, (set-exactly d l r c.0).0 c.1), λ w. (w.0, (set-exactly d l r w.0).1 w.1))

  -- A body fits exactly where it can derive the piece.
  pub suits-able : (i a : ℕ) (x : Body) → At b i a x → Suits v q x ↔ Able b (cut p q) x
  suits-able i a (Colour c) u =
      let same : (v.paints c q ≡ true) ↔ Called b c (p.cell q.top q.left) =
      exact.paints_exact c q inq (a, at_has b i a (Colour c) u) in
      let here : p.cell (q.top + 0) (q.left + 0) ≡ p.cell q.top q.left = ap₂ p.cell (add-zero q.top) (add-zero q.left) in (
        λ e. (e.0, e.1, ((same.0 e.2).0, here ∙ (same.0 e.2).1)),
        λ z. (z.0, z.1, same.1 (z.2.0, sym here ∙ z.2.1)),
      )
  suits-able i a (Across l r) u = some-cut across l r
  suits-able i a (Down l r) u = some-cut down l r

  -- So at a derived piece a rule fits.
  pub derived-fits : {a : ℕ} → Derives b a (cut p q) → SomeFits v b.rules a q
  derived-fits {a} x =
      let (i, y, u, able) = derives-able x in
      record { number = i; body = y; below = u.below; rule_is = u.rule_is; suits = (suits-able i a y u).1 able }

module _ (b : Contents) (p : Picture) (v : View) (exact : Exact b p v) where
  -- The parts of the join that is taken have their bits.
  taken-set : (a : ℕ) (q : Piece) → SomeFits v b.rules a q → (i : ℕ) (d : Dir) (k l r : ℕ) → choose v b.rules a q ≡ Join i d k l r
      → BothSet v.has d l r q k
  taken-set a q f i d k l r e =
      let (_, c) = subst (Right v b.rules a q) e (choose-right v b.rules a q f) in
      cut-set v.has d l r q k c.from_one c.inside c.working

  node-fits : {a : ℕ} {q : Piece} {x : ℕ} {y : Piece} → Inside p.rows p.cols q → v.has a q ≡ true → NodeOf v b.rules a q x y → SomeFits v b.rules x y
  node-fits {a} {q} inq h own = derived-fits b p v exact q inq ((exact.has_exact a q inq).0 h)
  node-fits {a} {q} inq h (in_first i d k l r e n) =
      let c = taken-set a q (derived-fits b p v exact q inq ((exact.has_exact a q inq).0 h)) i d k l r e in
      node-fits (first-inside d k inq c.from_one (le_of_lt c.inside)) c.first_set n
  node-fits {a} {q} inq h (in_rest i d k l r e n) =
      let c = taken-set a q (derived-fits b p v exact q inq ((exact.has_exact a q inq).0 h)) i d k l r e in
      node-fits (rest-inside d k inq c.inside) c.rest_set n

  pub exact-fitted : (a : ℕ) (q : Piece) → Inside p.rows p.cols q → v.has a q ≡ true → Fitted v b.rules a q
  exact-fitted a q inq h = record { at_each = λ n. node-fits inq h n }
