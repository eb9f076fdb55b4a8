-- What the rules give a piece by the entries of its parts, as a person reads it, is what masks give that serve the rules; and it is the piece's entry where those of
-- its parts are right.
use Prim.Native.Nat.{ℕ, ◌+◌, ◌-◌, ◌<◌}
use mathlib.Core.Path.{◌≡◌, sym, ap, ap₂, ◌∙◌, subst}
use mathlib.Core.Bool.{true}
use mathlib.Core.List.{List}
use mathlib.Core.Logic.{◌↔◌, ⊎_elim}
use native.Mathlib.Nat.{add-zero}
use native.Mathlib.Omega.{arith}
use borrow.Author.Tests.{eqb-true, eq-eqb, ltb-true, lt-ltb}
use lib.ListN.{get_or}
use Rattle.names.specs.Bits.{bit, is_set}
use Rattle.names.proofs.Bits.{or_split, or_left, or_right, same_bit, all-bits}
use Rattle.books.specs.Contents.{Contents, Called, Has}
use Rattle.books.specs.Picture.{Picture, joins}
use Rattle.books.specs.Derives.{Derives, paint}
use Rattle.books.specs.Keeps.{Sound}
use Rattle.books.specs.declared.rule.Dir.{Dir}
use Rattle.books.specs.declared.rule.Dir.TheVariants.{Across as across, Down as down}
use Rattle.books.specs.declared.rule.Body.{Body}
use Rattle.books.specs.declared.rule.Body.TheVariants.{Colour, Across, Down}
use Rattle.books.proofs.Deciding.{called}
use Rattle.pieces.specs.declared.piece.Piece.{Piece}
use Rattle.pieces.specs.Pieces.{Inside, slot_of}
use Rattle.pieces.specs.Parts.{reach, first_part, rest_part}
use Rattle.pieces.specs.Table.{cut, entry}
use Rattle.pieces.specs.View.{View}
use Rattle.pieces.specs.Given.{Able}
use Rattle.pieces.specs.Largest.{marked}
use Rattle.pieces.specs.Filling.{at, cuts_of, piece_cuts, entry_of}
use Rattle.pieces.specs.Rights.{Fires}
use Rattle.pieces.specs.Suiting.{BothSet, Suits, SomeFits}
use Rattle.pieces.proofs.Choosing.{some-found}
use Rattle.pieces.proofs.Entries.{bits-has, has-bits, entry-derives, derives-entry}
use Rattle.pieces.proofs.ExactViews.{motif-below}
use Rattle.pieces.proofs.FilledTable.{right-entry}
use Rattle.pieces.proofs.Gathered.{gathered-has, has-gathered}
use Rattle.pieces.proofs.Giving.{has-at, at_has, derives-able}
use Rattle.pieces.proofs.PartsOfPieces.{first-before, rest-before}
use Rattle.desk.specs.Recolour.{view_of, some_fits?, ruled}

-- ── A join suits a piece where some cut has both bits ──

suits-join : (v : View) (q : Piece) (d : Dir) (l r k : ℕ) → BothSet v.has d l r q k → Suits v q (joins d l r)
suits-join v q across l r k s = (k, s)
suits-join v q down l r k s = (k, s)

marked-bit : (m n : ℕ) (t : List ℕ) (a : ℕ) (q : Piece) → (marked m n t a q ≡ true) ↔ (bit (at m n t q) a ≡ 1)
unfolding marked is_set
marked-bit m n t a q = (λ e. eqb-true _ 1 e, λ e. eq-eqb _ 1 e)

module _ (b : Contents) (sound : Sound b) (p : Picture) (q : Piece) where
  abbrev m : ℕ
  m = p.rows

  abbrev n : ℕ
  n = p.cols

  abbrev Fits : List ℕ → ℕ → Type 0
  Fits t a = SomeFits (view_of b p t) b.rules a q

  fits_by : (t : List ℕ) (a : ℕ) (x : Body) → Has b a x → Suits (view_of b p t) q x → Fits t a
  fits_by t a x h s = let (i, u) = has-at b a x h in record { number = i; body = x; below = u.below; rule_is = u.rule_is; suits = s }

  has-rule : (t : List ℕ) (a : ℕ) (f : Fits t a) → Has b a f.body
  has-rule t a f = at_has b f.number a f.body (record { below = f.below; rule_is = f.rule_is })

  -- bit a is set exactly where some rule with head a fits
  pub ruled-bit : (t : List ℕ) (a : ℕ) → (bit (ruled b p t q) a ≡ 1) ↔ Fits t a
  unfolding ruled some_fits?
  ruled-bit t a = (
    λ o. (some-found _ _ a q).0 (ltb-true _ _ (bits-has b.motifs _ a o).1),
    λ f. has-bits b.motifs _ a (sound.rules_fit _ (has-rule t a f)).head_fits (lt-ltb _ _ ((some-found _ _ a q).1 f)),
  )

  -- a number with these bits is the one
  pub ruled-is : (t : List ℕ) (e : ℕ) → ((a : ℕ) → (bit e a ≡ 1) ↔ Fits t a) → e ≡ ruled b p t q
  ruled-is t e is = all-bits e (ruled b p t q) (λ a. same_bit e (ruled b p t q) a (λ o. (ruled-bit t a).1 ((is a).0 o)) (λ o. (is a).1 ((ruled-bit t a).0 o)))

  -- it goes by smaller slots alone
  pub ruled-local : (s t : List ℕ) → Inside m n q → ((i : ℕ) → i < slot_of m n q → get_or s i 0 ≡ get_or t i 0) → ruled b p s q ≡ ruled b p t q
  unfolding marked
  ruled-local s t i same =
      ruled-is t (ruled b p s q) (λ a. (λ o. over s t same a ((ruled-bit s a).0 o), λ f. (ruled-bit s a).1 (over t s (λ i h. sym (same i h)) a f)))
    where
      both : (s t : List ℕ) → ((i : ℕ) → i < slot_of m n q → get_or s i 0 ≡ get_or t i 0) → (d : Dir) (l r k : ℕ) → BothSet (marked m n s) d l r q k → BothSet (marked m n t) d l r q k
      both s t same d l r k c =
          record {
            from_one = c.from_one;
            inside = c.inside;
            first_set = ap (λ (x : ℕ). is_set x l) (sym (same _ (first-before d k i c.from_one c.inside))) ∙ c.first_set;
            rest_set = ap (λ (x : ℕ). is_set x r) (sym (same _ (rest-before d k i c.from_one c.inside))) ∙ c.rest_set;
          }

      body : (s t : List ℕ) → ((i : ℕ) → i < slot_of m n q → get_or s i 0 ≡ get_or t i 0) → (x : Body) → Suits (view_of b p s) q x → Suits (view_of b p t) q x
      body s t same (Colour c) u = u
      body s t same (Across l r) (k, c) = (k, both s t same across l r k c)
      body s t same (Down l r) (k, c) = (k, both s t same down l r k c)

      over : (s t : List ℕ) → ((i : ℕ) → i < slot_of m n q → get_or s i 0 ≡ get_or t i 0) → (a : ℕ) → Fits s a → Fits t a
      over s t same a f = record { number = f.number; body = f.body; below = f.below; rule_is = f.rule_is; suits = body s t same f.body f.suits }

  -- ── A piece of more than one cell ──

  module _ (fire : Dir → ℕ → ℕ → ℕ) (fires : Fires b.rules fire) (t : List ℕ) (large : 2 < q.height + q.width) where
    by-cut : (d : Dir) (a : ℕ) → bit (piece_cuts fire m n t q d) a ≡ 1 → Fits t a
    unfolding cuts_of
    by-cut d a o =
        let (i, h, u) = gathered-has (reach d q - 1) _ a o in
        let (x, y, ruled, l, r) = fires.only d _ _ a u in
        fits_by t a _ ruled (suits-join (view_of b p t) q d x y (i + 1)
        (record { from_one = omega arith; inside = omega arith; first_set = (marked-bit m n t x _).1 l; rest_set = (marked-bit m n t y _).1 r }))

    cut_by : (d : Dir) (a l r k : ℕ) → Has b a (joins d l r) → BothSet (marked m n t) d l r q k → bit (piece_cuts fire m n t q d) a ≡ 1
    unfolding cuts_of
    cut_by d a l r k h c =
        let e : k - 1 + 1 ≡ k = omega (arith, c.from_one) in
        has-gathered (reach d q - 1) _ a (k - 1) (omega (arith, c.from_one, c.inside))
        (subst (λ (x : ℕ). bit (fire d (at m n t (first_part d x q)) (at m n t (rest_part d x q))) a ≡ 1) (sym e)
        (fires.each d _ _ a l r h ((marked-bit m n t l _).0 c.first_set) ((marked-bit m n t r _).0 c.rest_set)))

    back : (a : ℕ) (x : Body) → Has b a x → Suits (view_of b p t) q x → bit (entry_of fire m n t q) a ≡ 1
    back a (Colour c) h s = absurd (omega (arith, s.0, s.1))
    back a (Across l r) h (k, c) = or_left (piece_cuts fire m n t q across) (piece_cuts fire m n t q down) a (cut_by across a l r k h c)
    back a (Down l r) h (k, c) = or_right (piece_cuts fire m n t q across) (piece_cuts fire m n t q down) a (cut_by down a l r k h c)

    pub joined-ruled : entry_of fire m n t q ≡ ruled b p t q
    joined-ruled =
        ruled-is t (entry_of fire m n t q)
        (λ a. (λ o. ⊎_elim (by-cut across a) (by-cut down a) (or_split (piece_cuts fire m n t q across) (piece_cuts fire m n t q down) a o), λ f. back a f.body (has-rule t a f) f.suits))

    pub large-right : Inside m n q → ((x : Piece) → Inside m n x → slot_of m n x < slot_of m n q → at m n t x ≡ entry b (cut p x)) → ruled b p t q ≡ entry b (cut p q)
    large-right i right = sym joined-ruled ∙ right-entry b sound p fire fires t q i large right

  -- ── A cell ──

  module _ (t : List ℕ) (one_row : q.height ≡ 1) (one_col : q.width ≡ 1) where
    first_cell : (cut p q).cell 0 0 ≡ p.cell q.top q.left
    first_cell = ap₂ p.cell (add-zero q.top) (add-zero q.left)

    able-suits : (x : Body) → Able b (cut p q) x → Suits (view_of b p t) q x
    able-suits (Colour c) (r, l, n) = (one_row, one_col, (called b c (p.cell q.top q.left)).1 (subst (Called b c) first_cell n))
    able-suits (Across l r) (k, w) = absurd (omega (arith, w.from_one, w.inside))
    able-suits (Down l r) (k, w) = absurd (omega (arith, w.from_one, w.inside))

    suits-derives : (a : ℕ) (x : Body) → Has b a x → Suits (view_of b p t) q x → Derives b a (cut p q)
    suits-derives a (Colour c) h s = paint c h one_row one_col (subst (Called b c) (sym first_cell) ((called b c (p.cell q.top q.left)).0 s.2))
    suits-derives a (Across l r) h (k, c) = absurd (omega (arith, c.from_one, c.inside))
    suits-derives a (Down l r) h (k, c) = absurd (omega (arith, c.from_one, c.inside))

    pub cell-ruled : entry b (cut p q) ≡ ruled b p t q
    cell-ruled =
        ruled-is t (entry b (cut p q)) (λ a. (
          λ o. let (i, x, u, able) = derives-able (entry-derives b (cut p q) a o) in
              record { number = i; body = x; below = u.below; rule_is = u.rule_is; suits = able-suits x able },
          λ f. let d = suits-derives a f.body (has-rule t a f) f.suits in derives-entry b (cut p q) a (motif-below b sound d) d,
        ))
