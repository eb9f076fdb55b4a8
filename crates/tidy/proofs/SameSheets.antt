-- A tidied book derives what the book does: of a derivation from the start every motif is kept, since what derives can be rewritten, and so is every
-- rule; and the rules of the tidied book are rules of the book under numbers that tell the kept motifs apart.
use Prim.Native.Nat.{ℕ}
use mathlib.Core.Path.{◌≡◌, refl, sym, ◌∙◌, ap, subst}
use mathlib.Core.Bool.{true}
use mathlib.Core.Logic.{◌↔◌}
use Rattle.names.specs.Name.{Name}
use Rattle.books.specs.Contents.{Contents, Has, Called}
use Rattle.books.specs.Derives.{Derives, paint, join, Member}
use Rattle.books.specs.Keeps.{Sound}
use Rattle.books.specs.Moved.{moved}
use Rattle.books.proofs.Moving.{moved-joins, colour-back, joins-back, has-cast}
use Rattle.books.specs.Picture.{Picture, joins}
use Rattle.books.specs.declared.rule.Dir.{Dir}
use Rattle.books.specs.declared.rule.Body.{Body}
use Rattle.books.specs.declared.rule.Body.TheVariants.{Colour}
use Rattle.tidy.specs.Kept.{Rewrites, coloured, joined, Reached, starting, as_first, as_second}
use Rattle.names.specs.Bits.{is_set}
use Rattle.tidy.specs.Marks.{rank}
use Rattle.tidy.specs.Marking.{all_marked, reached}
use Rattle.tidy.specs.Tidied.{leaving, tidied}
use Rattle.tidy.proofs.Leaving.{leaving-forth, leaving-back}
use Rattle.tidy.proofs.Ranks.{rank-inj}
use Rattle.tidy.proofs.Reaching.{reached-all}
use Rattle.tidy.proofs.Rewriting.{joins-marked}

-- What derives a picture can be rewritten.
pub derives-rewrites : {b : Contents} {a : ℕ} {p : Picture} → Derives b a p → Rewrites b a
derives-rewrites (paint c h hr hc e) = coloured c h
derives-rewrites (join d l r k h hk hs x y) = joined d l r h (derives-rewrites x) (derives-rewrites y)

-- So a book whose start cannot be rewritten derives nothing.
pub nothing-derived : (b : Contents) → (Rewrites b b.start → ⊥) → (p : Picture) → Member b p → ⊥
nothing-derived b none p x = none (derives-rewrites x)

module _ (b : Contents) (sound : Sound b) where
  -- rules of reached motifs go over
  pub colour-over : (a c : ℕ) → Has b a (Colour c) → Reached b a → Has (tidied b) (rank (reached b) a) (Colour c)
  unfolding tidied all_marked
  colour-over a c h z = leaving-forth (reached b) b a (Colour c) h (reached-all b sound z) refl

  pub joins-over : (a : ℕ) (d : Dir) (l r : ℕ) → Has b a (joins d l r) → Reached b a → Reached b l → Reached b r
      → Has (tidied b) (rank (reached b) a) (joins d (rank (reached b) l) (rank (reached b) r))
  unfolding tidied
  joins-over a d l r h z x y =
      has-cast (leaving (reached b) b) refl (moved-joins (rank (reached b)) (λ c. c) d l r)
      (leaving-forth (reached b) b a (joins d l r) h (reached-all b sound z)
      ((joins-marked (reached b) d l r).1 (reached-all b sound x, reached-all b sound y)))

  -- and so do the colours' names
  called-over : (c : ℕ) (n : Name) → Called b c n ↔ Called (tidied b) c n
  unfolding tidied leaving
  called-over c n = (λ e. e, λ e. e)

  forth : {a : ℕ} {p : Picture} → Derives b a p → Reached b a → Derives (tidied b) (rank (reached b) a) p
  forth {a} (paint c h hr hc e) z = paint c (colour-over a c h z) hr hc ((called-over c _).0 e)
  forth {a} (join d l r k h hk hs x y) z =
      let u = derives-rewrites x in
      let v = derives-rewrites y in
      let zl = as_first d l r h u v z in
      let zr = as_second d l r h u v z in
      join d _ _ k (joins-over a d l r h z zl zr) hk hs (forth x zl) (forth y zr)

  -- a rule of the tidied book under the number of a kept motif is one of that motif
  from : (z a : ℕ) (y : Body) → Has (tidied b) z y → is_set (reached b) a ≡ true → z ≡ rank (reached b) a
      → (x : Body) × Has b a x × (all_marked (reached b) x ≡ true) × (y ≡ moved (rank (reached b)) (λ c. c) x)
  unfolding tidied
  from z a y h i e =
      let s = leaving-back (reached b) b z y h in
      let q : a ≡ s.head = rank-inj (reached b) a s.head i s.head_has (sym e ∙ sym s.head_is) in
      (s.body, has-cast b q refl s.rule, s.body_has, sym s.body_is)

  back : {z : ℕ} {p : Picture} → Derives (tidied b) z p → (a : ℕ) → is_set (reached b) a ≡ true → z ≡ rank (reached b) a → Derives b a p
  back (paint c h hr hc e) a i q =
      let (x, hx, _, is) = from _ a (Colour c) h i q in
      let (j, ej, ek) = colour-back (rank (reached b)) (λ k. k) c x is in
      paint c (has-cast b refl (ap Colour ek ∙ sym ej) hx) hr hc ((called-over c _).1 e)
  back (join d l r k h hk hs u v) a i q =
      let (x, hx, mx, is) = from _ a (joins d l r) h i q in
      let (f, g, ej, el, er) = joins-back (rank (reached b)) (λ k. k) d l r x is in
      let (mf, mg) = (joins-marked (reached b) d f g).0 (subst (λ (y : Body). all_marked (reached b) y ≡ true) ej mx) in
      join d f g k (has-cast b refl (sym ej) hx) hk hs (back u f mf el) (back v g mg er)

  -- The same pictures, of every size.
  pub same-sheets : (p : Picture) → Member (tidied b) p ↔ Member b p
  unfolding tidied leaving
  same-sheets p = (
    λ x. back x b.start (reached-all b sound (starting refl)) refl,
    λ x. forth x (starting refl),
  )
