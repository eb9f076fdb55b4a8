-- A book that stands inside another, its motifs and colours renumbered, derives there what it derives: of its own motifs the other has its rules
-- and no others, so that a derivation goes over rule by rule, forth and back.
use Prim.Native.Nat.{ℕ, ◌<◌}
use mathlib.Core.Path.{◌≡◌, refl, sym, ◌∙◌, ap}
use lib.ListN.{length}
use Rattle.books.specs.Contents.{Contents, Has, Called, name}
use Rattle.books.specs.Picture.{Picture, joins}
use Rattle.books.specs.declared.rule.Dir.TheVariants.{Across as across, Down as down}
use Rattle.books.specs.declared.rule.Dir.{Dir}
use Rattle.books.specs.Derives.{Derives, paint, join}
use Rattle.books.specs.Keeps.{BodyFits, Sound}
use Rattle.books.specs.declared.rule.Body.{Body}
use Rattle.books.specs.declared.rule.Body.TheVariants.{Colour}
use Rattle.books.specs.Moved.{moved}
use Rattle.books.proofs.Moving.{moved-joins, colour-back, joins-back, has-cast}

-- The motifs of f stand in h as m says, and its colours as c says.
pub record Inside (f h : Contents) (m c : ℕ → ℕ) : Type 0 where
  pub forth : (a : ℕ) (x : Body) → Has f a x → Has h (m a) (moved m c x)
  pub back : (a : ℕ) (y : Body) → a < f.motifs → Has h (m a) y → (x : Body) × Has f a x × (y ≡ moved m c x)
  pub named : (k : ℕ) → k < length f.colours → Called h (c k) (name f k)

fits-joins : (m n : ℕ) (d : Dir) (l r : ℕ) → BodyFits m n (joins d l r) → (l < m) × (r < m)
fits-joins m n across l r h = h
fits-joins m n down u v h = h

module _ (f h : Contents) (m c : ℕ → ℕ) (sf : Sound f) (s : Inside f h m c) where
  pub inside-forth : {a : ℕ} {p : Picture} → Derives f a p → Derives h (m a) p
  inside-forth {a} (paint k has hr hc e) =
      paint (c k) (s.forth a (Colour k) has) hr hc ((s.named k e.0).0, e.1 ∙ (s.named k e.0).1)
  inside-forth {a} (join d l r k has hk hs x y) =
      join d (m l) (m r) k (has-cast h refl (moved-joins m c d l r) (s.forth a (joins d l r) has)) hk hs (inside-forth x) (inside-forth y)

  pub inside_back : {z : ℕ} {p : Picture} → Derives h z p → (a : ℕ) → a < f.motifs → z ≡ m a → Derives f a p
  inside_back (paint k has hr hc e) a ha ez =
      let (x, hx, ex) = s.back a (Colour k) ha (has-cast h (sym ez) refl has) in
      let (j, ej, ek) = colour-back m c k x ex in
      let hj : Has f a (Colour j) = has-cast f refl (sym ej) hx in
      let fits = (sf.rules_fit _ hj).body_fits in
      paint j hj hr hc (fits, e.1 ∙ ap (name h) ek ∙ sym (s.named j fits).1)
  inside_back (join d l r k has hk hs u v) a ha ez =
      let (x, hx, ex) = s.back a (joins d l r) ha (has-cast h (sym ez) refl has) in
      let (i, j, ej, el, er) = joins-back m c d l r x ex in
      let has' : Has f a (joins d i j) = has-cast f refl (sym ej) hx in
      let (hi, hj) = fits-joins _ _ d i j (sf.rules_fit _ has').body_fits in
      join d i j k has' hk hs (inside_back u i hi el) (inside_back v j hj er)
