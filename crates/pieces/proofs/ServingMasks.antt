-- The masks of rules serve them, whatever stood there before: they fire for exactly the joins of the rules, and paint by exactly their colour rules, since each rule
-- gives its own and none gave anything at the start.
use mathlib.Core.Path.{◌≡◌, refl, sym, ap, ◌∙◌, subst}
use mathlib.Core.Bool.{Bool, true, false, false≢true}
use mathlib.Core.Logic.{◌↔◌}
use mathlib.Core.List.{List, Memᴰ}
use Prim.Native.Nat.{ℕ, ◌+◌, ◌≤◌, ◌<◌}
use native.Mathlib.Omega.{arith}
use native.Mathlib.Decide.{ℕ_discrete}
use borrow.Author.Tests.{eqb-true, leb-true, eq-eqb, ne_eqb, le-leb}
use lib.Dec.{eqb, leb}
use lib.ListN.{length, get_or, take, replicate, length-append, get_or-replicate}
use lib.Seq.{get_or-append-add, length-take-le}
use Rattle.names.specs.Bits.{bit}
use Rattle.names.specs.Pick.{pick}
use Rattle.names.proofs.Bits.{none-set, bit-pow, pow-has}
use Rattle.names.proofs.Picking.{pick_ind}
use Rattle.books.specs.Picture.{joins}
use Rattle.books.specs.Search.{Ruled}
use Rattle.books.specs.declared.rule.Dir.{Dir}
use Rattle.books.specs.declared.rule.Dir.TheVariants.{Across as across, Down as down}
use Rattle.books.specs.declared.rule.Rule.{Rule}
use Rattle.books.specs.declared.rule.Body.{Body}
use Rattle.books.specs.declared.rule.Body.TheVariants.{Colour, Across, Down}
use Rattle.books.specs.Keeps.{most_rules}
use Rattle.pieces.specs.Masks.{painters_from, colour_masks, all_masks, Masked, masked, no_joins, split_from, cleared, split_of}
use Rattle.pieces.specs.Firing.{gathered, joins_fired, fitting, fire_of, painted_of}
use Rattle.pieces.specs.Rights.{Fires, Serves}
use Rattle.pieces.specs.inner.ForTable.{MasksFit}
use Rattle.pieces.specs.declared.masks.Joins.{Joins}
use Rattle.pieces.proofs.Gathered.{gathered-has, has-gathered, firing-has, has-firing}
use Rattle.pieces.proofs.Splitting.{fired, painter, PlacesFor, more-fires, more-paints, split_places, split-gives}

-- ── Masks that fit ──

pub fitting-fit : (masks : ℕ) (j : Joins) → fitting masks j ≡ true → MasksFit masks j
unfolding fitting
fitting-fit masks j =
    let across_fits = leb j.across most_rules in
    let down_fits = leb j.down most_rules in
    pick_ind (λ (t : Bool). t ≡ true → MasksFit masks j) (eqb masks all_masks) (pick across_fits down_fits false) false
    (λ e. pick_ind (λ (t : Bool). t ≡ true → MasksFit masks j) across_fits down_fits false
    (λ f g. record { all = eqb-true masks all_masks e; across_few = leb-true j.across most_rules f; down_few = leb-true j.down most_rules g })
    (λ _ z. absurd (false≢true z)))
    (λ _ z. absurd (false≢true z))

pub fitting-all : (masks : ℕ) (j : Joins) → fitting masks j ≡ true → masks ≡ all_masks
fitting-all masks j e = (fitting-fit masks j e).all

fit-fitting : (masks : ℕ) (j : Joins) → MasksFit masks j → fitting masks j ≡ true
unfolding fitting
fit-fitting masks j h = rw (eq-eqb masks all_masks h.all, le-leb j.across most_rules h.across_few, le-leb j.down most_rules h.down_few)

-- ── One rule ──

abbrev rule : ℕ → Body → Rule
rule a x = record { head = a; body = x }

module _ (l r : ℕ) where
  fired-has : (d : Dir) (h : ℕ) (x : Body) (a : ℕ) → bit (fired d l r h x) a ≡ 1
      → (u : ℕ) × (v : ℕ) × (rule h x ≡ rule a (joins d u v)) × (bit l u ≡ 1) × (bit r v ≡ 1)
  fired-has d h (Colour c) a o = absurd (none-set a o)
  fired-has across h (Across x y) a o = let (e, p, q) = firing-has l r x y h a o in (x, y, ap (λ (k : ℕ). rule k (Across x y)) (sym e), p, q)
  fired-has across h (Down x y) a o = absurd (none-set a o)
  fired-has down h (Across x y) a o = absurd (none-set a o)
  fired-has down h (Down x y) a o = let (e, p, q) = firing-has l r x y h a o in (x, y, ap (λ (k : ℕ). rule k (Down x y)) (sym e), p, q)

  has-fired : (d : Dir) (a x y : ℕ) → bit l x ≡ 1 → bit r y ≡ 1 → bit (fired d l r a (joins d x y)) a ≡ 1
  has-fired across a x y p q = has-firing l r x y a p q
  has-fired down a x y p q = has-firing l r x y a p q

painter-has : (c h : ℕ) (x : Body) (a : ℕ) → bit (painter c h x) a ≡ 1 → rule h x ≡ rule a (Colour c)
painter-has c h (Colour k) a o = go (ℕ_discrete k c)
  where
    go : Dec (k ≡ c) → rule h (Colour k) ≡ rule a (Colour c)
    go (yes e) = rw (e, pow-has h a (rw (eq-eqb k c e) at o))
    go (no n) = absurd (none-set a (rw (ne_eqb k c n) at o))
painter-has c h (Across x y) a o = absurd (none-set a o)
painter-has c h (Down x y) a o = absurd (none-set a o)

has-painter : (c a : ℕ) → bit (painter c a (Colour c)) a ≡ 1
has-painter c a = rw (eq-eqb c c refl) (bit-pow a)

-- ── All rules ──

module _ (rules : List Rule) (masks : List ℕ) (few : length rules ≤ most_rules) (long : length masks ≡ all_masks) where
  abbrev start : Masked
  start = masked (cleared masks) no_joins

  abbrev end : Masked
  end = split_from rules start

  size : length (take painters_from masks) ≡ painters_from
  size = length-take-le painters_from masks (omega arith)

  places : PlacesFor (length rules) start
  places = record { long = simp length-append (omega (arith, size)); free = omega arith }

  none-paint : (c : ℕ) → c < colour_masks → get_or (cleared masks) (painters_from + c) 0 ≡ 0
  none-paint c h =
      ap (λ (n : ℕ). get_or (cleared masks) (n + c) 0) (sym size) ∙ get_or-append-add (take painters_from masks) (replicate colour_masks 0) c 0
      ∙ get_or-replicate colour_masks c 0 0 h

  none-fire : (d : Dir) (l r : ℕ) → joins_fired (cleared masks) no_joins d l r ≡ 0
  unfolding joins_fired gathered
  none-fire across l r = refl
  none-fire down l r = refl

  -- what fires at a cut, and the painters of a colour, are what the rules give
  fires-given : (d : Dir) (l r a : ℕ) → (bit (joins_fired end.masks end.joins d l r) a ≡ 1) ↔ ((q : Rule) × Memᴰ q rules × (bit (fired d l r q.head q.body) a ≡ 1))
  fires-given d l r a =
      split-gives (λ s. joins_fired s.masks s.joins d l r) (λ q. fired d l r q.head q.body)
      (λ n s w q. more-fires n s w q.head q.body d l r) a rules start places (none-fire d l r)

  paints-given : (c : ℕ) → c < colour_masks → (a : ℕ)
      → (bit (get_or end.masks (painters_from + c) 0) a ≡ 1) ↔ ((q : Rule) × Memᴰ q rules × (bit (painter c q.head q.body) a ≡ 1))
  paints-given c h a =
      split-gives (λ s. get_or s.masks (painters_from + c) 0) (λ q. painter c q.head q.body)
      (λ n s w q. more-paints n s w q.head q.body c h) a rules start places (none-paint c h)

  split-fires : Fires rules (joins_fired end.masks end.joins)
  split-fires =
      record {
        only = λ d l r a o.
            let (q, m, u) = (fires-given d l r a).0 o in
            let (x, y, e, p, v) = fired-has l r d q.head q.body a u in
            (x, y, subst (λ (z : Rule). Memᴰ z rules) e m, p, v);
        each = λ d l r a x y m p q. (fires-given d l r a).1 (rule a (joins d x y), m, has-fired l r d a x y p q);
      }

  split-paints : (c : ℕ) → c < colour_masks → (a : ℕ) → (bit (get_or end.masks (painters_from + c) 0) a ≡ 1) ↔ Ruled rules a (Colour c)
  split-paints c h a = (
    λ o. let (q, m, u) = (paints-given c h a).0 o in subst (λ (z : Rule). Memᴰ z rules) (painter-has c q.head q.body a u) m,
    λ m. (paints-given c h a).1 (rule a (Colour c), m, has-painter c a),
  )

  pub split-fit : MasksFit (length (split_of rules masks).masks) (split_of rules masks).joins
  unfolding split_of
  split-fit = let w = split_places rules start places in record { all = w.long; across_few = omega (arith, w.free); down_few = omega (arith, w.free) }

  pub split-serves : Serves rules (split_of rules masks).masks (split_of rules masks).joins
  unfolding split_of
  split-serves = record { fits = fit-fitting _ _ split-fit; fires = split-fires; paints = split-paints }

-- ── What the public functions give by such masks ──

-- whatever gives the same fires the same
pub fires-by : {rules : List Rule} {f g : Dir → ℕ → ℕ → ℕ} → Fires rules f → ((d : Dir) (l r : ℕ) → g d l r ≡ f d l r) → Fires rules g
fires-by w e =
    record {
      only = λ d l r a o. w.only d l r a (ap (λ (z : ℕ). bit z a) (sym (e d l r)) ∙ o);
      each = λ d l r a x y m p q. ap (λ (z : ℕ). bit z a) (e d l r) ∙ w.each d l r a x y m p q;
    }

module _ {rules : List Rule} {masks : List ℕ} {j : Joins} (serves : Serves rules masks j) where
  pub fire-serves : Fires rules (fire_of masks j)
  unfolding fire_of
  fire-serves = fires-by serves.fires (λ d l r. rw serves.fits)

  -- the heads of the colour rules, of at most so many colours
  pub painted-serves : ((a c : ℕ) → Ruled rules a (Colour c) → c < colour_masks) → (a : ℕ) → (bit (painted_of masks) a ≡ 1) ↔ ((c : ℕ) × Ruled rules a (Colour c))
  unfolding painted_of
  painted-serves low a =
      rw (eq-eqb (length masks) all_masks (fitting-fit (length masks) j serves.fits).all) (
        λ o. let (c, h, u) = gathered-has colour_masks _ a o in (c, (serves.paints c h a).0 u),
        λ (c, m). has-gathered colour_masks _ a c (low a c m) ((serves.paints c (low a c m) a).1 m),
      )
