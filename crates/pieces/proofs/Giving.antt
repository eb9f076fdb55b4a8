-- The derivation given is one list of numbers: two lowest rules are one rule, and two smallest cuts one cut.
use Prim.Native.Nat.{ℕ, suc, ◌<◌}
use mathlib.Core.Path.{◌≡◌, refl, sym, ◌∙◌, ap, subst}
use mathlib.Core.List.Memᴰ
use mathlib.Core.List.{List, [], ◌∷◌, ◌++◌, Memᴰ}
use mathlib.Core.Logic.{⊎_elim}
use native.Mathlib.Omega.{arith}
use lib.ListN.{length, get_or}
use Rattle.names.proofs.Listing.{get_or-mem}
use Rattle.books.specs.Contents.{Contents, Has}
use Rattle.books.specs.Picture.{Picture, joins, first, rest}
use Rattle.books.specs.declared.rule.Dir.TheVariants.{Across as across, Down as down}
use Rattle.books.specs.declared.rule.Dir.{Dir}
use Rattle.books.specs.Derives.{Derives, paint, join}
use Rattle.books.specs.declared.rule.Rule.{Rule}
use Rattle.books.specs.declared.rule.Body.{Body}
use Rattle.books.specs.declared.rule.Body.TheVariants.{Colour}
use Rattle.books.specs.Rules.{no_rule}
use Rattle.pieces.specs.Given.{At, Works, Able, Lowest, Given, leaf, node}

-- Bodies tell what they hold.
joins-inj : (d e : Dir) (l r u w : ℕ) → joins d l r ≡ joins e u w → (d ≡ e) × (l ≡ u) × (r ≡ w)
joins-inj across across l r u w e = (refl, cc, cc)
joins-inj across down l r u w e = absurd (let z : ◌≡◌ {A = ℕ} 0 1 = cc in omega arith)
joins-inj down across l r u w e = absurd (let z : ◌≡◌ {A = ℕ} 0 1 = cc in omega arith)
joins-inj down down l r u w e = (refl, cc, cc)

no_colour : (c : ℕ) (d : Dir) (l r : ℕ) → Colour c ≡ joins d l r → ⊥
no_colour c across l r e = let z : ◌≡◌ {A = ℕ} 0 1 = cc in omega arith
no_colour c down l r e = let z : ◌≡◌ {A = ℕ} 0 1 = cc in omega arith

pub able-joins : (b : Contents) (p : Picture) (d : Dir) (l r k : ℕ) → Works b d l r p k → Able b p (joins d l r)
able-joins b p across l r k w = (k, w)
able-joins b p down l r k w = (k, w)

-- A rule of the list has a number, and a number a rule.
mem-at : (l : List Rule) (r d : Rule) → Memᴰ r l → (i : ℕ) × (i < length l) × (get_or l i d ≡ r)
mem-at [] r d m = absurd (Memᴰ.not-nil m)
mem-at (x ∷ xs) r d m =
    ⊎_elim
    (λ (e : r ≡ x). (0, omega arith, sym e))
    (λ u. let (i, h, e) = mem-at xs r d u in (suc i, omega arith, e))
    (Memᴰ.cases_cons m)

pub has-at : (b : Contents) (a : ℕ) (x : Body) → Has b a x → (i : ℕ) × At b i a x
has-at b a x m =
    let (i, h, e) = mem-at b.rules (record { head = a; body = x }) no_rule m in
    (i, record { below = h; rule_is = e })

pub at_has : (b : Contents) (i a : ℕ) (x : Body) → At b i a x → Has b a x
at_has b i a x u = Memᴰ.cast (sym u.rule_is) (get_or-mem b.rules i no_rule u.below)

-- What is derived is derived by some rule that can derive it, and what is given is derived.
pub derives-able : {b : Contents} {a : ℕ} {p : Picture} → Derives b a p → (i : ℕ) × (x : Body) × At b i a x × Able b p x
derives-able {b} {a} (paint c h hr hc e) = let (i, u) = has-at b a (Colour c) h in (i, Colour c, u, (hr, hc, e))
derives-able {b} {a} {p} (join d l r k h hk hs x y) =
    let (i, u) = has-at b a (joins d l r) h in
    (i, joins d l r, u, able-joins b p d l r k (record { from_one = hk; inside = hs; first_in = x; rest_in = y }))

pub given-derives : {b : Contents} {a : ℕ} {p : Picture} {xs : List ℕ} → Given b a p xs → Derives b a p
given-derives {b} {a} (leaf i c u ab lo) = paint c (at_has b i a (Colour c) u) ab.0 ab.1 ab.2
given-derives {b} {a} (node d i l r k u w lo sm x y) =
    join d l r k (at_has b i a (joins d l r) u) w.from_one w.inside w.first_in w.rest_in

-- Two lowest rules are one rule.
same-rule : (b : Contents) {a i j : ℕ} {p : Picture} {x y : Body} → At b i a x → At b j a y → Able b p x → Able b p y
    → Lowest b a p i → Lowest b a p j → (i ≡ j) × (x ≡ y)
same-rule b {a} {i} {j} {p} {x} {y} u v ax ay li lj =
    let e : i ≡ j = omega (arith, li j y v ay, lj i x u ax) in
    (e, ap (λ (r : Rule). r.body) (sym u.rule_is ∙ ap (λ (n : ℕ). get_or b.rules n no_rule) e ∙ v.rule_is))

along : (F : Dir → ℕ → ℕ → Type 0) {d e : Dir} {l r u w : ℕ} → d ≡ e → l ≡ u → r ≡ w → F d l r → F e u w
along F {d} {e} {l} {r} {u} ed el er x =
    subst (λ (n : ℕ). F e u n) er (subst (λ (n : ℕ). F e n r) el (subst (λ (z : Dir). F z l r) ed x))

pub given-unique : {b : Contents} {a : ℕ} {p : Picture} {xs ys : List ℕ} → Given b a p xs → Given b a p ys → xs ≡ ys
given-unique {b} {p = p} (leaf i c u ab lo) (leaf j c' v ab' lo') = ap (λ (n : ℕ). n ∷ 0 ∷ []) (same-rule b {p = p} u v ab ab' lo lo').0
given-unique {b} {p = p} (leaf i c u ab lo) (node d j l r k v w lo' sm x y) =
    absurd (no_colour c d l r (same-rule b {p = p} {x = Colour c} {y = joins d l r} u v ab (able-joins b p d l r k w) lo lo').1)
given-unique {b} {p = p} (node d j l r k v w lo' sm x y) (leaf i c u ab lo) =
    absurd (no_colour c d l r (same-rule b {p = p} {x = Colour c} {y = joins d l r} u v ab (able-joins b p d l r k w) lo lo').1)
given-unique {b} {p = p} (node {xs = xs} {ys = ys} d i l r k u w lo sm x y) (node {xs = xs'} {ys = ys'} d' i' l' r' k' v w' lo' sm' x' y') =
    let (ei, ex) = same-rule b {p = p} {x = joins d l r} {y = joins d' l' r'} u v (able-joins b p d l r k w) (able-joins b p d' l' r' k' w') lo lo' in
    let (ed, el, er) = joins-inj d d' l r l' r' ex in
    let w'' : Works b d l r p k' = along (λ d l r. Works b d l r p k') (sym ed) (sym el) (sym er) w' in
    let ek : k ≡ k' = omega (arith, sm k' w'', sm' k (along (λ d l r. Works b d l r p k) ed el er w)) in
    let x'' : Given b l (first d k p) xs' = rw ek (along (λ d l r. Given b l (first d k' p) xs') (sym ed) (sym el) (sym er) x') in
    let y'' : Given b r (rest d k p) ys' = rw ek (along (λ d l r. Given b r (rest d k' p) ys') (sym ed) (sym el) (sym er) y') in
    (λ z. ei z ∷ ek z ∷ (given-unique x x'' z ++ given-unique y y'' z))
