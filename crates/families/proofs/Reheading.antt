-- What a motif derives goes by its rules alone: a motif with another's rules derives what that one does, and one whose only rule is a join derives
-- the joins of what its two motifs derive.
use Prim.Native.Nat.{ℕ}
use mathlib.Core.Path.{◌≡◌, refl, subst}
use mathlib.Core.Logic.{◌⊎◌, inl, inr, ⊎_elim}
use native.Mathlib.Omega.{arith}
use Rattle.books.specs.Contents.{Contents, Has}
use Rattle.books.specs.Picture.{Picture, joins, size, first, rest}
use Rattle.books.specs.declared.rule.Dir.TheVariants.{Across as across, Down as down}
use Rattle.books.specs.declared.rule.Dir.{Dir}
use Rattle.books.specs.Derives.{Derives, paint, join}
use Rattle.books.specs.declared.rule.Body.{Body}
use Rattle.books.specs.declared.rule.Body.TheVariants.{Colour}
use Rattle.books.proofs.SamePictures.{derives-same}
use Rattle.books.proofs.NothingEmpty.{derives-size}
use Rattle.families.specs.Joined.{Both}
use Rattle.families.proofs.Joining.{cut-joined}

pub rehead : (b : Contents) (a z : ℕ) {p : Picture} → ((x : Body) → Has b a x → Has b z x) → Derives b a p → Derives b z p
rehead b a z t (paint c h hr hc e) = paint c (t _ h) hr hc e
rehead b a z t (join d l r k h hk hs x y) = join d l r k (t _ h) hk hs x y

-- A motif whose rules are those of two others derives what the one or the other does.
pub rehead-cases : (b : Contents) (a y z : ℕ) {p : Picture} → ((x : Body) → Has b a x → Has b y x ⊎ Has b z x)
    → Derives b a p → Derives b y p ⊎ Derives b z p
rehead-cases b a y z t (paint c h hr hc e) = ⊎_elim (λ w. inl (paint c w hr hc e)) (λ w. inr (paint c w hr hc e)) (t _ h)
rehead-cases b a y z t (join d l r k h hk hs u v) = ⊎_elim (λ w. inl (join d l r k w hk hs u v)) (λ w. inr (join d l r k w hk hs u v)) (t _ h)

-- Joins are the same only with the same direction and motifs, and a colour is none.
pub joins-same : (d e : Dir) (l r i j : ℕ) → joins d l r ≡ joins e i j → (d ≡ e) × (l ≡ i) × (r ≡ j)
joins-same across across l r i j q = (refl, cc, cc)
joins-same across down l r i j q = (cc, cc, cc)
joins-same down across l r i j q = (cc, cc, cc)
joins-same down down l r i j q = (refl, cc, cc)

pub colour-joins : (c : ℕ) (d : Dir) (l r : ℕ) → Colour c ≡ joins d l r → ⊥
colour-joins c across l r e = let z : ◌≡◌ {A = ℕ} 0 1 = cc in omega arith
colour-joins c down l r e = let z : ◌≡◌ {A = ℕ} 0 1 = cc in omega arith

-- A motif whose only rule is a join derives pictures joined; ...
pub only-join : (b : Contents) (a : ℕ) (d : Dir) (l r : ℕ) {p : Picture} → ((x : Body) → Has b a x → x ≡ joins d l r)
    → Derives b a p → Both d (Derives b l) (Derives b r) p
only-join b a d l r t (paint c h hr hc e) = absurd (colour-joins c d l r (t _ h))
only-join b a d l r {p} t (join e i j k h hk hs x y) =
    let (ed, ei, ej) = joins-same e d i j l r (t _ h) in
    subst (λ (c : Dir). Both c (Derives b l) (Derives b r) p) ed
    (record {
      left = first e k p;
      right = rest e k p;
      left_in = subst (λ (n : ℕ). Derives b n (first e k p)) ei x;
      right_in = subst (λ (n : ℕ). Derives b n (rest e k p)) ej y;
      whole = cut-joined e p k hs;
    })

-- ... and a motif with the join derives them all.
pub join-of : (b : Contents) (a : ℕ) (d : Dir) (l r : ℕ) {p : Picture} → Has b a (joins d l r) → Both d (Derives b l) (Derives b r) p → Derives b a p
join-of b a d l r {p} h y =
    let j = y.whole in
    join {p = p} d l r (size d y.left) h (derives-size d y.left_in) (omega (arith, j.sizes, derives-size d y.right_in))
    (derives-same j.front y.left_in)
    (derives-same j.back y.right_in)
