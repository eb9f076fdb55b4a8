-- A rule under other numbers keeps its kind: a renumbered body comes from a body of the same kind.
use Prim.Native.Nat.{ℕ}
use mathlib.Core.Path.{◌≡◌, refl}
use mathlib.Core.List.Memᴰ
use Rattle.books.specs.Contents.{Contents, Has}
use Rattle.books.specs.Picture.{joins}
use Rattle.books.specs.Moved.{moved}
use Rattle.books.specs.declared.rule.Dir.{Dir}
use Rattle.books.specs.declared.rule.Dir.TheVariants.{Across as across, Down as down}
use Rattle.books.specs.declared.rule.Body.{Body}
use Rattle.books.specs.declared.rule.Body.TheVariants.{Colour, Across, Down}

pub moved-joins : (m c : ℕ → ℕ) (d : Dir) (l r : ℕ) → joins d (m l) (m r) ≡ moved m c (joins d l r)
moved-joins m c across l r = refl
moved-joins m c down u v = refl

pub colour-back : (m c : ℕ → ℕ) (k : ℕ) (x : Body) → Colour k ≡ moved m c x → (j : ℕ) × (x ≡ Colour j) × (k ≡ c j)
colour-back m c k (Colour j) e = (j, refl, cc)
colour-back m c k (Across l r) e = (0, cc, cc)
colour-back m c k (Down u v) e = (0, cc, cc)

pub joins-back : (m c : ℕ → ℕ) (d : Dir) (l r : ℕ) (x : Body) → joins d l r ≡ moved m c x
    → (i : ℕ) × (j : ℕ) × (x ≡ joins d i j) × (l ≡ m i) × (r ≡ m j)
joins-back m c across l r (Colour k) e = (0, 0, cc, cc, cc)
joins-back m c across l r (Across i j) e = (i, j, refl, cc, cc)
joins-back m c across l r (Down i j) e = (0, 0, cc, cc, cc)
joins-back m c down l r (Colour k) e = (0, 0, cc, cc, cc)
joins-back m c down l r (Across i j) e = (0, 0, cc, cc, cc)
joins-back m c down l r (Down i j) e = (i, j, refl, cc, cc)

-- A rule under an equal head, with an equal body.
pub has-cast : (b : Contents) {a a' : ℕ} {x x' : Body} → a ≡ a' → x ≡ x' → Has b a' x' → Has b a x
has-cast b p q h = Memᴰ.cast (λ i. record { head = p i; body = q i }) h
