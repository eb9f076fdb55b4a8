-- The derivation given: at each piece the lowest-numbered rule that can derive it, and the smallest cut that works.
use Rattle.std.specs.Prelude.{ℕ, ◌≤◌, ◌<◌, ◌≡◌, List, [], ◌∷◌, ◌++◌, length, get_or}
use Rattle.books.specs.Contents.{Contents, Called}
use Rattle.books.specs.Picture.{Picture, joins, size, first, rest}
use Rattle.books.specs.declared.rule.Dir.TheVariants.{Across as across, Down as down}
use Rattle.books.specs.declared.rule.Dir.{Dir}
use Rattle.books.specs.Derives.{Derives}
use Rattle.books.specs.declared.rule.Body.{Body}
use Rattle.books.specs.declared.rule.Body.TheVariants.{Colour, Across, Down}
use Rattle.books.specs.Rules.{no_rule}

-- rule number i has head a and body x
pub record At (b : Contents) (i a : ℕ) (x : Body) : Type 0 where
  pub below : i < length b.rules
  pub rule_is : get_or b.rules i no_rule ≡ record { head = a; body = x }

-- the cut k of p works for l and r
pub record Works (b : Contents) (d : Dir) (l r : ℕ) (p : Picture) (k : ℕ) : Type 0 where
  pub from_one : 1 ≤ k
  pub inside : k < size d p
  pub first_in : Derives b l (first d k p)
  pub rest_in : Derives b r (rest d k p)

-- a body can derive p
abbrev pub Able : Contents → Picture → Body → Type 0
Able b p (Colour c) = (p.rows ≡ 1) × (p.cols ≡ 1) × Called b c (p.cell 0 0)
Able b p (Across l r) = (k : ℕ) × Works b across l r p k
Able b p (Down u v) = (k : ℕ) × Works b down u v p k

-- no rule with head a and a number below i can derive p
abbrev pub Lowest : Contents → ℕ → Picture → ℕ → Type 0
Lowest b a p i = (j : ℕ) (x : Body) → At b j a x → Able b p x → i ≤ j

-- the numbers written for motif a at p: rule and cut, then the first part's, then the rest's
pub data Given (b : Contents) : ℕ → Picture → List ℕ → Type 0 where
  leaf : {a : ℕ} {p : Picture} (i c : ℕ) → At b i a (Colour c) → Able b p (Colour c) → Lowest b a p i → Given b a p (i ∷ 0 ∷ [])
  node : {a : ℕ} {p : Picture} {xs ys : List ℕ} (d : Dir) (i l r k : ℕ) → At b i a (joins d l r) → Works b d l r p k
      → Lowest b a p i → ((j : ℕ) → Works b d l r p j → k ≤ j)
      → Given b l (first d k p) xs → Given b r (rest d k p) ys → Given b a p (i ∷ k ∷ (xs ++ ys))
