-- The list of trials is as long as a formula says. Its length is that of each piece's trials added up; of the pieces of a sheet as many have a width as stretches of rows
-- go with it, so that the cuts add up to the stretches of one side times the cuts of all stretches of the other, and both have a closed form.
use mathlib.Core.Path.{◌≡◌, refl, sym, ap, ap₂, ◌∙◌}
use mathlib.Core.List.{List, [], ◌∷◌, ◌++◌, flat_map}
use Prim.Native.Nat.{ℕ, zero, suc, ◌+◌, ◌-◌, ◌*◌, ◌/◌, ◌<◌}
use native.Mathlib.Nat.{mul-one, mul_comm}
use native.Mathlib.Omega.{arith}
use lib.ListN.{length, get_or, length-append}
use Rattle.names.specs.Counted.{each}
use Rattle.books.specs.Rules.{no_rule}
use Rattle.books.specs.declared.rule.Dir.TheVariants.{Across as across, Down as down}
use Rattle.books.specs.declared.rule.Rule.{Rule}
use Rattle.books.specs.declared.rule.Body.{Body}
use Rattle.books.specs.declared.rule.Body.TheVariants.{Colour, Across, Down}
use Rattle.pieces.specs.Pieces.{piece, pieces}
use Rattle.pieces.specs.Trials.{trial, cuts_for, trials_at, trials, goes, rules_of, trials_for}
use Rattle.pieces.specs.declared.masks.Joins.{Joins}
use Rattle.pieces.specs.declared.piece.Piece.{Piece}
use Rattle.pieces.specs.inner.Tally.{tally, tried_at}
use Rattle.pieces.proofs.Slots.{lefts, tops, widths}
use Rattle.pieces.proofs.Stretches.{stretches-sum, stretches-all}
use Rattle.pieces.proofs.Sums.{sum, sum_same, sum-const, sum-scale, sum-plus, sum_first, length-each}

-- ── Sums over a list ──

pub tally-append : {A : Type 0} (f : A → ℕ) (xs ys : List A) → tally f (xs ++ ys) ≡ tally f xs + tally f ys
unfolding tally
tally-append f [] ys = omega arith
tally-append f (x ∷ xs) ys = omega (arith, tally-append f xs ys)

tally-same : {A : Type 0} (f g : A → ℕ) (xs : List A) → ((x : A) → f x ≡ g x) → tally f xs ≡ tally g xs
unfolding tally
tally-same f g [] h = refl
tally-same f g (x ∷ xs) h = omega (arith, tally-same f g xs h, h x)

tally-mix : {A : Type 0} (f g : A → ℕ) (a d : ℕ) (xs : List A) → tally (λ x. f x * a + g x * d) xs ≡ tally f xs * a + tally g xs * d
unfolding tally
tally-mix f g a d [] = omega arith
tally-mix f g a d (x ∷ xs) = omega (arith, tally-mix f g a d xs)

tally-each : {A : Type 0} (f : A → ℕ) (g : ℕ → List A) (n : ℕ) → tally f (each n g) ≡ sum n (λ i. tally f (g i))
unfolding tally each sum
tally-each f g zero = refl
tally-each f g (suc n) = omega (arith, tally-each f g n, tally-append f (each n g) (g n))

tally-one : {A : Type 0} (f : A → ℕ) (x : A) → tally f (x ∷ []) ≡ f x
unfolding tally
tally-one f x = omega arith

length-flat : {A B : Type 0} (f : A → List B) (xs : List A) → length (flat_map f xs) ≡ tally (λ x. length (f x)) xs
unfolding flat_map tally
length-flat f [] = refl
length-flat f (x ∷ xs) = omega (arith, length-append (f x) (flat_map f xs), length-flat f xs)

-- ── One piece ──

abbrev pub joins_in : List Rule → Joins
joins_in rules = record { across = rules_of across rules; down = rules_of down rules }

cuts-one : (x : Body) (p : Piece) → cuts_for x p ≡ (p.width - 1) * goes across x + (p.height - 1) * goes down x
cuts-one (Colour c) p = omega arith
cuts-one (Across l r) p = omega arith
cuts-one (Down u v) p = omega arith

cuts-all : (rules : List Rule) (p : Piece) → sum (length rules) (λ i. cuts_for (get_or rules i no_rule).body p) ≡ tried_at (joins_in rules) p
unfolding sum rules_of
cuts-all [] p = omega arith
cuts-all (r ∷ rs) p =
    sum_first (λ i. cuts_for (get_or (r ∷ rs) i no_rule).body p) (length rs)
    ∙ omega (arith, cuts-one r.body p, cuts-all rs p)

length_at : (rules : List Rule) (p : Piece) → length (trials_at rules p) ≡ tried_at (joins_in rules) p
unfolding trials_at
length_at rules p =
    length-each (λ i. each (cuts i) (λ k. trial p (suc k) i ∷ [])) cuts
    (λ i. length-each (λ k. trial p (suc k) i ∷ []) (λ k. 1) (λ k. refl) (cuts i) ∙ sum-const 1 (cuts i) ∙ mul-one (cuts i)) (length rules)
    ∙ cuts-all rules p
  where
    cuts : ℕ → ℕ
    cuts i = cuts_for (get_or rules i no_rule).body p

pub length-tried : (rules : List Rule) (m n : ℕ) → length (trials rules m n) ≡ tally (tried_at (joins_in rules)) (pieces m n)
unfolding trials
length-tried rules m n =
    length-flat (trials_at rules) (pieces m n) ∙ tally-same (λ p. length (trials_at rules p)) (tried_at (joins_in rules)) (pieces m n) (λ p. length_at rules p)

-- ── All pieces ──

-- what is x of the height times y of the width, over all pieces
module _ (m n : ℕ) (x y : ℕ → ℕ) (f : Piece → ℕ) (is : (u v t l : ℕ) → f (piece (suc u) (suc v) t l) ≡ x u * y v) where
  of-lefts : (u v t : ℕ) → tally f (lefts n u v t) ≡ (n - v) * (x u * y v)
  of-lefts u v t =
      tally-each f (λ l. piece (suc u) (suc v) t l ∷ []) (n - v)
      ∙ sum_same _ (λ l. x u * y v) (n - v) (λ l h. tally-one f (piece (suc u) (suc v) t l) ∙ is u v t l) ∙ sum-const (x u * y v) (n - v)

  of-tops : (u v : ℕ) → tally f (tops m n u v) ≡ ((m - u) * x u) * ((n - v) * y v)
  of-tops u v =
      tally-each f (λ t. lefts n u v t) (m - u)
      ∙ sum_same _ (λ t. (n - v) * (x u * y v)) (m - u) (λ t h. of-lefts u v t) ∙ sum-const ((n - v) * (x u * y v)) (m - u) ∙ omega arith

  of-widths : (u : ℕ) → tally f (widths m n u) ≡ sum n (λ v. (n - v) * y v) * ((m - u) * x u)
  of-widths u =
      tally-each f (λ v. tops m n u v) n ∙ sum_same _ (λ v. ((m - u) * x u) * ((n - v) * y v)) n (λ v h. of-tops u v)
      ∙ sum-scale ((m - u) * x u) (λ v. (n - v) * y v) n ∙ mul_comm _ _

  of-pieces : tally f (pieces m n) ≡ sum m (λ u. (m - u) * x u) * sum n (λ v. (n - v) * y v)
  unfolding pieces
  of-pieces =
      tally-each f (λ u. widths m n u) m ∙ sum_same _ (λ u. sum n (λ v. (n - v) * y v) * ((m - u) * x u)) m (λ u h. of-widths u)
      ∙ sum-scale (sum n (λ v. (n - v) * y v)) (λ u. (m - u) * x u) m ∙ mul_comm _ _

-- ── In closed form ──

stretches-ones : (n : ℕ) → sum n (λ i. (n - i) * 1) ≡ n * (n + 1) / 2
stretches-ones n = sum_same _ (λ i. n - i) n (λ i h. mul-one (n - i)) ∙ sym (stretches-sum n n) ∙ stretches-all n

-- the cuts of all stretches of a row of n cells: n - 1 stretches of two cells with one cut each, n - 2 of three with two, ..
abbrev inner : ℕ → ℕ
inner n = sum n (λ v. (n - v) * v)

numbers-below : (n : ℕ) → sum (suc n) (λ v. v) * 2 ≡ n * suc n
unfolding sum
numbers-below zero = refl
numbers-below (suc n) = let e : sum (suc (suc n)) (λ v. v) ≡ sum (suc n) (λ v. v) + suc n = refl in omega (arith, numbers-below n)

inner-next : (n : ℕ) → inner (suc n) ≡ inner n + sum (suc n) (λ v. v)
unfolding sum
inner-next n =
    sum_same _ (λ v. (n - v) * v + v) (suc n) (λ v h. ap (λ (x : ℕ). x * v) (more v h) ∙ omega arith)
    ∙ sum-plus (λ v. (n - v) * v) (λ v. v) (suc n) ∙ ap (λ (x : ℕ). x + sum (suc n) (λ v. v)) last
  where
    more : (v : ℕ) → v < suc n → suc n - v ≡ suc (n - v)
    more v h = omega arith

    last : sum (suc n) (λ v. (n - v) * v) ≡ sum n (λ v. (n - v) * v)
    last = let none : n - n ≡ 0 = omega arith in omega (arith, ap (λ (x : ℕ). x * n) none)

inner-times : (k : ℕ) → inner (suc k) * 6 ≡ k * suc k * suc (suc k)
unfolding sum
inner-times zero = refl
inner-times (suc k) = omega (arith, inner-times k, inner-next (suc k), numbers-below (suc k))

inner-all : (n : ℕ) → inner n ≡ (n - 1) * n * (n + 1) / 6
unfolding sum
inner-all zero = refl
inner-all (suc k) =
    let e : (suc k - 1) * suc k * (suc k + 1) ≡ k * suc k * suc (suc k) = ap₂ (λ (x y : ℕ). x * suc k * y) (omega arith) (omega arith) in
    omega (arith, inner-times k)

-- the cuts across, and down, of all pieces
wide-cuts : (m n : ℕ) → tally (λ p. p.width - 1) (pieces m n) ≡ (m * (m + 1) / 2) * ((n - 1) * n * (n + 1) / 6)
wide-cuts m n =
    of-pieces m n (λ u. 1) (λ v. v) (λ p. p.width - 1) (λ u v t l. omega arith) ∙ ap₂ (λ (x y : ℕ). x * y) (stretches-ones m) (inner-all n)

tall-cuts : (m n : ℕ) → tally (λ p. p.height - 1) (pieces m n) ≡ (n * (n + 1) / 2) * ((m - 1) * m * (m + 1) / 6)
tall-cuts m n =
    of-pieces m n (λ u. u) (λ v. 1) (λ p. p.height - 1) (λ u v t l. omega arith) ∙ ap₂ (λ (x y : ℕ). x * y) (inner-all m) (stretches-ones n) ∙ mul_comm _ _

pub tried-formula : (j : Joins) (m n : ℕ) → tally (tried_at j) (pieces m n) ≡ trials_for j.across j.down m n
tried-formula j m n =
    tally-mix (λ p. p.width - 1) (λ p. p.height - 1) j.across j.down (pieces m n)
    ∙ ap₂ (λ (x y : ℕ). x * j.across + y * j.down) (wide-cuts m n) (tall-cuts m n) ∙ omega arith

-- ── The theorems ──

-- the list of all trials is as long as the formula says
pub trials-formula : (rules : List Rule) (m n : ℕ) → length (trials rules m n) ≡ trials_for (rules_of across rules) (rules_of down rules) m n
trials-formula rules m n = length-tried rules m n ∙ tried-formula (joins_in rules) m n
