-- What is taken at a piece where a rule fits: a colour rule only where the piece is one cell of that colour, a join only at a cut that works, each by the
-- lowest rule and the smallest cut. The search finds a rule that fits, and passes none.
use Prim.Native.Nat.{ℕ, ◌-◌, ◌≤◌, ◌<◌}
use mathlib.Core.Path.{◌≡◌, refl, sym, ◌∙◌}
use mathlib.Core.Bool.{Bool, true, false, true≢false}
use mathlib.Core.List.{List}
use mathlib.Core.Logic.{◌↔◌, ⊎_elim}
use native.Mathlib.Omega.{arith}
use lib.Dec.{eqb}
use lib.ListN.{length, get_or}
use borrow.Author.Tests.{eqb-true, eq-eqb, ltb-true, lt-ltb}
use Rattle.names.proofs.Tests.{lt-or-le, and_both, and-make}
use Rattle.books.specs.Picture.{joins}
use Rattle.books.specs.declared.rule.Rule.{Rule}
use Rattle.books.specs.declared.rule.Body.{Body}
use Rattle.books.specs.declared.rule.Body.TheVariants.{Colour, Across, Down}
use Rattle.pieces.specs.declared.piece.Piece.{Piece}
use Rattle.books.specs.declared.rule.Dir.{Dir}
use Rattle.books.specs.declared.rule.Dir.TheVariants.{Across as across, Down as down}
use Rattle.pieces.specs.declared.choice.Choice.{Choice}
use Rattle.pieces.specs.declared.choice.Choice.TheVariants.{Leaf, Join}
use Rattle.pieces.specs.Parts.{reach}
use Rattle.books.specs.Rules.{no_rule}
use Rattle.pieces.specs.View.{View}
use Rattle.pieces.specs.Choice.{works, cut_of, covers, fits, takes, taken, lowest, chosen, choose}
use Rattle.names.specs.Counted.{least}
use Rattle.pieces.specs.Suiting.{BothSet, Suits, SomeFits}
use Rattle.names.proofs.Least.{Least, least-is}
use Rattle.pieces.proofs.Fitting.{covers-cell}

-- rule number i is the lowest that is taken, and has this body
pub record Taken (v : View) (rules : List Rule) (a : ℕ) (q : Piece) (i : ℕ) (x : Body) : Type 0 where
  pub below : i < length rules
  pub rule_is : get_or rules i no_rule ≡ record { head = a; body = x }
  pub fitting : fits v q x ≡ true
  pub lower : (j : ℕ) → j < i → taken v rules a q j ≡ false

-- k is the smallest cut that works
pub record Cut (has : ℕ → Piece → Bool) (d : Dir) (l r : ℕ) (q : Piece) (k : ℕ) : Type 0 where
  pub from_one : 1 ≤ k
  pub inside : k < reach d q
  pub working : works has d l r q k ≡ true
  pub lower : (j : ℕ) → 1 ≤ j → j < k → works has d l r q j ≡ false

abbrev pub Right : View → List Rule → ℕ → Piece → Choice → Type 0
Right v rules a q (Leaf i) = (c : ℕ) × Taken v rules a q i (Colour c)
Right v rules a q (Join i d k l r) = Taken v rules a q i (joins d l r) × Cut v.has d l r q k

-- A cut works exactly where both parts have their bits.
pub cut-set : (has : ℕ → Piece → Bool) (d : Dir) (l r : ℕ) (q : Piece) (k : ℕ) → 1 ≤ k → k < reach d q → works has d l r q k ≡ true → BothSet has d l r q k
unfolding works
cut-set has d l r q k h g e = let (x, y) = and_both _ _ e in record { from_one = h; inside = g; first_set = x; rest_set = y }

pub set-works : (has : ℕ → Piece → Bool) (d : Dir) (l r : ℕ) (q : Piece) (k : ℕ) → BothSet has d l r q k → works has d l r q k ≡ true
unfolding works
set-works has d l r q k c = and-make _ _ c.first_set c.rest_set

-- The smallest cut works where it lies in the piece.
cut-is : (has : ℕ → Piece → Bool) (d : Dir) (l r : ℕ) (q : Piece) → cut_of has d l r q < reach d q → Cut has d l r q (cut_of has d l r q)
unfolding cut_of
cut-is has d l r q h =
    let w : Least (works has d l r q) 1 (reach d q - 1) (least (works has d l r q) 1 (reach d q - 1)) = least-is _ _ _ in
    record { from_one = w.from; inside = h; working = w.accepted (omega (arith, w.from)); lower = w.lower }

-- It lies there exactly where some cut works.
cut-within : (has : ℕ → Piece → Bool) (d : Dir) (l r : ℕ) (q : Piece) → (cut_of has d l r q < reach d q) ↔ ((k : ℕ) × BothSet has d l r q k)
unfolding cut_of
cut-within has d l r q =
    let w : Least (works has d l r q) 1 (reach d q - 1) (least (works has d l r q) 1 (reach d q - 1)) = least-is _ _ _ in (
      λ h. (least (works has d l r q) 1 (reach d q - 1), cut-set has d l r q _ w.from h (w.accepted (omega (arith, w.from)))),
      λ c. ⊎_elim
          (λ less. absurd (true≢false (sym (set-works has d l r q c.0 c.1) ∙ w.lower c.0 c.1.from_one less)))
          (λ upto. omega (arith, c.1.inside))
          (lt-or-le c.0 (least (works has d l r q) 1 (reach d q - 1))),
    )

-- A colour fits a piece of one cell alone.
pub cell-fits : (v : View) (q : Piece) (c : ℕ) → fits v q (Colour c) ≡ true → (q.height ≡ 1) × (q.width ≡ 1) × (v.paints c q ≡ true)
unfolding fits covers
cell-fits v q c e = let (x, u) = and_both _ _ e in let (y, z) = and_both _ _ u in (eqb-true _ _ x, eqb-true _ _ y, z)

-- So the test of a body tells whether it fits.
pub fits-suits : (v : View) (q : Piece) (x : Body) → (fits v q x ≡ true) ↔ Suits v q x
unfolding fits
fits-suits v q (Colour c) = (cell-fits v q c, λ e. covers-cell v.paints q c e.0 e.1 ∙ e.2)
fits-suits v q (Across l r) =
    let w = cut-within v.has across l r q in (λ e. w.0 (ltb-true _ _ e), λ c. lt-ltb _ _ (w.1 c))
fits-suits v q (Down u d) =
    let w = cut-within v.has down u d q in (λ e. w.0 (ltb-true _ _ e), λ c. lt-ltb _ _ (w.1 c))

-- Where a rule fits it is taken, and the lowest is a rule.
pub suits-taken : (v : View) (rules : List Rule) (a : ℕ) (q : Piece) (i : ℕ) (x : Body) → get_or rules i no_rule ≡ record { head = a; body = x } → Suits v q x
    → taken v rules a q i ≡ true
unfolding taken takes
suits-taken v rules a q i x e s = rw e (and-make _ _ (eq-eqb a a refl) ((fits-suits v q x).1 s))

pub lowest-below : (v : View) (rules : List Rule) (a : ℕ) (q : Piece) → SomeFits v rules a q → lowest v rules a q < length rules
unfolding lowest
lowest-below v rules a q f =
    let low : Least (taken v rules a q) 0 (length rules) (lowest v rules a q) = least-is (taken v rules a q) 0 (length rules) in
    let here = suits-taken v rules a q f.number f.body f.rule_is f.suits in
    ⊎_elim
    (λ h. absurd (true≢false (sym here ∙ low.lower f.number (omega arith) h)))
    (λ h. omega (arith, f.below))
    (lt-or-le f.number (lowest v rules a q))

-- A body that fits is chosen as it should be.
chosen-right : (v : View) (rules : List Rule) (a : ℕ) (q : Piece) (i : ℕ) (x : Body) → Taken v rules a q i x → Right v rules a q (chosen v.has q i x)
unfolding chosen fits
chosen-right v rules a q i (Colour c) t = (c, t)
chosen-right v rules a q i (Across l r) t = (t, cut-is v.has across l r q (ltb-true _ _ t.fitting))
chosen-right v rules a q i (Down u w) t = (t, cut-is v.has down u w q (ltb-true _ _ t.fitting))

taken-both : (v : View) (rules : List Rule) (a : ℕ) (q : Piece) (i : ℕ) → taken v rules a q i ≡ true
    → (eqb (get_or rules i no_rule).head a ≡ true) × (fits v q (get_or rules i no_rule).body ≡ true)
unfolding taken takes
taken-both v rules a q i e = and_both _ _ e

pub choose-right : (v : View) (rules : List Rule) (a : ℕ) (q : Piece) → SomeFits v rules a q → Right v rules a q (choose v rules a q)
unfolding lowest choose
choose-right v rules a q f =
    let h = lowest-below v rules a q f in
    let low : Least (taken v rules a q) 0 (length rules) (lowest v rules a q) = least-is (taken v rules a q) 0 (length rules) in
    let r : Rule = get_or rules (lowest v rules a q) no_rule in
    let (own, fitting) = taken-both v rules a q (lowest v rules a q) (low.accepted (omega arith)) in
    chosen-right v rules a q (lowest v rules a q) r.body
    (record {
      below = h;
      rule_is = λ z. record { head = eqb-true r.head a own z; body = r.body };
      fitting = fitting;
      lower = λ j k. low.lower j (omega arith) k;
    })

-- So a rule is found exactly where one fits.
pub some-found : (v : View) (rules : List Rule) (a : ℕ) (q : Piece) → (lowest v rules a q < length rules) ↔ SomeFits v rules a q
unfolding lowest
some-found v rules a q = (
  λ h.
      let low : Least (taken v rules a q) 0 (length rules) (lowest v rules a q) = least-is (taken v rules a q) 0 (length rules) in
      let r : Rule = get_or rules (lowest v rules a q) no_rule in
      let (own, fitting) = taken-both v rules a q (lowest v rules a q) (low.accepted (omega arith)) in
      record {
        number = lowest v rules a q;
        body = r.body;
        below = h;
        rule_is = λ z. record { head = eqb-true r.head a own z; body = r.body };
        suits = (fits-suits v q r.body).0 fitting;
      },
  lowest-below v rules a q,
)
