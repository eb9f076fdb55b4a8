-- The rules that are left are those of which all motifs are marked, renumbered: each of them goes over, and each comes from one. Since numbers
-- tell marked motifs apart, rules are equal after renumbering exactly where they were before.
use Prim.Native.Nat.{ℕ, ◌≤◌}
use mathlib.Core.Path.{◌≡◌, refl, sym, ◌∙◌, ap}
use mathlib.Core.Bool.{Bool, true, true≢false}
use mathlib.Core.List.Memᴰ
use mathlib.Core.List.{List, [], ◌∷◌, Memᴰ}
use mathlib.Core.Logic.{⊎_elim}
use native.Mathlib.Omega.{arith}
use lib.ListN.{length}
use Rattle.names.specs.Pick.{pick}
use Rattle.names.proofs.Picking.{pick_ind}
use Rattle.books.specs.Contents.{Contents, Has}
use Rattle.books.specs.Moved.{moved}
use Rattle.books.specs.declared.rule.Dir.TheVariants.{Across as across}
use Rattle.books.specs.declared.rule.Rule.{Rule}
use Rattle.books.specs.declared.rule.Body.{Body}
use Rattle.books.specs.declared.rule.Body.TheVariants.{Colour, Across, Down}
use Rattle.names.proofs.Tests.{and_both, and-make}
use Rattle.names.specs.Bits.{is_set}
use Rattle.tidy.specs.Marks.{rank}
use Rattle.tidy.specs.Marking.{all_marked}
use Rattle.names.specs.Spelling.{Distinct}
use Rattle.books.specs.Equal.{firsts}
use Rattle.tidy.specs.Tidied.{uses, usable, renumbered, leaving}
use Rattle.books.proofs.Firsts.{firsts-forth, firsts-back, firsts-distinct, map-distinct}
use Rattle.tidy.proofs.Ranks.{rank-inj}
use Rattle.tidy.proofs.Rewriting.{joins-marked}

pub uses-all : (m : ℕ) (r : Rule) → is_set m r.head ≡ true → all_marked m r.body ≡ true → uses m r ≡ true
unfolding uses
uses-all m r h e = and-make (is_set m r.head) _ h e

uses-back : (m : ℕ) (r : Rule) → uses m r ≡ true → (is_set m r.head ≡ true) × (all_marked m r.body ≡ true)
unfolding uses
uses-back m r e = and_both (is_set m r.head) _ e

usable-forth : (m : ℕ) (rs : List Rule) (x : Rule) → Memᴰ x rs → uses m x ≡ true → Memᴰ x (usable m rs)
unfolding usable
usable-forth m [] x i e = absurd (Memᴰ.not-nil i)
usable-forth m (r ∷ rs) x i e =
    pick_ind (Memᴰ x) (uses m r) (r ∷ usable m rs) (usable m rs)
    (λ _. ⊎_elim (λ (q : x ≡ r). Memᴰ.head q) (λ u. Memᴰ.tail (usable-forth m rs x u e)) (Memᴰ.cases_cons i))
    (λ f. ⊎_elim
    (λ (q : x ≡ r). absurd (true≢false (sym e ∙ ap (uses m) q ∙ f)))
    (λ u. usable-forth m rs x u e)
    (Memᴰ.cases_cons i))

usable-back : (m : ℕ) (rs : List Rule) (x : Rule) → Memᴰ x (usable m rs) → Memᴰ x rs × (uses m x ≡ true)
unfolding usable
usable-back m [] x = λ i. absurd (Memᴰ.not-nil i)
usable-back m (r ∷ rs) x =
    pick_ind (λ (l : List Rule). Memᴰ x l → Memᴰ x (r ∷ rs) × (uses m x ≡ true)) (uses m r) (r ∷ usable m rs) (usable m rs)
    (λ e i. ⊎_elim
    (λ (q : x ≡ r). (Memᴰ.head q, ap (uses m) q ∙ e))
    (λ u. let (v, f) = usable-back m rs x u in (Memᴰ.tail v, f))
    (Memᴰ.cases_cons i))
    (λ _ i. let (v, f) = usable-back m rs x i in (Memᴰ.tail v, f))

pub usable-length : (m : ℕ) (rs : List Rule) → length (usable m rs) ≤ length rs
unfolding usable
usable-length m [] = omega arith
usable-length m (r ∷ rs) =
    pick_ind (λ (l : List Rule). length l ≤ length (r ∷ rs)) (uses m r) (r ∷ usable m rs) (usable m rs)
    (λ _. omega (arith, usable-length m rs)) (λ _. omega (arith, usable-length m rs))

usable-apart : (m : ℕ) (rs : List Rule) → Distinct rs → Distinct (usable m rs)
unfolding usable
usable-apart m [] a = tt
usable-apart m (r ∷ rs) a =
    pick_ind Distinct (uses m r) (r ∷ usable m rs) (usable m rs)
    (λ _. (λ i. a.0 (usable-back m rs r i).0, usable-apart m rs a.1))
    (λ _. usable-apart m rs a.1)

-- where all rules are usable, they are all there
pub usable-all : (m : ℕ) (rs : List Rule) → ((r : Rule) → Memᴰ r rs → uses m r ≡ true) → usable m rs ≡ rs
unfolding usable
usable-all m [] h = refl
usable-all m (r ∷ rs) h =
    ap (λ (t : Bool). pick t (r ∷ usable m rs) (usable m rs)) (h r (Memᴰ.head refl))
    ∙ ap (λ (l : List Rule). r ∷ l) (usable-all m rs (λ q i. h q (Memᴰ.tail i)))

-- renumbered rules are equal only where the rules are: numbers tell marked motifs apart
both-apart : (m l r i j : ℕ) → all_marked m (Across l r) ≡ true → all_marked m (Across i j) ≡ true → rank m l ≡ rank m i → rank m r ≡ rank m j
    → (l ≡ i) × (r ≡ j)
both-apart m l r i j e f p q =
    let (u, v) = (joins-marked m across l r).0 e in
    let (w, z) = (joins-marked m across i j).0 f in
    (rank-inj m l i u w p, rank-inj m r j v z q)

body-apart : (m : ℕ) (x y : Body) → all_marked m x ≡ true → all_marked m y ≡ true → moved (rank m) (λ c. c) x ≡ moved (rank m) (λ c. c) y → x ≡ y
unfolding all_marked
body-apart m (Colour c) (Colour k) e f p = p
body-apart m (Colour c) (Across i j) e f p = cc
body-apart m (Colour c) (Down i j) e f p = cc
body-apart m (Across l r) (Colour k) e f p = cc
body-apart m (Across l r) (Across i j) e f p = let (u, v) = both-apart m l r i j e f (cc) (cc) in cc
body-apart m (Across l r) (Down i j) e f p = cc
body-apart m (Down l r) (Colour k) e f p = cc
body-apart m (Down l r) (Across i j) e f p = cc
body-apart m (Down l r) (Down i j) e f p = let (u, v) = both-apart m l r i j e f (cc) (cc) in cc

pub rules-apart : (m : ℕ) (q r : Rule) → uses m q ≡ true → uses m r ≡ true → renumbered m q ≡ renumbered m r → q ≡ r
rules-apart m q r e f p =
    let (u, v) = uses-back m q e in
    let (w, z) = uses-back m r f in
    λ i. record {
      head = rank-inj m q.head r.head u w (ap (λ (t : Rule). t.head) p) i;
      body = body-apart m q.body r.body v z (ap (λ (t : Rule). t.body) p) i;
    }

module _ (m : ℕ) (b : Contents) where
  pub leaving-forth : (a : ℕ) (x : Body) → Has b a x → is_set m a ≡ true → all_marked m x ≡ true → Has (leaving m b) (rank m a) (moved (rank m) (λ c. c) x)
  unfolding leaving
  leaving-forth a x h i e =
      Memᴰ.map (renumbered m) (usable-forth m (firsts [] b.rules) (record { head = a; body = x }) (firsts-forth b.rules _ h) (uses-all m _ i e))

  -- a rule that is left, and the one that it comes from
  pub record Source (z : ℕ) (y : Body) : Type 0 where
    pub head : ℕ
    pub body : Body
    pub rule : Has b head body
    pub head_has : is_set m head ≡ true
    pub body_has : all_marked m body ≡ true
    pub head_is : rank m head ≡ z
    pub body_is : moved (rank m) (λ c. c) body ≡ y

  pub leaving-back : (z : ℕ) (y : Body) → Has (leaving m b) z y → Source z y
  unfolding leaving
  leaving-back z y h =
      let (r, j, e) = Memᴰ.of_map (renumbered m) (usable m (firsts [] b.rules)) h in
      let (k, u) = usable-back m (firsts [] b.rules) r j in
      let (v, w) = uses-back m r u in
      record {
        head = r.head;
        body = r.body;
        rule = firsts-back [] b.rules r k;
        head_has = v;
        body_has = w;
        head_is = ap (λ (q : Rule). q.head) e;
        body_is = ap (λ (q : Rule). q.body) e;
      }

  -- no rule is left twice
  pub leaving-apart : Distinct (leaving m b).rules
  unfolding leaving
  leaving-apart =
      map-distinct (renumbered m) (usable m (firsts [] b.rules))
      (λ q r i j. rules-apart m q r (usable-back m _ q i).1 (usable-back m _ r j).1)
      (usable-apart m (firsts [] b.rules) (firsts-distinct [] b.rules))
