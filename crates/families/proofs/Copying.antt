-- Copies have the new head, and exactly the bodies of the rules with the old one: each rule is copied where its head is the old, and left out elsewhere.
use Prim.Native.Nat.{ℕ, ◌+◌}
use mathlib.Core.Path.{◌≡◌, refl, sym, ◌∙◌, ap}
use mathlib.Core.Bool.{Bool, true, false}
use mathlib.Core.List.Memᴰ
use mathlib.Core.List.{List, [], ◌∷◌, map, Memᴰ}
use mathlib.Core.Logic.{⊎_elim}
use native.Mathlib.Omega.{arith}
use lib.Dec.{eqb}
use borrow.Author.Tests.{eqb-true, eqb-false, eq-eqb, ne_eqb}
use Rattle.names.specs.Pick.{pick}
use Rattle.names.proofs.Picking.{pick_ind}
use Rattle.names.proofs.Tests.{true-or-false}
use Rattle.books.specs.declared.rule.Rule.{Rule}
use Rattle.books.specs.declared.rule.Body.{Body}
use Rattle.books.specs.Moved.{moved, moved_rule}
use Rattle.families.specs.Combine.{copies}

pub copies-forth : (n s : ℕ) (x : Body) (rs : List Rule) → Memᴰ (record { head = s; body = x }) rs
    → Memᴰ (record { head = n; body = x }) (copies n s rs)
unfolding copies
copies-forth n s x [] m = absurd (Memᴰ.not-nil m)
copies-forth n s x (r ∷ rs) m =
    pick_ind (Memᴰ (record { head = n; body = x })) (eqb r.head s) (record { head = n; body = r.body } ∷ copies n s rs) (copies n s rs)
    (λ e. ⊎_elim
    (λ q. Memᴰ.head (ap (λ (z : Rule). record { head = n; body = z.body }) q))
    (λ u. Memᴰ.tail (copies-forth n s x rs u))
    (Memᴰ.cases_cons m))
    (λ e. ⊎_elim
    (λ q. absurd (eqb-false r.head s e (sym (ap (λ (z : Rule). z.head) q))))
    (copies-forth n s x rs)
    (Memᴰ.cases_cons m))

pub copies-back : (n s a : ℕ) (x : Body) (rs : List Rule) → Memᴰ (record { head = a; body = x }) (copies n s rs)
    → (a ≡ n) × Memᴰ (record { head = s; body = x }) rs
unfolding copies
copies-back n s a x [] = λ m. absurd (Memᴰ.not-nil m)
copies-back n s a x (r ∷ rs) =
    pick_ind (λ (l : List Rule). Memᴰ (record { head = a; body = x }) l → (a ≡ n) × Memᴰ (record { head = s; body = x }) (r ∷ rs))
    (eqb r.head s) (record { head = n; body = r.body } ∷ copies n s rs) (copies n s rs)
    (λ e m. ⊎_elim
    (λ q. (ap (λ (z : Rule). z.head) q, Memᴰ.head (λ i. record { head = sym (eqb-true r.head s e) i; body = (q i).body })))
    (λ u. let (h, v) = copies-back n s a x rs u in (h, Memᴰ.tail v))
    (Memᴰ.cases_cons m))
    (λ e m. let (h, v) = copies-back n s a x rs m in (h, Memᴰ.tail v))

-- The head of the first rule decides whether it is copied.
pub copies-next : (n s : ℕ) (r : Rule) (rs : List Rule) {t : Bool} → eqb r.head s ≡ t
    → copies n s (r ∷ rs) ≡ pick t (record { head = n; body = r.body } ∷ copies n s rs) (copies n s rs)
unfolding copies
copies-next n s r rs e = ap (λ (t : Bool). pick t (record { head = n; body = r.body } ∷ copies n s rs) (copies n s rs)) e

-- Copies of raised rules are the copies, raised: all heads are raised alike.
raised-test : (m a s : ℕ) → eqb (m + a) (m + s) ≡ eqb a s
raised-test m a s =
    ⊎_elim
    (λ e. eq-eqb _ _ (ap (λ (n : ℕ). m + n) (eqb-true a s e)) ∙ sym e)
    (λ e. ne_eqb (m + a) (m + s) (λ q. eqb-false a s e (omega arith)) ∙ sym e)
    (true-or-false (eqb a s))

pub copies-raised : (n m s : ℕ) (c : ℕ → ℕ) (rs : List Rule) → copies n (m + s) (map (moved_rule (λ a. m + a) c) rs)
    ≡ map (λ (r : Rule). record { head = n; body = moved (λ a. m + a) c r.body }) (copies n s rs)
copies-raised n m s c [] = unfold copies in refl
copies-raised n m s c (r ∷ rs) =
    let rest = copies-raised n m s c rs in
    let test = raised-test m r.head s in
    let up : Rule → Rule = moved_rule (λ a. m + a) c in
    ⊎_elim
    (λ (e : eqb r.head s ≡ true). simp (copies-next n (m + s) (up r) (map up rs) (test ∙ e), copies-next n s r rs e, rest))
    (λ (e : eqb r.head s ≡ false). simp (copies-next n (m + s) (up r) (map up rs) (test ∙ e), copies-next n s r rs e, rest))
    (true-or-false (eqb r.head s))
