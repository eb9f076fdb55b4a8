-- Of equal rules the first is left: every rule is there, and none twice. So what is left stays as it is when it is gone through again.
use Prim.Native.Nat.{◌≤◌}
use mathlib.Core.Path.{◌≡◌, refl, sym, ◌∙◌, ap}
use mathlib.Core.Bool.{Bool, true≢false}
use mathlib.Core.List.Memᴰ
use mathlib.Core.List.{List, [], ◌∷◌, ◌++◌, map, append-nil, append_assoc, Memᴰ}
use mathlib.Core.Logic.{◌⊎◌, inl, inr, ⊎_elim}
use native.Mathlib.Omega.{arith}
use lib.ListN.{length}
use Rattle.names.specs.Pick.{pick}
use Rattle.names.proofs.Picking.{pick_ind}
use Rattle.names.specs.Spelling.{Distinct}
use Rattle.names.proofs.Tests.{not-true-false}
use Rattle.books.specs.Equal.{stands, firsts}
use Rattle.books.specs.declared.rule.Rule.{Rule}
use Rattle.books.proofs.EqualRules.{stands-back, stands-forth}

-- ── Every rule ──

-- the first of the rules that follow: an equal one stands earlier, or it is left
here : (before : List Rule) (r : Rule) (rs : List Rule) (x : Rule) → x ≡ r → Memᴰ x before ⊎ Memᴰ x (firsts before (r ∷ rs))
unfolding firsts
here before r rs x q =
    pick_ind (λ (l : List Rule). Memᴰ x before ⊎ Memᴰ x l) (stands before r)
    (firsts (before ++ (r ∷ [])) rs) (r ∷ firsts (before ++ (r ∷ [])) rs)
    (λ e. inl (Memᴰ.cast q (stands-back before r e)))
    (λ _. inr (Memᴰ.head q))

later : (before : List Rule) (r : Rule) (rs : List Rule) (x : Rule) → Memᴰ x (firsts (before ++ (r ∷ [])) rs) → Memᴰ x (firsts before (r ∷ rs))
unfolding firsts
later before r rs x i =
    pick_ind (Memᴰ x) (stands before r) (firsts (before ++ (r ∷ [])) rs) (r ∷ firsts (before ++ (r ∷ [])) rs) (λ _. i) (λ _. Memᴰ.tail i)

firsts-all : (before rs : List Rule) (x : Rule) → Memᴰ x rs → Memᴰ x before ⊎ Memᴰ x (firsts before rs)
firsts-all before [] x i = absurd (Memᴰ.not-nil i)
firsts-all before (r ∷ rs) x i =
    ⊎_elim
    (here before r rs x)
    (λ u. ⊎_elim
    (λ v. ⊎_elim (λ w. inl w) (λ w. here before r rs x (Memᴰ.eq_of_singleton w)) (Memᴰ.append_cases before v))
    (λ v. inr (later before r rs x v))
    (firsts-all (before ++ (r ∷ [])) rs x u))
    (Memᴰ.cases_cons i)

pub firsts-forth : (rs : List Rule) (x : Rule) → Memᴰ x rs → Memᴰ x (firsts [] rs)
firsts-forth rs x i = ⊎_elim (λ u. absurd (Memᴰ.not-nil u)) (λ u. u) (firsts-all [] rs x i)

pub firsts-back : (before rs : List Rule) (x : Rule) → Memᴰ x (firsts before rs) → Memᴰ x rs
unfolding firsts
firsts-back before [] x = λ i. i
firsts-back before (r ∷ rs) x =
    pick_ind (λ (l : List Rule). Memᴰ x l → Memᴰ x (r ∷ rs)) (stands before r)
    (firsts (before ++ (r ∷ [])) rs) (r ∷ firsts (before ++ (r ∷ [])) rs)
    (λ _ i. Memᴰ.tail (firsts-back (before ++ (r ∷ [])) rs x i))
    (λ _ i. ⊎_elim (λ (q : x ≡ r). Memᴰ.head q) (λ u. Memᴰ.tail (firsts-back (before ++ (r ∷ [])) rs x u)) (Memᴰ.cases_cons i))

pub firsts-length : (before rs : List Rule) → length (firsts before rs) ≤ length rs
unfolding firsts
firsts-length before [] = omega arith
firsts-length before (r ∷ rs) =
    pick_ind (λ (l : List Rule). length l ≤ length (r ∷ rs)) (stands before r) (firsts (before ++ (r ∷ [])) rs) (r ∷ firsts (before ++ (r ∷ [])) rs)
    (λ _. omega (arith, firsts-length (before ++ (r ∷ [])) rs)) (λ _. omega (arith, firsts-length (before ++ (r ∷ [])) rs))

-- ── None twice ──

-- what is left stands not earlier
firsts-new : (before rs : List Rule) (x : Rule) → Memᴰ x (firsts before rs) → Memᴰ x before → ⊥
unfolding firsts
firsts-new before [] x = λ i _. Memᴰ.not-nil i
firsts-new before (r ∷ rs) x =
    let next = before ++ (r ∷ []) in
    pick_ind (λ (l : List Rule). Memᴰ x l → Memᴰ x before → ⊥) (stands before r) (firsts next rs) (r ∷ firsts next rs)
    (λ _ i j. firsts-new next rs x i (Memᴰ.append_left (r ∷ []) j))
    (λ e i j. ⊎_elim
    (λ (q : x ≡ r). true≢false (sym (stands-forth before r (Memᴰ.cast (sym q) j)) ∙ e))
    (λ u. firsts-new next rs x u (Memᴰ.append_left (r ∷ []) j))
    (Memᴰ.cases_cons i))

pub firsts-distinct : (before rs : List Rule) → Distinct (firsts before rs)
unfolding firsts
firsts-distinct before [] = tt
firsts-distinct before (r ∷ rs) =
    let next = before ++ (r ∷ []) in
    pick_ind Distinct (stands before r) (firsts next rs) (r ∷ firsts next rs)
    (λ _. firsts-distinct next rs)
    (λ _. (λ i. firsts-new next rs r i (Memᴰ.append_right before (Memᴰ.head refl)), firsts-distinct next rs))

-- rules of which none stands twice, nor earlier, are all left
pub distinct-left : (before rs : List Rule) → Distinct rs → ((x : Rule) → Memᴰ x rs → Memᴰ x before → ⊥) → firsts before rs ≡ rs
unfolding firsts
distinct-left before [] f none = refl
distinct-left before (r ∷ rs) f none =
    let next = before ++ (r ∷ []) in
    ap (λ (t : Bool). pick t (firsts next rs) (r ∷ firsts next rs))
    (not-true-false (stands before r) (λ e. none r (Memᴰ.head refl) (stands-back before r e)))
    ∙ ap (λ (l : List Rule). r ∷ l) (distinct-left next rs f.1 (λ x i j. ⊎_elim
    (none x (Memᴰ.tail i))
    (λ w. f.0 (Memᴰ.cast (sym (Memᴰ.eq_of_singleton w)) i))
    (Memᴰ.append_cases before j)))

pub firsts_same : (rs : List Rule) → Distinct rs → firsts [] rs ≡ rs
firsts_same rs f = distinct-left [] rs f (λ x _ j. Memᴰ.not-nil j)

-- what is left of two lists, one after the other
pub firsts-append : (before xs ys : List Rule) → firsts before (xs ++ ys) ≡ firsts before xs ++ firsts (before ++ xs) ys
unfolding firsts
firsts-append before [] ys = ap (λ (l : List Rule). firsts l ys) (sym (append-nil before))
firsts-append before (r ∷ xs) ys =
    let next : List Rule = before ++ (r ∷ []) in
    let rest : firsts next (xs ++ ys) ≡ firsts next xs ++ firsts (before ++ (r ∷ xs)) ys =
    firsts-append next xs ys ∙ ap (λ (l : List Rule). firsts next xs ++ firsts l ys) (append_assoc before (r ∷ []) xs) in
    pick_ind (λ (l : List Rule). l ≡ pick (stands before r) (firsts next xs) (r ∷ firsts next xs) ++ firsts (before ++ (r ∷ xs)) ys) (stands before r)
    (firsts next (xs ++ ys)) (r ∷ firsts next (xs ++ ys))
    (λ e. rw e rest)
    (λ e. rw e (ap (λ (l : List Rule). r ∷ l) rest))

-- rules that are told apart after a change stand not twice after it
pub map-distinct : (f : Rule → Rule) (rs : List Rule) → ((q r : Rule) → Memᴰ q rs → Memᴰ r rs → f q ≡ f r → q ≡ r) → Distinct rs → Distinct (map f rs)
map-distinct f [] one a = tt
map-distinct f (r ∷ rs) one a = (
  λ i. let (q, j, e) = Memᴰ.of_map f rs i in
      a.0 (Memᴰ.cast (sym (one q r (Memᴰ.tail j) (Memᴰ.head refl) e)) j),
  map-distinct f rs (λ q z i j. one q z (Memᴰ.tail i) (Memᴰ.tail j)) a.1,
)
