-- The rules of a combination are told apart by their heads: those of the first book lie below its count of motifs, those of the second, raised,
-- from there up to both counts, and the new ones after that.
use Prim.Native.Nat.{ℕ, ◌+◌, ◌≤◌, ◌<◌}
use mathlib.Core.Path.{ap}
use mathlib.Core.List.Memᴰ
use mathlib.Core.List.{List, [], ◌∷◌, ◌++◌, Memᴰ}
use mathlib.Core.Logic.{⊎_elim}
use native.Mathlib.Omega.{arith}
use Rattle.books.specs.Contents.{Contents}
use Rattle.books.specs.Keeps.{Sound}
use Rattle.books.specs.declared.rule.Rule.{Rule}
use Rattle.books.specs.declared.rule.Body.{Body}
use Rattle.families.specs.Combine.{raised, copies}
use Rattle.families.proofs.Copying.{copies-back}

-- Every rule of a list has a head below n, or from n on.
abbrev pub HeadsBelow : ℕ → List Rule → Type 0
HeadsBelow n rs = (r : Rule) → Memᴰ r rs → r.head < n

abbrev pub HeadsFrom : ℕ → List Rule → Type 0
HeadsFrom n rs = (r : Rule) → Memᴰ r rs → n ≤ r.head

pub heads-own : (f : Contents) → Sound f → HeadsBelow f.motifs f.rules
heads-own f sf r m = (sf.rules_fit r m).head_fits

pub heads-raised : (f g : Contents) → HeadsFrom f.motifs (raised f g)
heads-raised f g r m = let (q, _, e) = Memᴰ.of_map _ g.rules m in omega (arith, ap (λ (z : Rule). z.head) e)

pub heads-raised-below : (f g : Contents) → Sound g → HeadsBelow (f.motifs + g.motifs) (raised f g)
heads-raised-below f g sg r m =
    let (q, u, e) = Memᴰ.of_map _ g.rules m in
    omega (arith, ap (λ (z : Rule). z.head) e, (sg.rules_fit q u).head_fits)

pub heads-copies : (n a s : ℕ) (rs : List Rule) → n ≤ a → HeadsFrom n (copies a s rs)
heads-copies n a s rs h r m = omega (arith, (copies-back a s r.head r.body rs m).0)

pub heads-one : (n a : ℕ) (x : Body) → n ≤ a → HeadsFrom n (record { head = a; body = x } ∷ [])
heads-one n a x h r m = omega (arith, ap (λ (z : Rule). z.head) (Memᴰ.eq_of_singleton m))

pub heads-append : (n : ℕ) (xs ys : List Rule) → HeadsFrom n xs → HeadsFrom n ys → HeadsFrom n (xs ++ ys)
heads-append n xs ys hx hy r m = ⊎_elim (hx r) (hy r) (Memᴰ.append_cases xs m)

pub heads-more : (m n : ℕ) (xs : List Rule) → m ≤ n → HeadsFrom n xs → HeadsFrom m xs
heads-more m n xs h hx r u = omega (arith, hx r u)

-- A rule of two lists stands in the one that its head says.
pub in_first : (n : ℕ) (xs ys : List Rule) → HeadsFrom n ys → (r : Rule) → r.head < n → Memᴰ r (xs ++ ys) → Memᴰ r xs
in_first n xs ys hy r h m = ⊎_elim (λ u. u) (λ v. absurd (omega (arith, hy r v))) (Memᴰ.append_cases xs m)

pub in_rest : (n : ℕ) (xs ys : List Rule) → HeadsBelow n xs → (r : Rule) → n ≤ r.head → Memᴰ r (xs ++ ys) → Memᴰ r ys
in_rest n xs ys hx r h m = ⊎_elim (λ u. absurd (omega (arith, hx r u))) (λ v. v) (Memᴰ.append_cases xs m)
