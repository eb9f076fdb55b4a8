-- What callers use of a number that was read: where it lies, its bounds, and that a refusal has a number and a place within the input.
-- Each law goes through the ways in which reading can end.
use Prim.Native.Nat.{ℕ, ◌+◌, ◌*◌, ◌%◌, ◌<◌, ◌≤◌}
use mathlib.Core.Path.{◌≡◌, subst}
use mathlib.Core.List.{List}
use native.Mathlib.Omega.{arith}
use borrow.Author.Tests.{ltb-true, ltb-false, leb-true, leb-false, eqb-false, lt-ltb, le-ltb}
use lib.ListN.{length, get_or}
use lib.Dec.{ltb, leb, eqb}
use Rattle.names.specs.Pick.{fault, ReadersNumber}
use Rattle.names.specs.Number.{greatest_number, last_group, longer_at, number_at, number_in, number_below}
use Rattle.names.specs.Fault.{Fault}
use Rattle.names.specs.Read.{Read}
use Rattle.names.specs.Read.{Value, Refused}
use Rattle.names.proofs.Picking.{pick_ind}
use Rattle.names.proofs.Onwards.{onward-ind}

-- a refusal: an answer number from 1 on that the reader gives, with a place within the input and not past a limit
pub record BlamedBy (Known : ℕ → Type 0) (s : List ℕ) (limit : ℕ) (f : Fault) : Type 0 where
  pub some : 1 ≤ f.number
  pub known : Known f.number
  pub inside : f.place ≤ length s
  pub near : f.place ≤ limit

-- ... 1 to 8
abbrev pub Blamed : List ℕ → ℕ → Fault → Type 0
Blamed = BlamedBy ReadersNumber

-- a later limit serves too
pub blamed-later : {Known : ℕ → Type 0} {s : List ℕ} {m n : ℕ} {f : Fault} → m ≤ n → BlamedBy Known s m f → BlamedBy Known s n f
blamed-later h b = record { some = b.some; known = b.known; inside = b.inside; near = omega (arith, b.near) }

-- the ways in which reading a number ends
pub number-cases : (P : Read → Type 0) (s : List ℕ) (at : ℕ)
    → (length s ≤ at + 2 → P (Refused (fault 1 (length s)))) → (at < length s → P (Refused (fault 2 at)))
    → (at < length s → get_or s at 0 < 128 → P (Value (get_or s at 0) (at + 1)))
    → (at + 1 < length s → 128 ≤ get_or s at 0 → 0 < get_or s (at + 1) 0 → get_or s (at + 1) 0 < 128
    → P (Value (get_or s at 0 % 128 + 128 * get_or s (at + 1) 0) (at + 2)))
    → (at + 2 < length s → 128 ≤ get_or s at 0 → 128 ≤ get_or s (at + 1) 0 → 0 < get_or s (at + 2) 0 → get_or s (at + 2) 0 < 128
    → P (Value (get_or s at 0 % 128 + 128 * (get_or s (at + 1) 0 % 128) + 16384 * get_or s (at + 2) 0) (at + 3)))
    → P (number_at s at)
unfolding number_at longer_at last_group
number-cases P s at ends misspelt one two three =
    pick_ind P (leb (length s) at) _ _ (λ a. ends (omega (arith, leb-true (length s) at a)))
    (λ a. pick_ind P (ltb (get_or s at 0) 128) _ _ (λ b. one (leb-false _ _ a) (ltb-true _ _ b))
    (λ b. pick_ind P (leb (length s) (at + 1)) _ _ (λ d. ends (omega (arith, leb-true (length s) (at + 1) d)))
    (λ d. pick_ind P (ltb (get_or s (at + 1) 0) 128) _ _
    (λ f. pick_ind P (eqb (get_or s (at + 1) 0) 0) _ _ (λ _. misspelt (leb-false _ _ a))
    (λ e. two (leb-false _ _ d) (ltb-false _ _ b) (omega (arith, eqb-false (get_or s (at + 1) 0) 0 e)) (ltb-true _ _ f)))
    (λ f. pick_ind P (leb (length s) (at + 2)) _ _ (λ g. ends (leb-true _ _ g))
    (λ g. pick_ind P (ltb (get_or s (at + 2) 0) 128) _ _
    (λ h. pick_ind P (eqb (get_or s (at + 2) 0) 0) _ _ (λ _. misspelt (leb-false _ _ a))
    (λ e. three (leb-false _ _ g) (ltb-false _ _ b) (ltb-false _ _ f) (omega (arith, eqb-false (get_or s (at + 2) 0) 0 e)) (ltb-true _ _ h)))
    (λ _. misspelt (leb-false _ _ a)))))))

-- a number lies after its place and within the input, and takes a few bytes
pub record Lies (s : List ℕ) (at next : ℕ) : Type 0 where
  pub after : at < next
  pub inside : next ≤ length s
  pub near : next ≤ at + 3

abbrev Found : List ℕ → ℕ → Read → Type 0
Found s at (Value v next) = Lies s at next × (v ≤ greatest_number)
Found s at (Refused f) = Blamed s (at + 2) f

found : (s : List ℕ) (at : ℕ) → Found s at (number_at s at)
found s at =
    number-cases (Found s at) s at (λ a. omega arith) (λ a. omega arith) (λ a b. (omega arith, omega arith))
    (λ a b d e. (omega arith, omega arith))
    (λ a b d e f. (omega arith, omega arith))

pub number-lies : (s : List ℕ) (at v next : ℕ) → number_at s at ≡ Value v next → Lies s at next
number-lies s at v next e = (subst (Found s at) e (found s at)).0

-- three groups make no greater number
pub number-most : (s : List ℕ) (at v next : ℕ) → number_at s at ≡ Value v next → v ≤ greatest_number
number-most s at v next e = (subst (Found s at) e (found s at)).1

pub number-refused : (s : List ℕ) (at : ℕ) (f : Fault) → number_at s at ≡ Refused f → Blamed s (at + 2) f
number-refused s at f e = subst (Found s at) e (found s at)

-- A number in a range is the number that stands there, and in the range; a refusal is placed as before.
abbrev Ranged : List ℕ → ℕ → ℕ → ℕ → Read → Read → Type 0
Ranged s at least most r (Value v next) = (r ≡ Value v next) × (least ≤ v) × (v ≤ most)
Ranged s at least most r (Refused f) = Blamed s (at + 2) f

ranged : (s : List ℕ) (at least most : ℕ) → Ranged s at least most (number_at s at) (number_in s at least most)
unfolding number_in
ranged s at least most =
    let P = Ranged s at least most (number_at s at) in
    onward-ind P Refused (number_at s at) _ (number-refused s at)
    (λ v next e.
    let l = number-lies s at v next e in
    pick_ind P (ltb v least) _ _ (λ _. omega arith)
    (λ a. pick_ind P (ltb most v) _ _ (λ _. omega arith) (λ b. (e, ltb-false _ _ a, ltb-false _ _ b))))

pub number-there : (s : List ℕ) (at least most v next : ℕ) → number_in s at least most ≡ Value v next → number_at s at ≡ Value v next
number-there s at least most v next e = (subst (Ranged s at least most (number_at s at)) e (ranged s at least most)).0

-- what a number in a range gives
pub record LiesIn (s : List ℕ) (at least most v next : ℕ) : Type 0 where
  pub after : at < next
  pub inside : next ≤ length s
  pub near : next ≤ at + 3
  pub low : least ≤ v
  pub high : v ≤ most

pub number_in_lem : (s : List ℕ) (at least most v next : ℕ) → number_in s at least most ≡ Value v next → LiesIn s at least most v next
number_in_lem s at least most v next e =
    let r = subst (Ranged s at least most (number_at s at)) e (ranged s at least most) in
    let l = number-lies s at v next r.0 in
    record { after = l.after; inside = l.inside; near = l.near; low = r.1; high = r.2 }

pub number_in-refused : (s : List ℕ) (at least most : ℕ) (f : Fault) → number_in s at least most ≡ Refused f → Blamed s (at + 2) f
number_in-refused s at least most f e = subst (Ranged s at least most (number_at s at)) e (ranged s at least most)

-- a number that stands there and is in the range
pub number_in-range : (s : List ℕ) (at least most v next : ℕ) → number_at s at ≡ Value v next → least ≤ v → v ≤ most → number_in s at least most ≡ Value v next
unfolding number_in
number_in-range s at least most v next e l h = simp (e, le-ltb v least l, le-ltb most v h)

-- A number below a count is the number that stands there, and below it; a refusal has its field's number, from 1 to 8.
abbrev Counted : List ℕ → ℕ → ℕ → ℕ → Read → Read → Type 0
Counted s at count refusal r (Value v next) = (r ≡ Value v next) × (v < count)
Counted s at count refusal r (Refused f) = 1 ≤ refusal → ReadersNumber refusal → Blamed s (at + 2) f

counted : (s : List ℕ) (at count refusal : ℕ) → Counted s at count refusal (number_at s at) (number_below s at count refusal)
unfolding number_below
counted s at count refusal =
    let P = Counted s at count refusal (number_at s at) in
    onward-ind P Refused (number_at s at) _ (λ f e _ _. number-refused s at f e)
    (λ v next e.
    let g = number-lies s at v next e in
    pick_ind P (ltb v count) _ _ (λ t. (e, ltb-true v count t)) (λ _ l h. omega arith))

pub record LiesBelow (s : List ℕ) (at count v next : ℕ) : Type 0 where
  pub after : at < next
  pub inside : next ≤ length s
  pub near : next ≤ at + 3
  pub low : v < count

pub number_below-there : (s : List ℕ) (at count refusal v next : ℕ) → number_below s at count refusal ≡ Value v next → number_at s at ≡ Value v next
number_below-there s at count refusal v next e = (subst (Counted s at count refusal (number_at s at)) e (counted s at count refusal)).0

pub number_below_lem : (s : List ℕ) (at count refusal v next : ℕ) → number_below s at count refusal ≡ Value v next → LiesBelow s at count v next
number_below_lem s at count refusal v next e =
    let r = subst (Counted s at count refusal (number_at s at)) e (counted s at count refusal) in
    let l = number-lies s at v next r.0 in
    record { after = l.after; inside = l.inside; near = l.near; low = r.1 }

pub number_below-refused : (s : List ℕ) (at count refusal : ℕ) (f : Fault) → number_below s at count refusal ≡ Refused f → 1 ≤ refusal → ReadersNumber refusal → Blamed s (at + 2) f
number_below-refused s at count refusal f e = subst (Counted s at count refusal (number_at s at)) e (counted s at count refusal)

pub number_below-count : (s : List ℕ) (at count refusal v next : ℕ) → number_at s at ≡ Value v next → v < count → number_below s at count refusal ≡ Value v next
unfolding number_below
number_below-count s at count refusal v next e l = simp (e, lt-ltb v count l)
