-- What callers use of a name that was read: it is whole exactly where it lies within the input and each of its bytes may stand in a name.
use Prim.Native.Nat.{ℕ, zero, suc, ◌+◌, ◌<◌, ◌≤◌}
use mathlib.Core.Path.{◌≡◌, refl, subst}
use mathlib.Core.List.{List}
use native.Mathlib.Omega.{arith}
use borrow.Author.Tests.{ltb-false, leb-true, leb-false, lt-leb, le-ltb}
use borrow.Author.Count.{below_none, below_more}
use lib.ListN.{length, get_or}
use lib.Dec.{ltb, leb}
use Rattle.names.specs.Name.{least_byte, Shown, name_from, name_of}
use Rattle.names.specs.Reads.{AllShown}
use Rattle.names.specs.NameRead.{NameRead}
use Rattle.names.specs.NameRead.{Whole, Ends, Bad}
use Rattle.names.proofs.Picking.{pick_ind}

-- a whole name lies within the input, a name that is cut short reaches its end, and a bad byte lies within both
abbrev Found : List ℕ → ℕ → NameRead → Type 0
Found s n Whole = (n ≤ length s) × AllShown s n n
Found s n Ends = length s ≤ n
Found s n (Bad k) = (k < length s) × (k < n)

found_from : (s : List ℕ) (i n k : ℕ) → i + k ≡ n → i ≤ length s → AllShown s n i → Found s n (name_from s n i k)
found_from s i n zero p h g = (omega arith, λ j l. g j (omega arith))
found_from s i n (suc k) p h g =
    pick_ind (Found s n) (leb (length s) i) _ _ (λ a. omega (arith, leb-true (length s) i a))
    (λ a. pick_ind (Found s n) (ltb (get_or s i 0) (least_byte n i)) _ _ (λ _. (leb-false _ _ a, omega arith))
    (λ b. pick_ind (Found s n) (ltb 126 (get_or s i 0)) _ _ (λ _. (leb-false _ _ a, omega arith))
    (λ d. found_from s (i + 1) n k (omega arith) (omega (arith, leb-false))
    (below_more (λ (j : ℕ). Shown n j (get_or s j 0)) i g (record { low = ltb-false _ _ b; high = ltb-false _ _ d })))))

found : (s : List ℕ) (n : ℕ) → Found s n (name_of s n)
unfolding name_of
found s n = found_from s 0 n n (omega arith) (omega arith) (below_none (λ (j : ℕ). Shown n j (get_or s j 0)))

pub name-whole : (s : List ℕ) (n : ℕ) → name_of s n ≡ Whole → (n ≤ length s) × AllShown s n n
name-whole s n e = subst (Found s n) e (found s n)

pub name-ends : (s : List ℕ) (n : ℕ) → name_of s n ≡ Ends → length s ≤ n
name-ends s n e = subst (Found s n) e (found s n)

pub name-bad : (s : List ℕ) (n k : ℕ) → name_of s n ≡ Bad k → (k < length s) × (k < n)
name-bad s n k e = subst (Found s n) e (found s n)

good-from : (s : List ℕ) (i n k : ℕ) → i + k ≡ n → n ≤ length s → AllShown s n n → name_from s n i k ≡ Whole
good-from s i n zero p h g = refl
good-from s i n (suc k) p h g =
    let a : i < length s = omega arith in
    let b = g i (omega arith) in
    simp (lt-leb _ _ a, le-ltb _ _ b.low, le-ltb _ _ b.high) (good-from s (i + 1) n k (omega arith) h g)

pub name-good : (s : List ℕ) (n : ℕ) → n ≤ length s → AllShown s n n → name_of s n ≡ Whole
unfolding name_of
name-good s n h g = good-from s 0 n n (omega arith) h g
