-- Numbers among the marked motifs: a marked motif below another has the smaller number, every number below their count is that of one, and
-- a motif that is newly marked makes the count greater.
use Prim.Native.Nat.{ℕ, zero, suc, ◌+◌, ◌/◌, ◌%◌, ◌^◌, ◌≤◌, ◌<◌}
use mathlib.Core.Path.{◌≡◌, refl, sym, ◌∙◌, ap, subst}
use mathlib.Core.Bool.{Bool, true, false}
use mathlib.Core.Logic.{◌⊎◌, inl, inr, ⊎_elim}
use native.Mathlib.Nat.{eq-or-lt_of_le, mod-lt}
use native.Mathlib.Omega.{arith}
use lib.Count.{ones, ones_cat, ones-ones}
use lib.Pow.{pow_pos, mod-pow-add}
use Rattle.names.specs.Pick.{pick}
use Rattle.names.proofs.Tests.{true-or-false, lt-or-le}
use Rattle.names.specs.Bits.{bit, is_set}
use Rattle.tidy.specs.Marks.{adding, rank}
use Rattle.tidy.proofs.Marks.{set-bit, unset-bit, set-added, set-still, added-already}

pub rank-set : (m n : ℕ) → is_set m n ≡ true → rank m (suc n) ≡ suc (rank m n)
unfolding rank
rank-set m n e = let z : ◌≡◌ {A = ℕ} (pick (is_set m n) 1 0) 1 = ap (λ (t : Bool). pick {A = ℕ} t 1 0) e in omega arith

pub rank-not : (m n : ℕ) → is_set m n ≡ false → rank m (suc n) ≡ rank m n
unfolding rank
rank-not m n e = let z : ◌≡◌ {A = ℕ} (pick (is_set m n) 1 0) 0 = ap (λ (t : Bool). pick {A = ℕ} t 1 0) e in omega arith

pub rank-le : (m n : ℕ) → rank m n ≤ n
rank-le m zero = unfold rank in omega arith
rank-le m (suc n) =
    ⊎_elim (λ e. omega (arith, rank-set m n e, rank-le m n)) (λ e. omega (arith, rank-not m n e, rank-le m n)) (true-or-false (is_set m n))

rank_up : (m n : ℕ) → rank m n ≤ rank m (suc n)
rank_up m n = ⊎_elim (λ e. omega (arith, rank-set m n e)) (λ e. omega (arith, rank-not m n e)) (true-or-false (is_set m n))

pub rank_mono : (m a n : ℕ) → a ≤ n → rank m a ≤ rank m n
rank_mono m a zero h = let e : a ≡ 0 = omega arith in rw e (omega arith)
rank_mono m a (suc n) h =
    ⊎_elim
    (λ (e : a ≡ suc n). rw e (omega arith))
    (λ (l : a < suc n). omega (arith, rank_up m n, rank_mono m a n (omega arith)))
    (eq-or-lt_of_le h)

pub rank_lt : (m a n : ℕ) → is_set m a ≡ true → a < n → rank m a < rank m n
rank_lt m a n e h = omega (arith, rank-set m a e, rank_mono m (suc a) n h)

pub rank-inj : (m a c : ℕ) → is_set m a ≡ true → is_set m c ≡ true → rank m a ≡ rank m c → a ≡ c
rank-inj m a c ea ec q =
    ⊎_elim
    (λ (l : a < c). absurd (omega (arith, rank_lt m a c ea l)))
    (λ (g : c ≤ a). ⊎_elim (λ (e : c ≡ a). sym e) (λ (l : c < a). absurd (omega (arith, rank_lt m c a ec l))) (eq-or-lt_of_le g))
    (lt-or-le a c)

pub rank-onto : (m k n : ℕ) → k < rank m n → (a : ℕ) × (a < n) × (is_set m a ≡ true) × (rank m a ≡ k)
rank-onto m k zero h = absurd (unfold rank in omega arith)
rank-onto m k (suc n) h =
    ⊎_elim
    (λ (l : k < rank m n). let (a, i, e, q) = rank-onto m k n l in (a, omega arith, e, q))
    (λ (g : rank m n ≤ k). ⊎_elim
    (λ e. (n, omega arith, e, omega (arith, rank-set m n e)))
    (λ e. absurd (omega (arith, rank-not m n e)))
    (true-or-false (is_set m n)))
    (lt-or-le k (rank m n))

-- the number is how many bits are set below
bit-ones : (m n : ℕ) → rank m (suc n) ≡ ones (bit m n) + rank m n
bit-ones m n =
    ⊎_elim
    (λ e. omega (arith, rank-set m n e, ap ones (set-bit m n e), ones-ones 1))
    (λ e. omega (arith, rank-not m n e, ap ones (unset-bit m n e), ones-ones 0))
    (true-or-false (is_set m n))

pub rank-ones : (m n : ℕ) → ones (m % 2 ^ n) ≡ rank m n
unfolding rank bit
rank-ones m zero = let none : m % 2 ^ 0 ≡ 0 = omega arith in ap ones none ∙ ones-ones 0
rank-ones m (suc n) =
    let one : 1 + n ≡ suc n = omega arith in
    let apart : ones (m % 2 ^ suc n) ≡ ones (m / 2 ^ n % 2 ^ 1) + ones (m % 2 ^ n) =
    ap (λ (k : ℕ). ones (m % 2 ^ k)) (sym one) ∙ ap ones (mod-pow-add m 1 n) ∙ ones_cat n (m / 2 ^ n % 2 ^ 1) (m % 2 ^ n) (mod-lt m (pow_pos n)) in
    apart ∙ ap (λ (k : ℕ). ones (m / 2 ^ n % 2 ^ 1) + k) (rank-ones m n) ∙ sym (bit-ones m n)

-- where all are marked, each keeps its number
pub rank-all : (m n : ℕ) → ((a : ℕ) → a < n → is_set m a ≡ true) → rank m n ≡ n
rank-all m zero h = unfold rank in refl
rank-all m (suc n) h = rank-set m n (h n (omega arith)) ∙ ap suc (rank-all m n (λ a i. h a (omega arith)))

-- with more motifs marked there are more
module _ (m w : ℕ) (more : (a : ℕ) → is_set m a ≡ true → is_set w a ≡ true) where
  rank-more : (n : ℕ) → rank m n ≤ rank w n
  rank-more zero = unfold rank in omega arith
  rank-more (suc n) =
      ⊎_elim
      (λ e. omega (arith, rank-set m n e, rank-set w n (more n e), rank-more n))
      (λ e. omega (arith, rank-not m n e, rank_up w n, rank-more n))
      (true-or-false (is_set m n))

  rank_less : (a n : ℕ) → a < n → is_set m a ≡ false → is_set w a ≡ true → rank m n < rank w n
  rank_less a zero h e f = absurd (omega arith)
  rank_less a (suc n) h e f =
      ⊎_elim
      (λ (q : suc a ≡ suc n). let p : a ≡ n = omega arith in
      omega (arith, rank-not m n (subst (λ (k : ℕ). is_set m k ≡ false) p e), rank-set w n (subst (λ (k : ℕ). is_set w k ≡ true) p f), rank-more n))
      (λ (l : suc a < suc n). let i = rank_less a n (omega arith) e f in ⊎_elim
      (λ u. omega (arith, rank-set m n u, rank-set w n (more n u)))
      (λ u. omega (arith, rank-not m n u, rank_up w n))
      (true-or-false (is_set m n)))
      (eq-or-lt_of_le h)

pub rank-grows : (n m a : ℕ) → a < n → (adding m a ≡ m) ⊎ (rank m n < rank (adding m a) n)
rank-grows n m a h =
    ⊎_elim
    (λ e. inl (added-already m a e))
    (λ e. inr (rank_less m (adding m a) (λ x. set-still m a x) a n h e (set-added m a)))
    (true-or-false (is_set m a))
