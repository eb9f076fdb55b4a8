-- A number's spelling reads back as the number, and whatever is read as a number is its spelling: each number has one spelling.
use Prim.Native.Nat.{ℕ, suc, ◌+◌, ◌*◌, ◌/◌, ◌%◌, ◌<◌, ◌≤◌}
use mathlib.Core.Path.{◌≡◌, subst, subst₂, sym, ap, ◌∙◌}
use mathlib.Core.List.{List, [], ◌∷◌, ◌++◌}
use mathlib.Core.Logic.{⊎_elim}
use native.Mathlib.Omega.{arith}
use native.Mathlib.Numerals.{add-one}
use borrow.Author.Tests.{lt-ltb, le-ltb, lt-leb, le-leb, ne_eqb}
use lib.ListN.{length, get_or, take, drop, length-append, take-append-drop}
use lib.Seq.{length-take-le, get_or-append_seam, get_or-append-add, drop-cons}
use Rattle.names.specs.Bytes.{Bytes}
use Rattle.names.specs.Number.{greatest_number, last_group, longer_at, number_at, spell_number}
use Rattle.names.specs.Read.{Read}
use Rattle.names.specs.Read.{Value, Refused}
use Rattle.names.proofs.Tests.{lt-or-le}
use Rattle.names.proofs.ReadingNumbers.{number-cases}

pub spell_one : (v : ℕ) → v < 128 → spell_number v ≡ v ∷ []
unfolding spell_number
spell_one v h = simp (lt-ltb _ _ h)

pub spell-two : (v : ℕ) → 128 ≤ v → v < 16384 → spell_number v ≡ (128 + v % 128) ∷ (v / 128) ∷ []
unfolding spell_number
spell-two v h g = simp (le-ltb _ _ h, lt-ltb _ _ g)

pub spell-three : (v : ℕ) → 16384 ≤ v → v ≤ greatest_number → spell_number v ≡ (128 + v % 128) ∷ (128 + v / 128 % 128) ∷ (v / 16384) ∷ []
unfolding spell_number
spell-three v h g = let big : 128 ≤ v = omega arith in simp (le-ltb _ _ big, le-ltb _ _ h, le-leb _ _ g)

pub spell-none : (v : ℕ) → greatest_number < v → spell_number v ≡ []
unfolding spell_number
spell-none v h =
    let big : 128 ≤ v = omega arith in
    let more : 16384 ≤ v = omega arith in
    simp (le-ltb _ _ big, le-ltb _ _ more, lt-leb _ _ h)

-- a spelling has one byte where one will do, more from 128 on, three from 16,384 on, and never more
pub spell-short : (v : ℕ) → v < 128 → length (spell_number v) ≡ 1
spell-short v h = ap length (spell_one v h)

pub spell-long : (v : ℕ) → 128 ≤ v → v ≤ greatest_number → 2 ≤ length (spell_number v)
spell-long v h g =
    ⊎_elim (λ (l : v < 16384). omega (arith, ap length (spell-two v h l)))
    (λ (l : 16384 ≤ v). omega (arith, ap length (spell-three v l g)))
    (lt-or-le v 16384)

pub spell-longest : (v : ℕ) → 16384 ≤ v → v ≤ greatest_number → length (spell_number v) ≡ 3
spell-longest v h g = ap length (spell-three v h g)

pub spell-few : (v : ℕ) → length (spell_number v) ≤ 3
spell-few v =
    ⊎_elim (λ (h : v < 128). omega (arith, spell-short v h))
    (λ (h : 128 ≤ v). ⊎_elim (λ (l : v < 16384). omega (arith, ap length (spell-two v h l)))
    (λ (l : 16384 ≤ v). ⊎_elim (λ (m : greatest_number < v). omega (arith, ap length (spell-none v m)))
    (λ (m : v ≤ greatest_number). omega (arith, ap length (spell-three v l m)))
    (lt-or-le greatest_number v))
    (lt-or-le v 16384))
    (lt-or-le v 128)

-- Reading a spelling gives the number back, with the place after it.
module _ (a b : List ℕ) where
  reads-one : (n : ℕ) → n < 128 → number_at (a ++ n ∷ b) (length a) ≡ Value n (length a + 1)
  unfolding number_at
  reads-one n h =
      let len : length (a ++ n ∷ b) ≡ length a + suc (length b) = length-append a (n ∷ b) in
      simp (lt-leb (length (a ++ n ∷ b)) (length a) (omega arith), get_or-append_seam, lt-ltb n 128 h)

  reads_two : (l h : ℕ) → l < 128 → 0 < h → h < 128 → number_at (a ++ (128 + l) ∷ h ∷ b) (length a) ≡ Value (l + 128 * h) (length a + 2)
  unfolding number_at longer_at last_group
  reads_two l h p q r =
      let s = a ++ (128 + l) ∷ h ∷ b in
      let len : length s ≡ length a + suc (suc (length b)) = length-append a ((128 + l) ∷ h ∷ b) in
      let low : (128 + l) % 128 ≡ l = omega arith in
      let first : 128 ≤ 128 + l = omega arith in
      let some : h ≡ 0 → ⊥ = omega arith in
      simp (
        lt-leb (length s) (length a) (omega arith),
        lt-leb (length s) (length a + 1) (omega arith),
        get_or-append_seam,
        get_or-append-add,
        le-ltb (128 + l) 128 first,
        lt-ltb h 128 r,
        ne_eqb h 0 some,
        low,
      )

  reads_three : (l m h : ℕ) → l < 128 → m < 128 → 0 < h → h < 128
      → number_at (a ++ (128 + l) ∷ (128 + m) ∷ h ∷ b) (length a) ≡ Value (l + 128 * m + 16384 * h) (length a + 3)
  unfolding number_at longer_at last_group
  reads_three l m h p q r t =
      let s = a ++ (128 + l) ∷ (128 + m) ∷ h ∷ b in
      let len : length s ≡ length a + suc (suc (suc (length b))) = length-append a ((128 + l) ∷ (128 + m) ∷ h ∷ b) in
      let low : (128 + l) % 128 ≡ l = omega arith in
      let middle : (128 + m) % 128 ≡ m = omega arith in
      let first : 128 ≤ 128 + l = omega arith in
      let second : 128 ≤ 128 + m = omega arith in
      let some : h ≡ 0 → ⊥ = omega arith in
      simp (
        lt-leb (length s) (length a) (omega arith),
        lt-leb (length s) (length a + 1) (omega arith),
        lt-leb (length s) (length a + 2) (omega arith),
        get_or-append_seam,
        get_or-append-add,
        le-ltb (128 + l) 128 first,
        le-ltb (128 + m) 128 second,
        lt-ltb h 128 t,
        ne_eqb h 0 some,
        low,
        middle,
      )

  number-reads : (n : ℕ) → n ≤ greatest_number → number_at (a ++ (spell_number n ++ b)) (length a) ≡ Value n (length a + length (spell_number n))
  number-reads n g =
      ⊎_elim (λ (l : n < 128). rw (spell_one n l) (reads-one n l))
      (λ (l : 128 ≤ n). ⊎_elim
      (λ (h : n < 16384). let whole : n % 128 + 128 * (n / 128) ≡ n = omega arith in
      rw (spell-two n l h) (rw whole at (reads_two (n % 128) (n / 128) (omega arith) (omega arith) (omega arith))))
      (λ (h : 16384 ≤ n). let whole : n % 128 + 128 * (n / 128 % 128) + 16384 * (n / 16384) ≡ n = omega arith in
      rw (spell-three n h g) (rw whole at (reads_three (n % 128) (n / 128 % 128) (n / 16384) (omega arith) (omega arith) (omega arith) (omega arith))))
      (lt-or-le n 16384))
      (lt-or-le n 128)

-- the same of a spelling that stands at a place
pub number-reads-at : (s b : List ℕ) (at n : ℕ) → at ≤ length s → n ≤ greatest_number → drop at s ≡ spell_number n ++ b → number_at s at ≡ Value n (at + length (spell_number n))
number-reads-at s b at n h l e =
    let len : length (take at s) ≡ at = length-take-le at s h in
    let whole : take at s ++ (spell_number n ++ b) ≡ s = ap (λ (x : List ℕ). take at s ++ x) (sym e) ∙ take-append-drop at s in
    subst₂ (λ (x : List ℕ) (i : ℕ). number_at x i ≡ Value n (i + length (spell_number n))) whole len (number-reads (take at s) b n l)

-- Whatever is read is the spelling of its value.

drop-two : (s : List ℕ) (at : ℕ) → at + 1 < length s → drop at s ≡ get_or s at 0 ∷ get_or s (at + 1) 0 ∷ drop (at + 2) s
drop-two s at h =
    let one : at < length s = omega arith in
    let two : at + 2 ≡ suc (at + 1) = omega arith in
    drop-cons s at 0 one ∙ ap (λ (l : List ℕ). get_or s at 0 ∷ l) (rw (two, ← add-one at) (drop-cons s (at + 1) 0 h))

drop-three : (s : List ℕ) (at : ℕ) → at + 2 < length s → drop at s ≡ get_or s at 0 ∷ get_or s (at + 1) 0 ∷ get_or s (at + 2) 0 ∷ drop (at + 3) s
drop-three s at h =
    let two : at + 1 < length s = omega arith in
    let three : at + 3 ≡ suc (at + 2) = omega arith in
    drop-two s at two ∙ ap (λ (l : List ℕ). get_or s at 0 ∷ get_or s (at + 1) 0 ∷ l) (rw three (drop-cons s (at + 2) 0 h))

module _ (s : List ℕ) (bytes : Bytes s) (at : ℕ) where
  abbrev Spelled : Read → Type 0
  Spelled (Value v n) = drop at s ≡ spell_number v ++ drop n s
  Spelled (Refused f) = Unit {0}

  spelled-one : at < length s → get_or s at 0 < 128 → Spelled (Value (get_or s at 0) (at + 1))
  spelled-one h b = rw (spell_one _ b, add-one) (drop-cons s at 0 h)

  spelled-two : at + 1 < length s → 128 ≤ get_or s at 0 → 0 < get_or s (at + 1) 0 → get_or s (at + 1) 0 < 128
      → Spelled (Value (get_or s at 0 % 128 + 128 * get_or s (at + 1) 0) (at + 2))
  spelled-two h b d e =
      let v = get_or s at 0 % 128 + 128 * get_or s (at + 1) 0 in
      let low : 128 + v % 128 ≡ get_or s at 0 = omega (arith, bytes at) in
      let high : v / 128 ≡ get_or s (at + 1) 0 = omega arith in
      rw (spell-two v (omega arith) (omega arith)) (simp (low, high) (drop-two s at h))

  spelled-three : at + 2 < length s → 128 ≤ get_or s at 0 → 128 ≤ get_or s (at + 1) 0 → 0 < get_or s (at + 2) 0 → get_or s (at + 2) 0 < 128
      → Spelled (Value (get_or s at 0 % 128 + 128 * (get_or s (at + 1) 0 % 128) + 16384 * get_or s (at + 2) 0) (at + 3))
  spelled-three h b m d e =
      let v = get_or s at 0 % 128 + 128 * (get_or s (at + 1) 0 % 128) + 16384 * get_or s (at + 2) 0 in
      let low : 128 + v % 128 ≡ get_or s at 0 = omega (arith, bytes at) in
      let rest : v / 128 ≡ get_or s (at + 1) 0 % 128 + 128 * get_or s (at + 2) 0 = omega arith in
      let middle : 128 + v / 128 % 128 ≡ get_or s (at + 1) 0 = rw rest (omega (arith, bytes (at + 1))) in
      let high : v / 16384 ≡ get_or s (at + 2) 0 = omega arith in
      rw (spell-three v (omega arith) (omega arith)) (simp (low, middle, high) (drop-three s at h))

  spelled : Spelled (number_at s at)
  spelled = number-cases Spelled s at (λ _. tt) (λ _. tt) spelled-one spelled-two spelled-three

  pub number_spelled : (v n : ℕ) → number_at s at ≡ Value v n → drop at s ≡ spell_number v ++ drop n s
  number_spelled v n e = subst Spelled e spelled
