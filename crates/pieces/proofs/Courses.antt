-- The course of the cuts of a piece holds the slots of the two parts, since it begins with them and each step changes them as they change from cut to cut.
use mathlib.Core.Path.{◌≡◌, refl, sym, ap, subst}
use Prim.Native.Nat.{ℕ, zero, suc, ◌+◌, ◌-◌, ◌*◌, ◌≤◌, ◌<◌}
use native.Mathlib.Nat.{add-mul, one-mul}
use native.Mathlib.Numerals.{add-one}
use native.Mathlib.Omega.{arith}
use Rattle.books.specs.declared.rule.Dir.TheVariants.{Across as across, Down as down}
use Rattle.books.specs.declared.rule.Dir.{Dir}
use Rattle.books.specs.Size.{Within}
use Rattle.pieces.specs.Most.{most}
use Rattle.pieces.specs.Pieces.{Inside, total, slot_of}
use Rattle.pieces.specs.Parts.{reach, first_part, rest_part}
use Rattle.pieces.specs.inner.Course.{step, after, cells, change, short, shorter, first_rise, first_fall, course_of, Runs}
use Rattle.pieces.specs.declared.piece.Piece.{Piece}
use Rattle.pieces.specs.declared.course.Course.{Course}
use Rattle.pieces.proofs.PartsOfPieces.{first-inside, rest-inside, rest-whole}
use Rattle.pieces.proofs.PartSlots.{one_more, first_next, rest-next}
use Rattle.pieces.proofs.Slots.{slot_lt}
use Rattle.pieces.proofs.Stretches.{stretches-mono, total-few}

-- ── How a step compares with a change ──

short-le : (d : Dir) {m n : ℕ} {p : Piece} → Inside m n p → short d n p ≤ change d m n p
short-le across i = omega arith
short-le down {m} {n} {p} i = stretches-mono n (p.width - 1) n (omega arith)

shorter-le : (d : Dir) {m n : ℕ} {p : Piece} → Inside m n p → shorter d n p ≤ change d m n p
shorter-le across i = omega arith
shorter-le down {m} {n} {p} i = stretches-mono n p.width n (omega arith)

pub reach-le : (d : Dir) {m n : ℕ} {p : Piece} → Inside m n p → reach d p ≤ cells d m n
reach-le across i = omega arith
reach-le down i = omega arith

pub reach_some : (d : Dir) {m n : ℕ} {p : Piece} → Inside m n p → 1 ≤ reach d p
reach_some across i = i.wide
reach_some down i = i.tall

-- some changes are at least one
some : (x c e : ℕ) → 1 ≤ x → e ≤ c → e ≤ x * c
some x c e h l =
    let a : (x - 1 + 1) * c ≡ x * c = ap (λ (y : ℕ). y * c) (omega arith) in
    omega (arith, add-mul (x - 1) 1 c, one-mul c)

rise-fits : (d : Dir) {m n : ℕ} {p : Piece} (k : ℕ) → Inside m n p → k < reach d p → short d n p ≤ (cells d m n - k) * change d m n p
rise-fits d {m} {n} {p} k i h = some (cells d m n - k) (change d m n p) (short d n p) (omega (arith, reach-le d i)) (short-le d i)

pub rise_begins : (d : Dir) {m n : ℕ} {p : Piece} → Inside m n p → 1 ≤ reach d p → short d n p ≤ cells d m n * change d m n p
rise_begins d {m} {n} {p} i h = some (cells d m n) (change d m n p) (short d n p) (omega (arith, reach-le d i)) (short-le d i)

pub fall_begins : (d : Dir) {m n : ℕ} {p : Piece} → Inside m n p → shorter d n p ≤ (cells d m n + 2 - reach d p) * change d m n p
fall_begins d {m} {n} {p} i =
    some (cells d m n + 2 - reach d p) (change d m n p) (shorter d n p) (omega (arith, reach-le d i)) (shorter-le d i)

-- ── What a course holds ──

pub after_next : (k : ℕ) (c : Course) → after (k + 1) c ≡ step (after k c)
unfolding after
after_next k c = rw add-one

-- what a course holds at cut k
pub record At (d : Dir) (m n : ℕ) (p : Piece) (k : ℕ) (c : Course) : Type 0 where
  pub first : c.first ≡ slot_of m n (first_part d (k + 1) p)
  pub rise : c.rise + short d n p ≡ (cells d m n - k) * change d m n p
  pub second : c.second ≡ slot_of m n (rest_part d k p)
  pub both : c.both + shorter d n p ≡ c.rise + (cells d m n + 2 + k - reach d p) * change d m n p
  pub same : c.change ≡ change d m n p

module _ (d : Dir) (m n : ℕ) (p : Piece) (i : Inside m n p) where
  begins : 1 ≤ reach d p → At d m n p 0 (course_of d m n p)
  unfolding course_of
  begins h =
      let b : cells d m n - 0 ≡ cells d m n = omega arith in
      let e : cells d m n + 2 + 0 ≡ cells d m n + 2 = omega arith in
      record {
        first = refl;
        rise = rw b (omega (arith, rise_begins d i h));
        second = ap (slot_of m n) (sym (rest-whole d p));
        both = rw e (omega (arith, fall_begins d i));
        same = refl;
      }

  goes_on : (k : ℕ) (c : Course) → k + 1 < reach d p → At d m n p k c → At d m n p (k + 1) (step c)
  goes_on k c h a =
      let two : k + 1 + 1 ≡ k + 2 = omega arith in
      let up : cells d m n + 2 + (k + 1) - reach d p ≡ cells d m n + 2 + k - reach d p + 1 = omega (arith, reach-le d i) in
      let more = one_more k (cells d m n) (change d m n p) (omega (arith, reach-le d i)) in
      record {
        first = rw two (omega (arith, first_next d k i h, a.first, a.rise));
        rise = omega (arith, more, rise-fits d (k + 1) i h, a.rise, a.same);
        second = omega (arith, rest-next d k i h, a.second, a.both);
        both = rw up (omega (arith, more, rise-fits d (k + 1) i h, a.rise, a.both, a.same));
        same = a.same;
      }

  pub course-at : (k : ℕ) → k < reach d p → At d m n p k (after k (course_of d m n p))
  unfolding after
  course-at zero h = begins h
  course-at (suc k) h = subst (λ (x : ℕ). At d m n p x (step (after k (course_of d m n p)))) (add-one k)
      (goes_on k (after k (course_of d m n p)) (omega arith) (course-at k (omega arith)))

  pub course-on : (k : ℕ) → k + 1 < reach d p → At d m n p (k + 1) (step (after k (course_of d m n p)))
  course-on k h = goes_on k (after k (course_of d m n p)) h (course-at k (omega arith))

-- ── In numbers that the code has room for ──

pub course-runs : (d : Dir) (m n : ℕ) (p : Piece) (len : ℕ) → Within most m n → Inside m n p → total m n ≤ len → Runs len (course_of d m n p)
unfolding course_of
course-runs d m n p len r i h k l =
    let a = course-at d m n p i k (omega arith) in
    let b = course-on d m n p i k (omega arith) in
    let two : k + 1 + 1 ≡ k + 2 = omega arith in
    let f = slot_lt m n (first_part d (k + 2) p) (first-inside d (k + 2) i (omega arith) (omega arith)) in
    let s = slot_lt m n (rest_part d k p) (rest-inside d k i (omega arith)) in
    let t = slot_lt m n (rest_part d (k + 1) p) (rest-inside d (k + 1) i (omega arith)) in
    let few = total-few most m n r.rows_few r.cols_few in (
      record {
        climbs = omega (arith, rw two at b.first);
        slows = omega (arith, a.rise, a.same, rise-fits d (k + 1) i (omega arith), one_more k (cells d m n) (change d m n p) (omega (arith, reach-le d i)));
        lifts = omega (arith, rw two at b.first, a.second);
        sinks = omega (arith, rest-next d k i (omega arith), a.second, a.both);
      },
      omega (arith, rw two at b.first),
      omega (arith, b.second),
    )

-- ── Where a course begins ──

pub course-made : (d : Dir) (m n : ℕ) (p : Piece) {first rise second fall less : ℕ} → first ≡ slot_of m n (first_part d 1 p)
    → rise ≡ first_rise d m n p → second ≡ slot_of m n p → fall ≡ first_fall d m n p → less ≡ change d m n p
    → record { cuts = reach d p - 1; first = first; rise = rise; second = second; both = rise + fall; change = less } ≡ course_of d m n p
unfolding course_of
course-made d m n p a b e g h =
    λ i. record { cuts = reach d p - 1; first = a i; rise = b i; second = e i; both = b i + g i; change = h i }
