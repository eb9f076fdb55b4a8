-- A course passes the slots of the two parts of every cut, and the joins of a direction are read one after the other from the first on, the down joins from the last:
-- so that what is gathered along it is what the cuts of the piece give, by a trial for each join at each cut.
use mathlib.Core.Path.{◌≡◌, refl, ap₂, ◌∙◌}
use mathlib.Core.List.{List}
use Prim.Native.Nat.{ℕ, ◌+◌, ◌-◌, ◌*◌, ◌^◌, ◌≤◌, ◌<◌}
use native.Mathlib.Nat.{mul-le-mul}
use native.Mathlib.Omega.{arith}
use lib.Bits.{bit_or, or_comm}
use lib.ListN.{length, get_or, drop, length-drop}
use lib.Seq.{get_or-drop}
use Rattle.books.specs.declared.rule.Dir.{Dir}
use Rattle.books.specs.declared.rule.Dir.TheVariants.{Across as across, Down as down}
use Rattle.books.specs.Keeps.{most_rules}
use Rattle.books.specs.Size.{Within}
use Rattle.pieces.specs.Most.{most}
use Rattle.pieces.specs.Pieces.{Inside}
use Rattle.pieces.specs.Parts.{reach}
use Rattle.pieces.specs.Masks.{seconds_from, heads_from, place_of, joins_of}
use Rattle.pieces.specs.Firing.{fired_at, joins_fired}
use Rattle.pieces.specs.Filling.{cuts_of, piece_cuts, entry_of}
use Rattle.pieces.specs.inner.Course.{course_of}
use Rattle.pieces.specs.inner.Along.{all_fired, window, along, also_along}
use Rattle.pieces.specs.inner.ForTable.{MasksFit}
use Rattle.pieces.specs.inner.Tally.{joined, tried_at}
use Rattle.pieces.specs.declared.masks.Joins.{Joins}
use Rattle.pieces.specs.declared.piece.Piece.{Piece}
use Rattle.pieces.proofs.Courses.{course-at, course-on}
use Rattle.pieces.proofs.Gathered.{gathered-same, gathered-back}

pub window-fires : (masks : List ℕ) (j : Joins) (d : Dir) (l r : ℕ) → j.down ≤ most_rules → all_fired (window masks j d) (joins_of j d) l r ≡ joins_fired masks j d l r
unfolding all_fired joins_fired
window-fires masks j across l r few = refl
window-fires masks j down l r few = gathered-back j.down _ _ back
  where
    from : ℕ
    from = most_rules - j.down

    back : (i : ℕ) → i < j.down → fired_at (drop from masks) l r i ≡ fired_at masks l r (place_of down (j.down - 1 - i))
    back i h =
        let e : from + i ≡ place_of down (j.down - 1 - i) = omega arith in
        let f : from + (seconds_from + i) ≡ seconds_from + place_of down (j.down - 1 - i) = omega arith in
        let g : from + (heads_from + i) ≡ heads_from + place_of down (j.down - 1 - i) = omega arith in
        rw (get_or-drop from masks i 0, get_or-drop from masks (seconds_from + i) 0, get_or-drop from masks (heads_from + i) 0, e, f, g)

-- a window has its three rows
pub window-long : (masks : List ℕ) (j : Joins) (d : Dir) → MasksFit (length masks) j → heads_from + joins_of j d ≤ length (window masks j d)
window-long masks j across h = omega (arith, h.all, h.across_few)
window-long masks j down h = omega (arith, length-drop (most_rules - j.down) masks, h.all, h.down_few)

pub along-cuts : (masks : List ℕ) (j : Joins) (m n : ℕ) (t : List ℕ) (d : Dir) (p : Piece) → j.down ≤ most_rules → Inside m n p
    → along t (window masks j d) (joins_of j d) (course_of d m n p) ≡ piece_cuts (joins_fired masks j) m n t p d
unfolding along cuts_of course_of
along-cuts masks j m n t d p few i =
    gathered-same (reach d p - 1) _ _
    (λ k h.
    let a = course-at d m n p i k (omega arith) in
    let b = course-on d m n p i k (omega arith) in
    ap₂ (λ (x y : ℕ). all_fired (window masks j d) (joins_of j d) (get_or t x 0) (get_or t y 0)) a.first b.second ∙ window-fires masks j d _ _ few)

-- Both directions of a piece, one beside the other: its entry, and its trials beside those before.
pub cuts-tried : (j : Joins) (m n : ℕ) (p : Piece) → (course_of down m n p).cuts * j.down + (course_of across m n p).cuts * j.across ≡ tried_at j p
unfolding course_of
cuts-tried j m n p = omega arith

pub both-along : (masks : List ℕ) (j : Joins) (m n : ℕ) (t : List ℕ) (p : Piece) (before : ℕ) → j.down ≤ most_rules → Inside m n p
    → also_along t masks j.across (course_of across m n p) (also_along t (window masks j down) j.down (course_of down m n p) (joined 0 before))
    ≡ joined (entry_of (joins_fired masks j) m n t p) (before + tried_at j p)
both-along masks j m n t p before few i =
    let cuts : Dir → ℕ = piece_cuts (joins_fired masks j) m n t p in
    ap₂ joined
    (ap₂ bit_or (along-cuts masks j m n t down p few i) (along-cuts masks j m n t across p few i) ∙ or_comm (cuts down) (cuts across))
    (omega (arith, cuts-tried j m n p))

-- A piece has fewer cuts than a sheet has columns or rows, and a direction no more joins than there are rules.
pub few-tried : (masks : ℕ) (j : Joins) (m n : ℕ) (p : Piece) → MasksFit masks j → Within most m n → Inside m n p → tried_at j p < 2 ^ 32
few-tried masks j m n p fit w i =
    let columns : p.width - 1 ≤ most = omega (arith, w.cols_few, i.right) in
    let rows : p.height - 1 ≤ most = omega (arith, w.rows_few, i.low) in
    omega (arith, mul-le-mul columns fit.across_few, mul-le-mul rows fit.down_few)
