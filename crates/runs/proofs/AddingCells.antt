-- The cells are added one after the other: those that are left, added here, give what all of them give from the start. Each takes one of what the
-- counts have to spare.
use Prim.Native.Nat.{ℕ, suc, ◌+◌, ◌^◌, ◌≤◌, ◌<◌}
use mathlib.Core.Path.{◌≡◌, ap, ◌∙◌}
use mathlib.Core.List.{List}
use native.Mathlib.Decide.{ℕ_discrete}
use native.Mathlib.Numerals.{add-one}
use native.Mathlib.Omega.{arith}
use borrow.Author.Tests.{eq-eqb, ne_eqb}
use lib.ListN.{length, get_or, take, drop, length-set, drop_of_length-le}
use lib.Seq.{drop-cons, get_or-set_same, get_or-set_other, get_or-take, length-take-le}
use Rattle.pieces.specs.declared.asking.Asked.{Asked}
use Rattle.runs.specs.inner.Adding.{answers_from, cells_from, any_at, one_more, count_place, answered, coloured, ticketed, Spare, Colourable, area_of, with_asked, Addable}

-- a count more stands where it was added, and all else is as it was
pub more-here : (f : List ℕ) (k : ℕ) → k < length f → get_or (one_more f k) k 0 ≡ get_or f k 0 + 1
unfolding one_more
more-here f k h = get_or-set_same f k (get_or f k 0 + 1) 0 h

pub more-else : (f : List ℕ) (k i : ℕ) → (i ≡ k → ⊥) → get_or (one_more f k) i 0 ≡ get_or f i 0
unfolding one_more
more-else f k i n = get_or-set_other f k i (get_or f k 0 + 1) 0 n

pub more-long : (f : List ℕ) (k : ℕ) → length (one_more f k) ≡ length f
unfolding one_more
more-long f k = length-set f k (get_or f k 0 + 1)

pub spare-less : (n : ℕ) (f : List ℕ) (k : ℕ) → k < length f → Spare (suc n) f → Spare n (one_more f k)
spare-less n f k h s = record { long = omega (arith, more-long f k, s.long); more = λ i l. go i l (ℕ_discrete i k) }
  where
    go : (i : ℕ) → i < any_at → Dec (i ≡ k) → get_or (one_more f k) i 0 + n < 2 ^ 32
    go i l (yes e) = rw (e, more-here f k h) (omega (arith, rw e at (s.more i l)))
    go i l (no d) = rw (more-else f k i d) (omega (arith, s.more i l))

pub coloured-next : (f l : List ℕ) (i : ℕ) → i < length l → coloured f (drop i l) ≡ coloured (one_more f (cells_from + get_or l i 0)) (drop (i + 1) l)
unfolding coloured
coloured-next f l i h = rw (drop-cons l i 0 h, add-one)

pub coloured-none : (f l : List ℕ) (i : ℕ) → length l ≤ i → coloured f (drop i l) ≡ f
unfolding coloured
coloured-none f l i h = rw (drop_of_length-le l h)

-- after its answer an accepted sheet has room for its cells
pub cells-next : (r : Asked) (cells f : List ℕ) → Addable r cells f → r.answer.number ≡ 0 → Colourable (take (area_of r.size) cells) (answered f r.answer.number)
unfolding answered
cells-next r cells f p z =
    let n = area_of r.size in
    let first : Spare (suc n) (one_more f 0) =
    spare-less (suc n) f 0 (omega (arith, p.spare.long)) (record { long = p.spare.long; more = λ i h. omega (arith, p.spare.more i h, p.area_few) }) in
    let wide : length (take n cells) ≡ n = length-take-le n cells p.cells_all in
    record {
      low = λ i h. let low : i < n = omega (arith, wide) in rw (get_or-take n cells i 0 low) (p.cells_low z i low);
      spare = rw wide (spare-less n (one_more f 0) (answers_from + count_place r.answer.number) (omega (arith, first.long, p.counted)) first);
    }

-- the two ways to add a sheet that was asked
pub accepted-asked : (f : List ℕ) (r : Asked) (cells one two three : List ℕ) → r.answer.number ≡ 0 → one ≡ answered f r.answer.number
    → two ≡ coloured one (take (area_of r.size) cells) → three ≡ ticketed two r.ticket → three ≡ with_asked f r cells
unfolding with_asked
accepted-asked f r cells one two three z a b c =
    rw (eq-eqb r.answer.number 0 z)
    (c ∙ ap (λ (l : List ℕ). ticketed l r.ticket) (b ∙ ap (λ (l : List ℕ). coloured l (take (area_of r.size) cells)) a))

pub declined-asked : (f : List ℕ) (r : Asked) (cells one : List ℕ) → (r.answer.number ≡ 0 → ⊥) → one ≡ answered f r.answer.number → one ≡ with_asked f r cells
unfolding with_asked
declined-asked f r cells one n a = rw (ne_eqb r.answer.number 0 n) a
