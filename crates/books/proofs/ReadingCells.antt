-- What callers use of cells that were read: their numbers, each below that of the colours, are stored in order, they end within the
-- input, and what stood there is their spelling. One number is read after the other, and each gives its part.
use Prim.Native.Nat.{ℕ, zero, suc, ◌+◌, ◌*◌, ◌<◌, ◌≤◌}
use mathlib.Core.Path.{◌≡◌, refl, sym, ap, ap₂, ◌∙◌}
use mathlib.Core.List.{List, [], ◌∷◌, ◌++◌, append_assoc}
use mathlib.Core.Logic.{◌⊎◌, inl, inr, ⊎_elim}
use native.Mathlib.Omega.{arith}
use native.Mathlib.Nat.{zero-add}
use native.Mathlib.Numerals.{add-one}
use lib.ListN.{length, length-replicate, get_or, take, drop, set}
use lib.Seq.{sets, sets-eq, take-append_seam, drop-append_seam}
use Rattle.names.specs.Pick.{fault}
use Rattle.names.specs.Number.{number_below}
use Rattle.names.specs.Fault.{Fault}
use Rattle.names.specs.Onward.{onward}
use Rattle.names.specs.Read.{Read}
use Rattle.names.specs.Read.{Value, Refused}
use Rattle.names.proofs.Onwards.{onward-ind}
use Rattle.names.proofs.ReadingNumbers.{Blamed, blamed-later, number_below_lem, number_below-there, number_below-refused}
use Rattle.names.specs.Bytes.{Bytes}
use Rattle.names.proofs.SpellingNumbers.{number_spelled}
use Rattle.books.specs.Size.{room}
use Rattle.books.specs.Cells.{CellsRead, no_cells, refused_cells, cells_onward, cells_at}
use Rattle.books.specs.SpellSheet.{spell_cells}

-- each of these numbers is a colour's
abbrev pub Fit : ℕ → List ℕ → Type 0
Fit colours vs = (i : ℕ) → i < length vs → get_or vs i 0 < colours

pub fit-cons : (colours v : ℕ) (vs : List ℕ) → v < colours → Fit colours vs → Fit colours (v ∷ vs)
fit-cons colours v vs h f zero l = h
fit-cons colours v vs h f (suc i) l = f i (omega arith)

-- as many as the room has
pub no_cells_lem : length no_cells ≡ room
unfolding no_cells
no_cells_lem = length-replicate {A = ℕ} room 0

-- numbers that are stored from the front on stand first, and what they do not reach stands after them
module _ (l new : List ℕ) (h : length new ≤ length l) where
  pub stored-first : take (length new) (sets l 0 new) ≡ new
  stored-first = ap (take (length new)) (sets-eq new l 0 (omega arith)) ∙ take-append_seam new (drop (0 + length new) l)

  pub stored-end : drop (length new) (sets l 0 new) ≡ drop (length new) l
  stored-end = ap (drop (length new)) (sets-eq new l 0 (omega arith)) ∙ (drop-append_seam new (drop (0 + length new) l) ∙ rw zero-add)

-- so many numbers were read from a place on and stored from the i-th cell on
pub record CellsLie (s : List ℕ) (colours limit : ℕ) (cells : List ℕ) (i at k : ℕ) (r : CellsRead) : Type 0 where
  pub fine : r.fault ≡ fault 0 0
  pub new : List ℕ
  pub count : length new ≡ k
  pub fit : Fit colours new
  pub stored : r.cells ≡ sets cells i new
  pub inside : r.next ≤ length s
  pub near : r.next ≤ limit
  pub spelled : Bytes s → drop at s ≡ spell_cells new ++ drop r.next s

module _ (s : List ℕ) (colours limit : ℕ) where
  abbrev Ended : List ℕ → ℕ → ℕ → ℕ → CellsRead → Type 0
  Ended cells i at k r = CellsLie s colours limit cells i at k r ⊎ Blamed s limit r.fault

  -- one number in front of those that were read after it
  one_more : (cells : List ℕ) (i at k v next : ℕ) (r : CellsRead) → number_below s at colours 6 ≡ Value v next
      → CellsLie s colours limit (set cells i v) (i + 1) next k r → CellsLie s colours limit cells i at (suc k) r
  one_more cells i at k v next r e t =
      record {
        fine = t.fine;
        new = v ∷ t.new;
        count = ap suc t.count;
        fit = fit-cons colours v t.new (number_below_lem s at colours 6 v next e).low t.fit;
        stored = rw add-one at t.stored;
        inside = t.inside;
        near = t.near;
        spelled = λ bytes. rw (append_assoc, ← t.spelled bytes) (number_spelled s bytes at v next (number_below-there s at colours 6 v next e));
      }

  from-ended : (k : ℕ) (cells : List ℕ) (i at : ℕ) → at ≤ length s → at + 3 * k ≤ limit → Ended cells i at k (cells_onward s colours cells i at k)
  from-ended zero cells i at h l =
      inl (record {
        fine = refl;
        new = [];
        count = refl;
        fit = λ j p. absurd (omega arith);
        stored = refl;
        inside = h;
        near = omega arith;
        spelled = λ _. refl;
      })
  from-ended (suc k) cells i at h l =
      onward-ind (Ended cells i at (suc k)) refused_cells (number_below s at colours 6) _
      (λ f e. inr (blamed-later (omega arith) (number_below-refused s at colours 6 f e (omega arith) (omega arith))))
      (λ v next e.
      let g = number_below_lem s at colours 6 v next e in
      ⊎_elim (λ t. inl (one_more cells i at k v next _ e t)) (λ b. inr b)
      (from-ended k (set cells i v) (i + 1) next g.inside (omega (arith, g.near))))

-- the two laws of the cells of a sheet: they lie within the input, or the refusal names what it blames
module _ (s : List ℕ) (colours limit at count : ℕ) (h : at ≤ length s) (l : at + 3 * count ≤ limit) where
  cells-ended : Ended s colours limit no_cells 0 at count (cells_at s colours at count)
  unfolding cells_at
  cells-ended = from-ended s colours limit count no_cells 0 at h l

  pub cells-lie : (cells_at s colours at count).fault.number ≡ 0 → CellsLie s colours limit no_cells 0 at count (cells_at s colours at count)
  cells-lie z = ⊎_elim (λ t. t) (λ b. absurd (omega (arith, b.some))) cells-ended

  pub cells-refused : ((cells_at s colours at count).fault.number ≡ 0 → ⊥) → Blamed s limit (cells_at s colours at count).fault
  cells-refused z = ⊎_elim (λ t. absurd (z (ap (λ (f : Fault). f.number) t.fine))) (λ b. b) cells-ended

-- ── The same cells over two arrays ──

-- what holds of the same fault, and of what follows where there is none, holds of reading onward in two ways
onward-both : {A : Type 0} (P : A → A → Type 0) (refuse : Fault → A) (r : Read) (f g : ℕ → ℕ → A)
    → ((e : Fault) → r ≡ Refused e → P (refuse e) (refuse e)) → ((v next : ℕ) → P (f v next) (g v next)) → P (onward refuse r f) (onward refuse r g)
onward-both P refuse (Value v next) f g bad good = good v next
onward-both P refuse (Refused e) f g bad good = bad e refl

-- the same numbers, so many of them, are stored from the i-th cell on
record BothStored (k i : ℕ) (a b left right : List ℕ) : Type 0 where
  new : List ℕ
  count : length new ≡ k
  first : left ≡ sets a i new
  second : right ≡ sets b i new

record Both (k i : ℕ) (a b : List ℕ) (r c : CellsRead) : Type 0 where
  fault : r.fault ≡ c.fault
  next : r.next ≡ c.next
  cells : c.fault.number ≡ 0 → BothStored k i a b r.cells c.cells

both-more : (k i v : ℕ) (a b : List ℕ) (r c : CellsRead) → Both k (i + 1) (set a i v) (set b i v) r c → Both (suc k) i a b r c
both-more k i v a b r c h =
    record {
      fault = h.fault;
      next = h.next;
      cells = λ z. let t = h.cells z in
          record { new = v ∷ t.new; count = ap suc t.count; first = rw add-one at t.first; second = rw add-one at t.second };
    }

both_read : (s : List ℕ) (colours k : ℕ) (a b : List ℕ) (i at : ℕ) → Both k i a b (cells_onward s colours a i at k) (cells_onward s colours b i at k)
both_read s colours zero a b i at =
    record { fault = refl; next = refl; cells = λ _. record { new = []; count = refl; first = refl; second = refl } }
both_read s colours (suc k) a b i at =
    onward-both (Both (suc k) i a b) refused_cells (number_below s at colours 6) _ _
    (λ f e.
    let refused = number_below-refused s at colours 6 f e (omega arith) (omega arith) in
    record { fault = refl; next = refl; cells = λ z. absurd (omega (arith, refused.some)) })
    (λ v next. both-more k i v a b _ _ (both_read s colours k (set a i v) (set b i v) (i + 1) next))

-- cells that are read over what stood in an array are those that are read into none, and past them it is as it was
module _ (s : List ℕ) (colours at count : ℕ) (before : List ℕ) where
  abbrev r : CellsRead
  r = cells_onward s colours before 0 at count

  abbrev c : CellsRead
  c = cells_at s colours at count

  both : Both count 0 before no_cells r c
  unfolding cells_at
  both = both_read s colours count before no_cells 0 at

  pub over-fault : r.fault ≡ c.fault
  over-fault = both.fault

  pub over-next : r.next ≡ c.next
  over-next = both.next

  pub over-cells : length before ≡ room → count ≤ room → c.fault.number ≡ 0 → r.cells ≡ take count c.cells ++ drop count before
  over-cells all few z =
      let t = both.cells z in
      let there : length t.new ≤ length no_cells = omega (arith, t.count, no_cells_lem) in
      let first : take count c.cells ≡ t.new =
      ap (take count) t.second ∙ ap (λ (n : ℕ). take n (sets no_cells 0 t.new)) (sym t.count) ∙ stored-first no_cells t.new there in
      let end : 0 + length t.new ≡ count = omega (arith, t.count) in
      t.first ∙ sets-eq t.new before 0 (omega (arith, t.count)) ∙ ap₂ (λ (x : List ℕ) (n : ℕ). x ++ drop n before) (sym first) end
