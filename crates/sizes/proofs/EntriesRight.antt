-- The entry of a size by those of its parts is right where theirs are: a size of more than 1 by 1 comes from a join alone, and the parts of a cut stand before it. So a
-- table that is filled slot by slot is right up to the slot that is due: the entry due is made of earlier ones, and writing it disturbs none of them.
use Prim.Native.Nat.{ℕ, zero, suc, ◌+◌, ◌-◌, ◌≤◌, ◌<◌}
use mathlib.Core.Path.{◌≡◌, refl, sym, ap, ◌∙◌}
use mathlib.Core.List.{List}
use native.Mathlib.Decide.{dec_lt}
use native.Mathlib.Nat.{zero-mul, zero-div, zero-mod}
use native.Mathlib.Omega.{arith}
use lib.ListN.{length, get_or, set, replicate, length-set}
use lib.Seq.{get_or-set_same, get_or-set_other}
use Rattle.books.specs.Contents.{Contents}
use Rattle.books.specs.Keeps.{Sound, Keeps}
use Rattle.books.specs.Size.{room, size_by as by}
use Rattle.books.specs.declared.rule.Dir.TheVariants.{Across as across, Down as down}
use Rattle.books.specs.declared.rule.Dir.{Dir}
use Rattle.pieces.specs.Firing.{fire_of, painted_of}
use Rattle.pieces.specs.Rights.{Fires, Painted, Serves}
use Rattle.pieces.specs.declared.masks.Joins.{Joins}
use Rattle.pieces.proofs.PartsRight.{cell-right, parts-right}
use Rattle.pieces.proofs.ServingMasks.{fire-serves, painted-serves}
use Rattle.books.specs.declared.size.Size.{Size}
use Rattle.sizes.specs.Size.{reach}
use Rattle.sizes.specs.HasSize.{sizes}
use Rattle.sizes.specs.Table.{slot, slot_size, at, entry_of, with_entry, with_entries, sizes_by, table_by}
use Rattle.sizes.specs.inner.Entries.{entry, OfTable, RightBefore}
use Rattle.sizes.proofs.Slots.{first-within, rest-within, first-before, rest-before, size_at-slot}
use Rattle.sizes.proofs.Testing.{size-decided}

pub entries-length : (fire : Dir → ℕ → ℕ → ℕ) (n k : ℕ) (t : List ℕ) → length (with_entries fire n k t) ≡ length t
unfolding with_entries
entries-length fire n zero t = refl
entries-length fire n (suc k) t = length-set (with_entries fire n k t) (suc k) _ ∙ entries-length fire n k t

-- ── One entry ──

-- 1 by 1 stands first, and nothing else does
first_slot : (n : ℕ) (s : Size) → s.rows + s.cols ≤ 2 → OfTable n s → slot n s ≡ 0
first_slot n s h w =
    let er : s.rows - 1 ≡ 0 = omega (arith, w.rows_some, w.cols_some) in
    let ec : s.cols - 1 ≡ 0 = omega (arith, w.rows_some, w.cols_some) in
    rw (er, ec) (omega (arith, zero-mul n))

at_first : (n : ℕ) (s : Size) → OfTable n s → slot n s ≡ 0 → s ≡ by 1 1
at_first n s w z = sym (size_at-slot n s w) ∙ ap (slot_size n) z ∙ rw (zero-div, zero-mod)

module _ (b : Contents) (sound : Sound b) (fire : Dir → ℕ → ℕ → ℕ) (fires : Fires b.rules fire) (n : ℕ) where
  entry-right : (t : List ℕ) (s : Size) → OfTable n s → RightBefore b n (slot n s) t → 2 < s.rows + s.cols → entry_of fire n t s ≡ entry b s
  unfolding entry
  entry-right t s w right large =
      parts-right (sizes b) b.rules b.motifs (λ r m. (sound.rules_fit r m).head_fits) _ (size-decided b) fire fires _ _ s
      (λ d k h l. right _ (first-within n s w d k h l) (first-before n s w d k h l))
      (λ d k h l. right _ (rest-within n s w d k h l) (rest-before n s w d k h l))
      (λ c e. omega (arith, e.0, e.1))

  -- ── Slot by slot ──

  one_more : (k : ℕ) (t : List ℕ) → 1 ≤ k → k < length t → RightBefore b n k t → RightBefore b n (suc k) (with_entry fire n k t)
  one_more k t some less old s w h = go (dec_lt (slot n s) k)
    where
      go : Dec (slot n s < k) → at n (with_entry fire n k t) s ≡ entry b s
      go (yes l) = get_or-set_other t k (slot n s) _ 0 (λ q. omega arith) ∙ old s w l
      go (no l) =
          let here : slot n s ≡ k = omega arith in
          let is : slot_size n k ≡ s = ap (slot_size n) (sym here) ∙ size_at-slot n s w in
          rw here (get_or-set_same t k _ 0 less) ∙ ap (entry_of fire n t) is
          ∙ entry-right t s w (λ q v g. old q v (omega arith)) (go-large (dec_lt 2 (s.rows + s.cols)))
        where
          go-large : Dec (2 < s.rows + s.cols) → 2 < s.rows + s.cols
          go-large (yes g) = g
          go-large (no g) = absurd (omega (arith, first_slot n s (omega arith) w))

  entries-right : (k : ℕ) (t : List ℕ) → k < length t → get_or t 0 0 ≡ entry b (by 1 1) → RightBefore b n (suc k) (with_entries fire n k t)
  unfolding with_entries
  entries-right zero t low begins = λ s w h. let z : slot n s ≡ 0 = omega arith in rw (z, at_first n s w z) begins
  entries-right (suc k) t low begins =
      one_more (suc k) (with_entries fire n k t) (omega arith) (omega (arith, entries-length fire n k t)) (entries-right k t (omega arith) begins)

-- one entry more, as the code writes it
pub one_written : (fire : Dir → ℕ → ℕ → ℕ) (n due : ℕ) (before t : List ℕ) (e : ℕ) → 1 ≤ due → t ≡ with_entries fire n (due - 1) before
    → e ≡ entry_of fire n t (slot_size n due) → set t due e ≡ with_entries fire n (due + 1 - 1) before
unfolding with_entries
one_written fire n zero before t e some is right = absurd (omega arith)
one_written fire n (suc k) before t e some is right =
    let p : suc k - 1 ≡ k = omega arith in
    let q : suc k + 1 - 1 ≡ suc k = omega arith in
    rw (q, right, rw p at is)

-- ── By masks that serve the book ──

module _ (b : Contents) (keeps : Keeps b) (masks : List ℕ) (j : Joins) (serves : Serves b.rules masks j) where
  no_cut : (d : Dir) → reach d (by 1 1) ≤ 1
  no_cut across = omega arith
  no_cut down = omega arith

  painted : Painted (sizes b) b.rules (painted_of masks) (by 1 1)
  painted a =
      let p = painted-serves serves (λ h c m. omega (arith, (keeps.sound.rules_fit _ m).body_fits, keeps.colours_ok.few)) a in (
        λ o. let (c, m) = p.0 o in (c, m, (refl, refl, (keeps.sound.rules_fit _ m).body_fits)),
        λ (c, m, _). p.1 (c, m),
      )

  -- a join has no cut there
  painted-right : painted_of masks ≡ entry b (by 1 1)
  unfolding entry
  painted-right =
      cell-right (sizes b) b.rules b.motifs (λ r m. (keeps.sound.rules_fit r m).head_fits) _ (size-decided b) (by 1 1) no_cut (painted_of masks) painted

  pub table-right : (n end : ℕ) → 1 ≤ end → end ≤ room → RightBefore b n end (table_by masks j n end)
  unfolding sizes_by
  table-right n end some few =
      let begun = set (replicate room 0) 0 (painted_of masks) in
      let e : suc (end - 1) ≡ end = omega arith in
      rw e at (entries-right b keeps.sound (fire_of masks j) (fire-serves serves) n (end - 1) begun (omega arith) painted-right)
