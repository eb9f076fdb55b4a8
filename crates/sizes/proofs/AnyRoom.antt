-- An entry is made of entries before it alone. So a table that is filled up to a slot has the same last entry in every array with room for it.
use Prim.Native.Nat.{ℕ, zero, suc, ◌+◌, ◌-◌, ◌≤◌, ◌<◌}
use mathlib.Core.Path.{◌≡◌, sym, ap, ap₂, ◌∙◌}
use mathlib.Core.List.{List}
use native.Mathlib.Decide.{dec_lt}
use native.Mathlib.Nat.{mod-lt}
use native.Mathlib.Omega.{arith}
use lib.Bits.{bit_or}
use lib.ListN.{length, get_or, set, length-set}
use lib.Seq.{get_or-set_same, get_or-set_other}
use Rattle.names.specs.Bits.{is_set}
use Rattle.books.specs.declared.rule.Dir.TheVariants.{Across as across, Down as down}
use Rattle.books.specs.declared.rule.Dir.{Dir}
use Rattle.books.specs.declared.size.Size.{Size}
use Rattle.pieces.specs.Filling.{cuts_of}
use Rattle.pieces.specs.Firing.{fire_of, painted_of}
use Rattle.pieces.specs.declared.masks.Joins.{Joins}
use Rattle.pieces.proofs.Gathered.{gathered-same}
use Rattle.sizes.specs.Size.{reach}
use Rattle.sizes.specs.Table.{slot, slot_size, size_cuts, entry_of, with_entry, with_entries, sizes_by, last_by}
use Rattle.sizes.specs.inner.Entries.{OfTable}
use Rattle.sizes.proofs.EntriesRight.{entries-length}
use Rattle.sizes.proofs.Slots.{first-before, rest-before, slot_of-size}

module _ (fire : Dir → ℕ → ℕ → ℕ) (n : ℕ) where
  -- the entries before a slot are the same in both
  abbrev Alike : ℕ → List ℕ → List ℕ → Type 0
  Alike k t u = (i : ℕ) → i < k → get_or t i 0 ≡ get_or u i 0

  cuts-alike : (t u : List ℕ) (s : Size) → OfTable n s → Alike (slot n s) t u → (d : Dir) → size_cuts fire n t s d ≡ size_cuts fire n u s d
  unfolding cuts_of
  cuts-alike t u s w alike d =
      gathered-same (reach d s - 1) _ _
      (λ k h. ap₂ (fire d)
      (alike _ (first-before n s w d (k + 1) (omega arith) (omega arith)))
      (alike _ (rest-before n s w d (k + 1) (omega arith) (omega arith))))

  entry-alike : (k : ℕ) (t u : List ℕ) → 1 ≤ n → Alike k t u → entry_of fire n t (slot_size n k) ≡ entry_of fire n u (slot_size n k)
  entry-alike k t u some alike = ap₂ bit_or (cuts-alike t u _ w same across) (cuts-alike t u _ w same down)
    where
      w : OfTable n (slot_size n k)
      w = record { rows_some = omega arith; cols_some = omega arith; cols_few = omega (arith, mod-lt k some) }

      same : Alike (slot n (slot_size n k)) t u
      same i h = alike i (rw (slot_of-size n k) at h)

  entries-alike : (k : ℕ) (t u : List ℕ) → 1 ≤ n → k < length t → k < length u → get_or t 0 0 ≡ get_or u 0 0 → Alike (suc k) (with_entries fire n k t) (with_entries fire n k u)
  unfolding with_entries
  entries-alike zero t u some ht hu first i h = let z : i ≡ 0 = omega arith in rw z first
  entries-alike (suc k) t u some ht hu first i h = go (entries-alike k t u some (omega arith) (omega arith) first) (dec_lt i (suc k))
    where
      T : List ℕ
      T = with_entries fire n k t

      U : List ℕ
      U = with_entries fire n k u

      go : Alike (suc k) T U → Dec (i < suc k) → get_or (with_entry fire n (suc k) T) i 0 ≡ get_or (with_entry fire n (suc k) U) i 0
      go old (yes l) = get_or-set_other T (suc k) i _ 0 (λ q. omega arith) ∙ old i l ∙ sym (get_or-set_other U (suc k) i _ 0 (λ q. omega arith))
      go old (no l) =
          let here : i ≡ suc k = omega arith in
          rw here (get_or-set_same T (suc k) _ 0 (omega (arith, entries-length fire n k t)))
          ∙ entry-alike (suc k) T U some old
          ∙ sym (rw here (get_or-set_same U (suc k) _ 0 (omega (arith, entries-length fire n k u))))

-- whether a motif has the last of so many sizes does not depend on the array
pub last-alike : (masks : List ℕ) (j : Joins) (a n end : ℕ) (t u : List ℕ) → 1 ≤ n → 1 ≤ end → end ≤ length t → end ≤ length u → last_by masks j a n end t ≡ last_by masks j a n end u
unfolding last_by sizes_by
last-alike masks j a n end t u some more ht hu =
    let painted = painted_of masks in
    let first : get_or (set t 0 painted) 0 0 ≡ get_or (set u 0 painted) 0 0 = get_or-set_same t 0 painted 0 (omega arith) ∙ sym (get_or-set_same u 0 painted 0 (omega arith)) in
    let short : end - 1 < length (set t 0 painted) = omega (arith, length-set t 0 painted) in
    let also : end - 1 < length (set u 0 painted) = omega (arith, length-set u 0 painted) in
    ap (λ (e : ℕ). is_set e a) (entries-alike (fire_of masks j) n (end - 1) (set t 0 painted) (set u 0 painted) some short also first (end - 1) (omega arith))
