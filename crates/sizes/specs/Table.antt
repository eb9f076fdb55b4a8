-- The table of sizes by what fires at a cut: 1 by 1 has the painters, and every other size what its cuts give, by the entries of the parts.
use Rattle.std.specs.Prelude.{ℕ, zero, suc, ◌+◌, ◌-◌, ◌*◌, ◌/◌, ◌%◌, Bool, List, ltb, get_or, set, replicate}
use Rattle.std.specs.Int.Bits.{bit_or}
use Rattle.names.specs.Bits.{is_set}
use Rattle.names.specs.Pick.{and_then}
use Rattle.books.specs.Keeps.{most_motifs}
use Rattle.books.specs.Press.{greatest_of}
use Rattle.books.specs.Size.{room, within?, size_by as by}
use Rattle.books.specs.declared.rule.Dir.TheVariants.{Across as across, Down as down}
use Rattle.books.specs.declared.rule.Dir.{Dir}
use Rattle.pieces.specs.Filling.{cuts_of}
use Rattle.pieces.specs.Firing.{fire_of, painted_of}
use Rattle.pieces.specs.declared.masks.Joins.{Joins}
use Rattle.books.specs.declared.size.Size.{Size}
use Rattle.sizes.specs.Size.{reach, first_part, rest_part}

-- ── The table ──

-- in rows of n entries, the size of i + 1 rows and j + 1 columns stands at i * n + j
abbrev pub slot : ℕ → Size → ℕ
slot n s = (s.rows - 1) * n + (s.cols - 1)

abbrev pub slot_size : ℕ → ℕ → Size
slot_size n k = by (k / n + 1) (k % n + 1)

abbrev pub at : ℕ → List ℕ → Size → ℕ
at n t s = get_or t (slot n s) 0

-- what the cuts of a size give in one direction, and so its entry, where it is larger than 1 by 1
abbrev pub size_cuts : (Dir → ℕ → ℕ → ℕ) → ℕ → List ℕ → Size → Dir → ℕ
size_cuts fire n t s d = cuts_of fire (λ e k. at n t (first_part e k s)) (λ e k. at n t (rest_part e k s)) d (reach d s)

abbrev pub entry_of : (Dir → ℕ → ℕ → ℕ) → ℕ → List ℕ → Size → ℕ
entry_of fire n t s = bit_or (size_cuts fire n t s across) (size_cuts fire n t s down)

-- with the entry of a slot, by those before it
abbrev pub with_entry : (Dir → ℕ → ℕ → ℕ) → ℕ → ℕ → List ℕ → List ℕ
with_entry fire n k t = set t k (entry_of fire n t (slot_size n k))

-- with the entries of so many slots after the first
unfoldable pub with_entries : (Dir → ℕ → ℕ → ℕ) → ℕ → ℕ → List ℕ → List ℕ
with_entries fire n zero t = t
with_entries fire n (suc k) t = with_entry fire n (suc k) (with_entries fire n k t)

-- with all entries before a slot; 1 by 1 stands first
unfoldable pub sizes_by : (Dir → ℕ → ℕ → ℕ) → ℕ → ℕ → ℕ → List ℕ → List ℕ
sizes_by fire painted n end t = with_entries fire n (end - 1) (set t 0 painted)

-- ── By masks ──

abbrev pub table_by : List ℕ → Joins → ℕ → ℕ → List ℕ
table_by masks j n end = sizes_by (fire_of masks j) (painted_of masks) n end (replicate room 0)

-- whether a motif has its bit in the last entry before a slot
unfoldable pub last_by : List ℕ → Joins → ℕ → ℕ → ℕ → List ℕ → Bool
last_by masks j a n end t = is_set (get_or (sizes_by (fire_of masks j) (painted_of masks) n end t) (end - 1) 0) a

-- whether a motif has the size of m rows and n columns: its bit in the last entry of a table that is no larger. No size beyond the card of the
-- press is had, and none by a motif beyond the last.
unfoldable pub has_size_by : ℕ → List ℕ → Joins → ℕ → ℕ → ℕ → Bool
has_size_by press masks j a m n =
    and_then (ltb a most_motifs) (λ _. and_then (within? (greatest_of press) m n) (λ _. last_by masks j a n (m * n) (replicate room 0)))
