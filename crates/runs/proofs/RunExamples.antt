-- Runs of a few bytes, computed: where their framing fails, and which sheets they have.
use mathlib.Core.Path.{◌≡◌, refl}
use mathlib.Core.List.{[], ◌∷◌}
use Rattle.names.specs.Number.{last_group, longer_at, number_at}
use Rattle.names.specs.Pick.{fault}
use Rattle.runs.specs.Run.{frame_at, walk_from, framing, sheets_of}

-- a length of 0 twice: two sheets of no bytes
pub two-empty : (framing (0 ∷ 0 ∷ []) ≡ fault 0 0) × (sheets_of (0 ∷ 0 ∷ []) ≡ [] ∷ [] ∷ [])
unfolding framing sheets_of walk_from frame_at number_at
two-empty = (refl, refl)

-- a sheet of one byte, and one of two
pub two-sheets : (framing (1 ∷ 7 ∷ 2 ∷ 8 ∷ 9 ∷ []) ≡ fault 0 0) × (sheets_of (1 ∷ 7 ∷ 2 ∷ 8 ∷ 9 ∷ []) ≡ (7 ∷ []) ∷ (8 ∷ 9 ∷ []) ∷ [])
unfolding framing sheets_of walk_from frame_at number_at
two-sheets = (refl, refl)

-- a length that passes the end, by one byte or by two million, is refused with 1 at the run's length
pub passes-end : (framing (2 ∷ 7 ∷ []) ≡ fault 1 2) × (framing (255 ∷ 255 ∷ 127 ∷ []) ≡ fault 1 3)
unfolding framing walk_from frame_at number_at longer_at last_group
passes-end = (refl, refl)

-- a length that ends early, and one that is misspelt, behind a sheet of one byte: 1 at the run's length, and 2 at the length's first byte
pub second-length : (framing (1 ∷ 7 ∷ 200 ∷ []) ≡ fault 1 3) × (framing (1 ∷ 7 ∷ 200 ∷ 0 ∷ []) ≡ fault 2 2)
unfolding framing walk_from frame_at number_at longer_at last_group
second-length = (refl, refl)
