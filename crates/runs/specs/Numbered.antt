-- What a C host looks up in a run: where the sheet with a number stands.
use Rattle.std.specs.Prelude.{ℕ, ◌+◌, ◌*◌, ◌^◌, List, [], eqb, ltb, length, get_or, take}
use Rattle.names.specs.Pick.{pick}
use Rattle.names.specs.Number.{spell_number}
use Rattle.runs.specs.Run.{framing, sheets_of, spell_run}

-- the sheet with a number
abbrev pub sheet_with : List (List ℕ) → ℕ → List ℕ
sheet_with sheets k = get_or sheets k []

-- where it starts: after the sheets before it, each with its length, and after its own length
unfoldable pub start_with : List (List ℕ) → ℕ → ℕ
start_with sheets k = length (spell_run (take k sheets)) + length (spell_number (length (sheet_with sheets k)))

-- that place, and how long the sheet is above 2 ^ 32; a place is at least 1, so that no sheet is 0
unfoldable pub place_with : List (List ℕ) → ℕ → ℕ
place_with sheets k = pick (ltb k (length sheets)) (start_with sheets k + 2 ^ 32 * length (sheet_with sheets k)) 0

-- a refused run has no sheets
abbrev pub run_sheet_shown : List ℕ → ℕ → ℕ
run_sheet_shown run k = pick (eqb (framing run).number 0) (place_with (sheets_of run) k) 0
