-- The contents of a colour list: which names keep the rules, and how they are spelled.
use Rattle.std.specs.Prelude.{ℕ, ◌<◌, ◌≤◌, length, get_or}
use mathlib.Core.List.{List, [], ◌∷◌, ◌++◌, Memᴰ}
use Rattle.names.specs.Number.{spell_number}
use Rattle.names.specs.Name.{Name, Shown}

-- the greatest counts: the bytes of a name, and the names of a list
abbrev pub longest_name : ℕ
longest_name = 40

abbrev pub most_colours : ℕ
most_colours = 64

-- at least one byte, each of which may stand in a name
pub record NameOk (n : Name) : Type 0 where
  pub some : 1 ≤ length n
  pub few : length n ≤ longest_name
  pub shown : (i : ℕ) → i < length n → Shown (length n) i (get_or n i 0)

-- nothing stands twice
abbrev pub Distinct : {A : Type 0} → List A → Type 0
Distinct [] = Unit {0}
Distinct (x ∷ xs) = (Memᴰ x xs → ⊥) × Distinct xs

-- at least one name, each of which keeps the rules
pub record ColoursOk (ns : List Name) : Type 0 where
  pub some : 1 ≤ length ns
  pub few : length ns ≤ most_colours
  pub each : (n : Name) → Memᴰ n ns → NameOk n
  pub distinct : Distinct ns

-- each name with its length before it, after their count
abbrev pub spell_names : List Name → List ℕ
spell_names [] = []
spell_names (n ∷ ns) = spell_number (length n) ++ (n ++ spell_names ns)

abbrev pub spell_colours : List Name → List ℕ
spell_colours ns = spell_number (length ns) ++ spell_names ns
