-- What the joins of one direction give at the cuts of a course over a table, read one after the other.
use Rattle.std.specs.Prelude.{ℕ, ◌+◌, ◌-◌, ◌*◌, ◌<◌, ◌^◌, List, get_or, drop}
use Rattle.std.specs.Int.Bits.{bit_or}
use Rattle.books.specs.declared.rule.Dir.{Dir}
use Rattle.books.specs.declared.rule.Dir.TheVariants.{Across as across, Down as down}
use Rattle.books.specs.Keeps.{most_rules}
use Rattle.pieces.specs.Firing.{gathered, fired_at}
use Rattle.pieces.specs.inner.Course.{step, after, Runs}
use Rattle.pieces.specs.inner.Tally.{joined}
use Rattle.pieces.specs.declared.course.Course.{Course}
use Rattle.pieces.specs.declared.masks.Joined.{Joined}
use Rattle.pieces.specs.declared.masks.Joins.{Joins}

-- the first so many joins of the rows at one cut
unfoldable pub all_fired : List ℕ → ℕ → ℕ → ℕ → ℕ
all_fired masks count l r = gathered count (fired_at masks l r)

-- the rows from the first join of a direction on
abbrev pub window : List ℕ → Joins → Dir → List ℕ
window masks j across = masks
window masks j down = drop (most_rules - j.down) masks

-- all joins at the k-th cut of a course over the table t, and at all its cuts
abbrev pub at_cut : List ℕ → List ℕ → ℕ → Course → ℕ → ℕ
at_cut t masks count c k = all_fired masks count (get_or t (after k c).first 0) (get_or t (step (after k c)).second 0)

unfoldable pub along : List ℕ → List ℕ → ℕ → Course → ℕ
along t masks count c = gathered c.cuts (at_cut t masks count c)

-- the same beside what was found before, with a trial for each join at each cut
abbrev pub also_along : List ℕ → List ℕ → ℕ → Course → Joined → Joined
also_along t masks count c before = joined (bit_or before.heads (along t masks count c)) (before.trials + c.cuts * count)

-- what the loop asks for: a course in a table of so many entries, and trials before it that leave room for its own
pub record AlongDue (entries count : ℕ) (c : Course) (before : Joined) : Type 0 where
  pub runs : Runs entries c
  pub few : before.trials + c.cuts * count < 2 ^ 32
