-- What a pass does with a rule, and the motifs that passes over a family's rules mark.
use Rattle.std.specs.Prelude.{ℕ, ◌≡◌}
use Rattle.books.specs.declared.family.Family.{Family}
use Rattle.books.specs.declared.rule.Rule.{Rule}
use Rattle.tidy.specs.Marks.{adding}
use Rattle.tidy.specs.Marking.{mark_head, mark_body, passes}
use Rattle.tidy.specs.inner.Kept.{rules_standing}
use Rattle.tidy.specs.declared.untidy.Sound.{Sound}

-- a step computes a function of the marks and the rule
abbrev pub Computes : (ℕ → Sound → ℕ → Type 0) → (ℕ → Rule → ℕ) → Type 0
Computes post f = (m : ℕ) (s : Sound) (w : ℕ) → post m s w → w ≡ f m s.rule

-- the motifs that can be rewritten, and those that are reached where these can be rewritten
abbrev pub rewritten_in : Family → ℕ
rewritten_in f = passes mark_head (rules_standing f) f.motifs 0

abbrev pub reached_in : Family → ℕ → ℕ
reached_in f can = passes (mark_body can) (rules_standing f) f.motifs (adding 0 f.start)
