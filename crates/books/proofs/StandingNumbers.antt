-- A number that is accepted stands at its place as it is spelled, and a spelling that stands at a place is read there: so fields that
-- stand one after the other are read one after the other, and the other way round.
use Prim.Native.Nat.{ℕ, ◌+◌, ◌<◌, ◌≤◌}
use mathlib.Core.Path.{◌≡◌, sym, ap, ◌∙◌}
use mathlib.Core.List.{List, ◌++◌, append_assoc}
use lib.ListN.{length, drop}
use Rattle.names.specs.Number.{greatest_number, number_in, number_below, spell_number}
use Rattle.names.specs.Read.{Value}
use Rattle.names.proofs.ReadingNumbers.{number-there, number_in-range, number_below-there, number_below-count}
use Rattle.names.specs.Bytes.{Bytes}
use Rattle.names.proofs.SpellingNumbers.{number_spelled, number-reads-at}
use Rattle.names.proofs.SpellingColours.{drop_past, past-inside}

-- ── Accepted numbers ──

-- from a place to the next one stands this list
pub record Between (s : List ℕ) (at next : ℕ) (l : List ℕ) : Type 0 where
  pub stands : drop at s ≡ l ++ drop next s

module _ (s : List ℕ) (bytes : Bytes s) where
  pub in-spelled : (at least most v next : ℕ) → number_in s at least most ≡ Value v next → Between s at next (spell_number v)
  in-spelled at least most v next e = record { stands = number_spelled s bytes at v next (number-there s at least most v next e) }

  pub below-spelled : (at count refusal v next : ℕ) → number_below s at count refusal ≡ Value v next → Between s at next (spell_number v)
  below-spelled at count refusal v next e = record { stands = number_spelled s bytes at v next (number_below-there s at count refusal v next e) }

-- one list after the other
pub between-both : {s a b : List ℕ} {at then next : ℕ} → Between s at then a → Between s then next b → Between s at next (a ++ b)
between-both {s} {a} {b} {next = next} h g =
    record { stands = h.stands ∙ (ap (λ (l : List ℕ). a ++ l) g.stands ∙ sym (append_assoc a b (drop next s))) }

-- ── Spellings ──

-- what stands at a place within the input
pub record Stands (s : List ℕ) (at : ℕ) (l : List ℕ) : Type 0 where
  pub inside : at ≤ length s
  pub there : drop at s ≡ l

module _ {s : List ℕ} {at : ℕ} where
  -- after its first part stands the rest
  pub past-stands : (a b : List ℕ) → Stands s at (a ++ b) → Stands s (at + length a) b
  past-stands a b h = record { inside = past-inside s a b at h.inside h.there; there = drop_past s a b at h.there }

  pub in-read : (least most v : ℕ) (rest : List ℕ) → Stands s at (spell_number v ++ rest) → least ≤ v → v ≤ most → v ≤ greatest_number
      → number_in s at least most ≡ Value v (at + length (spell_number v))
  in-read least most v rest h low high small =
      number_in-range s at least most v (at + length (spell_number v)) (number-reads-at s rest at v h.inside small h.there) low high

  pub below-read : (count refusal v : ℕ) (rest : List ℕ) → Stands s at (spell_number v ++ rest) → v < count → v ≤ greatest_number
      → number_below s at count refusal ≡ Value v (at + length (spell_number v))
  below-read count refusal v rest h low small =
      number_below-count s at count refusal v (at + length (spell_number v)) (number-reads-at s rest at v h.inside small h.there) low
