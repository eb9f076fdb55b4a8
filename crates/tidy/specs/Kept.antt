-- The motifs that tidying keeps: those that can be rewritten to colours with sizes forgotten, and are reached from the start by rules
-- whose motifs all can.
use Rattle.std.specs.Prelude.{ℕ, ◌≡◌}
use Rattle.books.specs.Contents.{Contents, Has}
use Rattle.books.specs.Picture.{joins}
use Rattle.books.specs.declared.rule.Dir.{Dir}
use Rattle.books.specs.declared.rule.Body.TheVariants.{Colour}

-- a colour rule has the motif as head, or a join has it as head and both motifs of the join can be rewritten
pub data Rewrites (b : Contents) : ℕ → Type 0 where
  coloured : {a : ℕ} (c : ℕ) → Has b a (Colour c) → Rewrites b a
  joined : {a : ℕ} (d : Dir) (l r : ℕ) → Has b a (joins d l r) → Rewrites b l → Rewrites b r → Rewrites b a

-- the start is reached, and so are both motifs of a join whose head is reached and whose motifs can be rewritten
pub data Reached (b : Contents) : ℕ → Type 0 where
  starting : {a : ℕ} → a ≡ b.start → Reached b a
  as_first : {a : ℕ} (d : Dir) (l r : ℕ) → Has b a (joins d l r) → Rewrites b l → Rewrites b r → Reached b a → Reached b l
  as_second : {a : ℕ} (d : Dir) (l r : ℕ) → Has b a (joins d l r) → Rewrites b l → Rewrites b r → Reached b a → Reached b r

abbrev pub Kept : Contents → ℕ → Type 0
Kept b a = Rewrites b a × Reached b a
