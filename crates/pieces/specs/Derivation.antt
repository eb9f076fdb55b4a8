-- What asking for a derivation answers, how many trials its table took, and what it leaves in the two lent slices: `entries` for the table, `numbers` for the
-- tree.
use Rattle.std.specs.Prelude.{ℕ, ◌≤◌, ◌≡◌, List, ◌++◌, ltb, length, drop}
use Rattle.names.specs.Pick.{pick}
use Rattle.books.specs.Contents.{Contents}
use Rattle.books.specs.Picture.{Picture}
use Rattle.books.specs.Decide.{derives?}
use Rattle.books.specs.Lent.{lent_both}
use Rattle.books.specs.Answer.{plain, packed}
use Rattle.books.specs.declared.answer.Answer.{Answer}
use Rattle.pieces.specs.Pieces.{total}
use Rattle.pieces.specs.Area.{whole, tree_size}
use Rattle.pieces.specs.Table.{table}
use Rattle.pieces.specs.Tree.{tree}
use Rattle.pieces.specs.Trials.{trials}
use Rattle.pieces.specs.declared.derive.Derived.{Derived}

pub record Derivation : Type 0 where
  pub answer : Answer
  pub trials : ℕ
  pub entries : List ℕ
  pub numbers : List ℕ

-- an answer that leaves both slices as they are, so that there was no trial
abbrev pub leaving : Answer → List ℕ → List ℕ → Derivation
leaving a entries numbers = record { answer = a; trials = 0; entries = entries; numbers = numbers }

-- the entries and the numbers that a picture needs
abbrev pub entries_needed : Picture → ℕ
entries_needed p = total p.rows p.cols

abbrev pub numbers_needed : Picture → ℕ
numbers_needed p = tree_size (whole p.rows p.cols)

-- the trials that the table of a picture takes: as many as the list of them has
abbrev pub trials_needed : Contents → Picture → ℕ
trials_needed b p = length (trials b.rules p.rows p.cols)

-- both slices are long enough
pub record Roomy (p : Picture) (entries numbers : List ℕ) : Type 0 where
  pub work_long : entries_needed p ≤ length entries
  pub tree_long : numbers_needed p ≤ length numbers

-- the table, with the slice beyond as it was
abbrev pub filled : Contents → Picture → List ℕ → List ℕ
filled b p entries = table b p ++ drop (entries_needed p) entries

-- with the table written, and its trials: 11 where the start motif does not derive the picture, and else the derivation given, with the slice beyond as it was;
-- `tree` computes it: read `Given` of Given.antt for it, since they are the same (`tree-given` in proofs/TheTree.antt)
unfoldable pub judged : Contents → Picture → List ℕ → List ℕ → Derivation
judged b p entries numbers =
    pick (derives? b b.start p)
    (record { answer = plain 0; trials = trials_needed b p; entries = entries; numbers = tree b p ++ drop (length (tree b p)) numbers })
    (record { answer = plain 11; trials = trials_needed b p; entries = entries; numbers = numbers })

-- 9 where the work slice is too short, 10 where the tree slice is
unfoldable pub roomed : Contents → Picture → List ℕ → List ℕ → Derivation
roomed b p entries numbers =
    pick (ltb (length entries) (entries_needed p)) (leaving (plain 9) entries numbers)
    (pick (ltb (length numbers) (numbers_needed p)) (leaving (plain 10) entries numbers)
    (judged b p (filled b p entries) numbers))

-- the book's fault, then the sheet's
unfoldable pub derivation : ℕ → List ℕ → List ℕ → List ℕ → List ℕ → Derivation
derivation press book sheet entries numbers =
    lent_both press book sheet (λ a. leaving a entries numbers) (λ b p. roomed b p entries numbers)

-- what a caller is told of the answer and the trials, and both slices as the call leaves them, are those of a derivation
pub record Left {A : Type 0} (told : Answer → ℕ → A) (d : Derivation) (r : A) (entries numbers : List ℕ) : Type 0 where
  pub answers : r ≡ told d.answer d.trials
  pub leaves_work : entries ≡ d.entries
  pub leaves_tree : numbers ≡ d.numbers

-- told as they are, ...
abbrev pub telling : Answer → ℕ → Derived
telling a n = record { answer = a; trials = n }

abbrev pub Leaves : Derivation → Derived → List ℕ → List ℕ → Type 0
Leaves d r entries numbers = Left telling d r entries numbers

-- ... or packed into one number for the C host, with the trials for the count
abbrev pub LeavesPacked : Derivation → ℕ → List ℕ → List ℕ → Type 0
LeavesPacked d r entries numbers = Left packed d r entries numbers
