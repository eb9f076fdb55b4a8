-- What two slices lack for a sheet: where they lack nothing both are long enough, and the first that is too short is what is answered.
use Prim.Native.Nat.{ℕ, suc, ◌≤◌, ◌<◌}
use mathlib.Core.Path.{◌≡◌, ap}
use mathlib.Core.List.{List}
use native.Mathlib.Omega.{arith}
use native.Mathlib.Decide.{dec_lt}
use borrow.Author.Tests.{lt-ltb, le-ltb}
use lib.ListN.{length}
use Rattle.std.specs.Prelude.{Option, Some, None}
use Rattle.books.specs.Contents.{Contents}
use Rattle.books.specs.Picture.{Picture}
use Rattle.books.specs.Answer.{plain}
use Rattle.pieces.specs.Pieces.{total}
use Rattle.pieces.specs.Area.{whole, tree_size}
use Rattle.pieces.specs.Derivation.{leaving, entries_needed, numbers_needed, filled, judged, roomed}
use Rattle.books.specs.Reply.{number_of}
use Rattle.books.specs.declared.reply.Reply.{Reply}
use Rattle.books.specs.declared.reply.Reply.TheVariants.{WorkShort, TreeShort}
use Rattle.pieces.specs.inner.Verdict.{lacking}

-- a number for each of what may be lacking, and 0 for nothing
abbrev apart : Option Reply → ℕ
apart (Some short) = suc (number_of short)
apart None = 0

-- slices that lack nothing are long enough
pub nothing-lacks : (m n entries numbers : ℕ) → None ≡ lacking m n entries numbers → (total m n ≤ entries) × (tree_size (whole m n) ≤ numbers)
unfolding lacking
nothing-lacks m n entries numbers z = go (dec_lt entries (total m n)) (dec_lt numbers (tree_size (whole m n)))
  where
    go : Dec (entries < total m n) → Dec (numbers < tree_size (whole m n)) → (total m n ≤ entries) × (tree_size (whole m n) ≤ numbers)
    go (yes e) d = let no : None ≡ Some WorkShort = simp (lt-ltb _ _ e) at z in absurd (omega (arith, ap apart no))
    go (no e) (yes d) = let no : None ≡ Some TreeShort = simp (le-ltb entries (total m n) (omega arith), lt-ltb _ _ d) at z in absurd (omega (arith, ap apart no))
    go (no e) (no d) = (omega arith, omega arith)

module _ (b : Contents) (p : Picture) (entries numbers : List ℕ) where
  abbrev lack : Option Reply
  lack = lacking p.rows p.cols (length entries) (length numbers)

  -- a slice that is too short is what the answer says, and nothing is written
  pub roomed-short : (short : Reply) → Some short ≡ lack → roomed b p entries numbers ≡ leaving (plain (number_of short)) entries numbers
  unfolding roomed lacking
  roomed-short short is = go (dec_lt (length entries) (entries_needed p)) (dec_lt (length numbers) (numbers_needed p))
    where
      go : Dec (length entries < entries_needed p) → Dec (length numbers < numbers_needed p) → roomed b p entries numbers ≡ leaving (plain (number_of short)) entries numbers
      go (yes e) d =
          let which : Some short ≡ Some WorkShort = simp (lt-ltb _ _ e) at is in
          let number : number_of short ≡ 9 = omega (arith, ap apart which) in
          simp (lt-ltb _ _ e, number)
      go (no e) (yes d) =
          let enough : entries_needed p ≤ length entries = omega arith in
          let which : Some short ≡ Some TreeShort = simp (le-ltb (length entries) (entries_needed p) enough, lt-ltb _ _ d) at is in
          let number : number_of short ≡ 10 = omega (arith, ap apart which) in
          simp (le-ltb (length entries) (entries_needed p) enough, lt-ltb _ _ d, number)
      go (no e) (no d) =
          let no : Some short ≡ None = simp (le-ltb (length entries) (entries_needed p) (omega arith), le-ltb (length numbers) (numbers_needed p) (omega arith)) at is in
          absurd (omega (arith, ap apart no))

  pub roomed-enough : None ≡ lack → roomed b p entries numbers ≡ judged b p (filled b p entries) numbers
  unfolding roomed
  roomed-enough z =
      let enough = nothing-lacks p.rows p.cols (length entries) (length numbers) z in
      simp (le-ltb (length entries) (entries_needed p) enough.0, le-ltb (length numbers) (numbers_needed p) enough.1)
