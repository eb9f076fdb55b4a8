-- A work slice that holds the table shows exactly which motifs derive each piece, so that the start's bit at the whole sheet decides; where it is set a rule fits
-- at every node of the tree, and what the tree writer writes is the derivation given.
use Prim.Native.Nat.{ℕ, ◌+◌, ◌*◌, ◌≤◌, ◌<◌}
use mathlib.Core.Path.{◌≡◌, sym, ap, ◌∙◌, subst}
use mathlib.Core.Bool.{true, false}
use mathlib.Core.List.{List, ◌++◌}
use mathlib.Core.Logic.{⊎_elim}
use native.Mathlib.Omega.{arith}
use borrow.Author.Tests.{eqb-false}
use lib.ListN.{length, get_or, take, drop, length-append, length-drop, length-map}
use lib.Seq.{take_at, take_all, get_or-take}
use Rattle.names.specs.Colours.{names_in}
use Rattle.names.specs.Name.{listed}
use Rattle.names.proofs.Picking.{pick_ind}
use Rattle.names.proofs.Tests.{lt-or-le}
use Rattle.names.proofs.Finding.{find-listed}
use Rattle.books.specs.Contents.{Contents}
use Rattle.books.specs.Picture.{Picture}
use Rattle.books.specs.Derives.{Derives}
use Rattle.books.specs.Answer.{plain}
use Rattle.books.specs.ContentsIn.{contents_in, grid_in}
use Rattle.books.specs.Grid.{picture}
use Rattle.books.specs.declared.family.Family.{Family}
use Rattle.books.specs.declared.sheet.Sheet.{Sheet}
use Rattle.books.proofs.Deciding.{decided, refused}
use Rattle.pieces.specs.declared.piece.Piece.{Piece}
use Rattle.pieces.specs.Pieces.{pieces, Inside, slot_of, total}
use Rattle.pieces.specs.Area.{whole}
use Rattle.pieces.specs.Table.{cut, entry, table}
use Rattle.names.specs.Bits.{bit, is_set}
use Rattle.pieces.specs.Largest.{marked}
use Rattle.pieces.specs.inner.Seen.{has_bit, seen}
use Rattle.pieces.proofs.ExactViews.{Exact}
use Rattle.pieces.specs.Tree.{tree_of}
use Rattle.pieces.specs.Filling.{filled_by}
use Rattle.pieces.specs.Rights.{Serves}
use Rattle.pieces.specs.declared.masks.Joins.{Joins}
use Rattle.pieces.specs.inner.Fitted.{Fitted}
use Rattle.pieces.specs.inner.Verdict.{Verdict, verdict}
use Rattle.pieces.specs.Derivation.{entries_needed, trials_needed, filled, judged}
use Rattle.pieces.proofs.Entries.{derives-entry}
use Rattle.pieces.proofs.Slots.{length-pieces, slot_lt, get_or-slot}
use Rattle.pieces.proofs.CellsFirst.{cell-before}
use Rattle.pieces.proofs.TableEntries.{get_or-map}
use Rattle.pieces.proofs.Cutting.{whole-inside, cut-whole}
use Rattle.pieces.proofs.ExactViews.{seen-exact}
use Rattle.pieces.proofs.EveryNode.{exact-fitted}
use Rattle.pieces.proofs.TheTree.{exact-tree}
use Rattle.pieces.proofs.WholeTable.{AsRead, Numbered, book-colours, cell-name, whole-table}

-- ── A slice that holds the table ──

pub record Holds (b : Contents) (p : Picture) (entries : List ℕ) : Type 0 where
  pub held : take (entries_needed p) entries ≡ table b p

table-length : (b : Contents) (p : Picture) → length (table b p) ≡ entries_needed p
unfolding table
table-length b p = length-map (pieces p.rows p.cols) (λ q. entry b (cut p q)) ∙ length-pieces p.rows p.cols

pub filled-holds : (b : Contents) (p : Picture) (entries : List ℕ) → Holds b p (filled b p entries)
filled-holds b p entries = record { held = take_at (table b p) (drop (entries_needed p) entries) (entries_needed p) (table-length b p) }

pub filled-length : (b : Contents) (p : Picture) (entries : List ℕ) → entries_needed p ≤ length entries → length (filled b p entries) ≡ length entries
filled-length b p entries h =
    omega (arith, length-append (table b p) (drop (entries_needed p) entries), table-length b p, length-drop (entries_needed p) entries)

module _ (b : Contents) (p : Picture) (work : List ℕ) (h : Holds b p work) where
  pub held-long : entries_needed p ≤ length work
  held-long =
      ⊎_elim (λ (l : length work < entries_needed p). absurd (omega (arith, ap length (sym (take_all (entries_needed p) work (omega arith)) ∙ h.held), table-length b p)))
      (λ (l : entries_needed p ≤ length work). l)
      (lt-or-le (length work) (entries_needed p))

  pub held-entry : (q : Piece) → Inside p.rows p.cols q → get_or work (slot_of p.rows p.cols q) 0 ≡ entry b (cut p q)
  unfolding table
  held-entry q inq =
      let slot = slot_of p.rows p.cols q in
      let low : slot < total p.rows p.cols = slot_lt p.rows p.cols q inq in
      sym (get_or-take (entries_needed p) work slot 0 low)
      ∙ (ap (λ (l : List ℕ). get_or l slot 0) h.held
      ∙ (get_or-map (λ x. entry b (cut p x)) (pieces p.rows p.cols) slot q (omega (arith, length-pieces p.rows p.cols))
      ∙ ap (λ (x : Piece). entry b (cut p x)) (get_or-slot p.rows p.cols q inq q)))

-- ── The tests that the code makes ──

module _ {press : ℕ} {book : List ℕ} {f : Family} {bytes : List ℕ} {g : Sheet} (given : AsRead press book f bytes g) (work : List ℕ)
    (holds : Holds (contents_in book f) (picture (grid_in bytes g)) work) where
  abbrev b : Contents
  b = contents_in book f

  abbrev p : Picture
  p = picture (grid_in bytes g)

  whole_in : Inside g.size.rows g.size.cols (whole g.size.rows g.size.cols)
  whole_in = let k = given.sheet_keeps.within in whole-inside g.size.rows g.size.cols k.rows_some k.cols_some

  module _ (numbers : List ℕ) (numbered : Numbered book f bytes g numbers) where
    exact : Exact b p (seen g.size work numbers)
    exact =
        seen-exact b p given.book_keeps.sound given.book_keeps.colours_ok.distinct work numbers (held-entry b p work holds)
        (λ i j hi hj. numbered.each (i * g.size.cols + j) (cell-before g.size.rows g.size.cols i j hi hj)
        ∙ (find-listed book f.colours _ (book-colours given) ∙ ap (listed (names_in book f.colours)) (sym (cell-name given i j hi hj))))

    starts : has_bit g.size work f.start (whole g.size.rows g.size.cols) ≡ true → Derives b f.start p
    starts e = subst (Derives b f.start) (cut-whole p) ((exact.has_exact f.start (whole g.size.rows g.size.cols) whole_in).0 e)

    -- Where the work slice holds the table of the sheet and the start motif's bit of the whole sheet is set, at every node of the tree a rule with that head fits: a
    -- colour rule for the cell, or a join with a cut whose two parts have their bits set.
    pub every-node-fits : has_bit g.size work f.start (whole g.size.rows g.size.cols) ≡ true
        → Fitted (seen g.size work numbers) (take f.count f.rules) f.start (whole g.size.rows g.size.cols)
    every-node-fits e = exact-fitted b p (seen g.size work numbers) exact f.start (whole g.size.rows g.size.cols) whole_in e

    -- where the start has its bit, the tree that is found is the derivation given
    judged_by-tree : (entries tree_slice : List ℕ) → has_bit g.size work f.start (whole g.size.rows g.size.cols) ≡ true
        → let t = tree_of (seen g.size work numbers) (take f.count f.rules) f.start (whole g.size.rows g.size.cols) in
        judged b p entries tree_slice ≡ record { answer = plain 0; trials = trials_needed b p; entries = entries; numbers = t ++ drop (length t) tree_slice }
    unfolding judged
    judged_by-tree entries tree_slice e =
        let x = starts e in
        simp ((decided b f.start p).1 x, exact-tree b p (seen g.size work numbers) exact x)

  -- where it has not, the sheet is not derived
  not-derived : has_bit g.size work f.start (whole g.size.rows g.size.cols) ≡ false → Derives b f.start p → ⊥
  unfolding has_bit marked is_set
  not-derived e x =
      let sheet = whole g.size.rows g.size.cols in
      let entered = held-entry b p work holds sheet whole_in in
      let set = derives-entry b (cut p sheet) f.start given.book_keeps.sound.start_fits (subst (Derives b f.start) (sym (cut-whole p)) x) in
      eqb-false (bit (get_or work (slot_of g.size.rows g.size.cols sheet) 0) f.start) 1 e (ap (λ (n : ℕ). bit n f.start) entered ∙ set)

  judged-none : (entries tree_slice : List ℕ) → has_bit g.size work f.start (whole g.size.rows g.size.cols) ≡ false
      → judged b p entries tree_slice ≡ record { answer = plain 11; trials = trials_needed b p; entries = entries; numbers = tree_slice }
  unfolding judged
  judged-none entries tree_slice e = simp ((refused b f.start p).1 (not-derived e))

  -- what the table tells is what the motifs derive
  abbrev told : List ℕ → List ℕ → Verdict
  told numbers tree_slice = verdict (seen g.size work numbers) (take f.count f.rules) f.start (whole g.size.rows g.size.cols) tree_slice

  judged-told : (numbers : List ℕ) → Numbered book f bytes g numbers → (entries tree_slice : List ℕ)
      → judged b p entries tree_slice
      ≡ record { answer = plain (told numbers tree_slice).number; trials = trials_needed b p; entries = entries; numbers = (told numbers tree_slice).numbers }
  unfolding verdict
  judged-told numbers numbered entries tree_slice =
      pick_ind
      (λ (v : Verdict). judged b p entries tree_slice ≡ record { answer = plain v.number; trials = trials_needed b p; entries = entries; numbers = v.numbers })
      (has_bit g.size work f.start (whole g.size.rows g.size.cols)) _ _
      (λ e. judged_by-tree numbers numbered entries tree_slice e)
      (λ e. judged-none entries tree_slice e)

-- A table that was filled by masks that serve the book's rules is judged as the definition has it.
module _ {press : ℕ} {book : List ℕ} {f : Family} {bytes : List ℕ} {g : Sheet} (given : AsRead press book f bytes g) (cells : List ℕ) (numbered : Numbered book f bytes g cells)
    (masks : List ℕ) (j : Joins) (serves : Serves (contents_in book f).rules masks j) (before : List ℕ)
    (enough : total g.size.rows g.size.cols ≤ length before) where
  abbrev contents : Contents
  contents = contents_in book f

  abbrev sheet_picture : Picture
  sheet_picture = picture (grid_in bytes g)

  -- the table, and what it tells
  abbrev pub made : List ℕ
  made = filled_by masks j cells g.size.rows g.size.cols before

  abbrev pub tells : List ℕ → Verdict
  tells tree_slice = verdict (seen g.size made cells) contents.rules f.start (whole g.size.rows g.size.cols) tree_slice

  is-filled : made ≡ filled contents sheet_picture before
  is-filled = whole-table given cells numbered masks j serves before enough

  made_holds : Holds contents sheet_picture made
  made_holds = subst (Holds contents sheet_picture) (sym is-filled) (filled-holds contents sheet_picture before)

  pub made-fits : has_bit g.size made f.start (whole g.size.rows g.size.cols) ≡ true
      → Fitted (seen g.size made cells) contents.rules f.start (whole g.size.rows g.size.cols)
  made-fits e = every-node-fits given made made_holds cells numbered e

  pub judged-made : (tree_slice : List ℕ) → judged contents sheet_picture (filled contents sheet_picture before) tree_slice
      ≡ record {
        answer = plain (tells tree_slice).number;
        trials = trials_needed contents sheet_picture;
        entries = made;
        numbers = (tells tree_slice).numbers;
      }
  judged-made tree_slice =
      ap (λ (w : List ℕ). judged contents sheet_picture w tree_slice) (sym is-filled)
      ∙ judged-told given made made_holds cells numbered made tree_slice
