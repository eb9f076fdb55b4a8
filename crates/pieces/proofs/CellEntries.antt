-- The painters of a cell's colour are the entry of the cell: one cell is derived by a colour rule alone, and since no name stands twice in a book, the colour rules with
-- the cell's name are those with the number that the name is found at.
use mathlib.Core.Path.{◌≡◌, sym, ap, ◌∙◌, subst}
use mathlib.Core.List.{List}
use Prim.Native.Nat.{ℕ, ◌+◌, ◌≤◌, ◌<◌}
use native.Mathlib.Omega.{arith}
use lib.ListN.{length, get_or}
use Rattle.names.specs.Name.{Name, listed}
use Rattle.names.specs.Colours.{names_in, find_name}
use Rattle.names.proofs.Finding.{find-listed}
use Rattle.names.proofs.Listing.{listed_le, listed_found, listed-mem, listed-own}
use Rattle.names.proofs.ReadingColours.{names-count}
use Rattle.books.specs.Contents.{Contents, Has, name}
use Rattle.books.specs.ContentsIn.{contents_in}
use Rattle.books.specs.Keeps.{Keeps}
use Rattle.books.specs.Picture.{Picture, size}
use Rattle.books.specs.declared.rule.Dir.TheVariants.{Across as across, Down as down}
use Rattle.books.specs.declared.rule.Dir.{Dir}
use Rattle.books.specs.Decide.{pictures}
use Rattle.books.specs.declared.family.Family.{Family}
use Rattle.books.specs.declared.rule.Body.TheVariants.{Colour}
use Rattle.books.proofs.Deciding.{given}
use Rattle.pieces.specs.Masks.{painters_from, colour_masks}
use Rattle.pieces.specs.Rights.{Painted, Serves}
use Rattle.pieces.specs.Table.{entry}
use Rattle.pieces.specs.declared.masks.Joins.{Joins}
use Rattle.pieces.proofs.PartsRight.{cell-right}

module _ (book : List ℕ) (f : Family) (keeps : Keeps (contents_in book f)) where
  abbrev b : Contents
  b = contents_in book f

  abbrev names : List Name
  names = names_in book f.colours

  colour_in : (a c : ℕ) → Has b a (Colour c) → c < length names
  colour_in a c h = (keeps.sound.rules_fit _ h).body_fits

  found_at : (n : Name) → find_name book f.colours n ≡ listed names n
  found_at n = find-listed book f.colours n (omega (arith, keeps.colours_ok.few, names-count book f.colours))

  -- a colour has a number below that of the masks, whether or not the book has it
  pub found-low : (n : Name) → find_name book f.colours n < colour_masks
  found-low n = omega (arith, found_at n, listed_le names n, keeps.colours_ok.few)

  module _ (masks : List ℕ) (j : Joins) (serves : Serves b.rules masks j) (q : Picture) (one_row : q.rows ≡ 1) (one_col : q.cols ≡ 1) where
    abbrev number : ℕ
    number = find_name book f.colours (q.cell 0 0)

    painted : Painted (pictures b) b.rules (get_or masks (painters_from + number) 0) q
    painted a = (
      λ o.
          let has : Has b a (Colour number) = (serves.paints number (found-low (q.cell 0 0)) a).0 o in
          let low : listed names (q.cell 0 0) < length names = subst (λ (k : ℕ). k < length names) (found_at (q.cell 0 0)) (colour_in a number has) in
          let called = sym (ap (name b) (found_at (q.cell 0 0)) ∙ (listed_found names (q.cell 0 0) (listed-mem names (q.cell 0 0) low)).1) in
          (number, has, (one_row, one_col, (colour_in a number has, called))),
      λ (c, h, s).
          let found : number ≡ c = found_at (q.cell 0 0) ∙ ap (listed names) s.2.1 ∙ listed-own names c keeps.colours_ok.distinct s.2.0 in
          (serves.paints number (found-low (q.cell 0 0)) a).1 (rw found h),
    )

    no_cut : (d : Dir) → size d q ≤ 1
    no_cut across = omega arith
    no_cut down = omega arith

    pub painters-entry : get_or masks (painters_from + number) 0 ≡ entry b q
    unfolding entry
    painters-entry = cell-right (pictures b) b.rules b.motifs (λ r m. (keeps.sound.rules_fit r m).head_fits) _ (given b) q no_cut _ painted
