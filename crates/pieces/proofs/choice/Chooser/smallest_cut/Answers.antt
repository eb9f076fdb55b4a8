-- The first cut that works is the smallest.
use Rattle.std.proofs.Common.{rules, ◌≡◌, true, false}
use Rattle.std.proofs.lemmas.Iterator.{first_from_Range}
use Rattle.pieces.specs.Choice.{works}
use Rattle.pieces.specs.inner.Seen.{has_bit}
use Rattle.pieces.proofs.Finding.{cut_found, reach-some}
use Rattle.pieces.proofs.choice.Chooser.smallest_cut.Goals as goal

pub returns : goal.returns
returns c =
    let test = works (has_bit c.args.self.now.table.size c.args.self.now.table.entries.now) c.args.d c.args.l c.args.r c.args.piece in
    let first = first_from_Range _ _ _ _ (λ k. test k ≡ true) (λ k. test k ≡ false) c.find.ensures.ran (λ x q k. search rules) (λ x q k. search rules) in
    cut_found _ _ _ _ _ _ (reach-some _ _ _ _ c.requires) (rw c.reach-reach.ensures at first)
