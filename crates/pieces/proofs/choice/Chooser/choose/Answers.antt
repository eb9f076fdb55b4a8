-- A rule fits, so that one gives a choice: the first that does is the lowest.
use Rattle.std.proofs.Common.{rules, ◌≡◌}
use Rattle.std.specs.declared.option.Option.TheVariants.{Some}
use Rattle.pieces.specs.Choice.{choose}
use Rattle.pieces.specs.inner.Known.{view_of}
use Rattle.pieces.proofs.Finding.{choice_is}
use Rattle.pieces.proofs.choice.Chooser.choose.Goals as goal
use Rattle.pieces.proofs.choice.Chooser.choose.Goals.{After-first_choice}

some : (c : After-first_choice) → let a = c.args in
    c.first_choice.result ≡ Some (choose (view_of a.self.now) a.self.now.rules.now a.x.motif a.x.piece)
some c = choice_is _ _ _ _ c.requires.fits _ c.first_choice.ensures

pub unwrap-requires : goal.unwrap-requires
unwrap-requires c = let e = some (goal.at.unwrap-requires c).After-first_choice in rw e (search rules)

pub returns : goal.returns
returns c = let e = some (goal.at.returns c).After-first_choice in let u = c.unwrap.ensures in cc
