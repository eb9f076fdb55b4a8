-- How the code tells of a node: as the cell or the join that it is, or as nothing where it is wrong.
use Rattle.std.specs.Prelude.{Option, Some, None}
use Rattle.trees.specs.declared.step.Taken.{Taken}
use Rattle.trees.specs.declared.step.Taken.TheVariants.{Cell as cell, Join as join}
use Rattle.trees.specs.Judge.{Step, Wrong, Cell, Join}

abbrev pub stepped : Option Taken → Step
stepped None = Wrong
stepped (Some cell) = Cell
stepped (Some (join d l r)) = Join d l r
