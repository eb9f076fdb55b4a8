-- The colours of two books in one: those of the first, then those of the second that the first lacks by name, in their order.
use Rattle.std.specs.Prelude.{Bool, List, [], ◌∷◌, ◌++◌, ltb, length}
use Rattle.names.specs.Pick.{pick}
use Rattle.names.specs.Name.{Name, listed}

-- whether a name stands in a list
abbrev pub holds : List Name → Name → Bool
holds xs n = ltb (listed xs n) (length xs)

-- the names of the second list that the first lacks
unfoldable pub without : List Name → List Name → List Name
without xs [] = []
without xs (y ∷ ys) = pick (holds xs y) (without xs ys) (y ∷ without xs ys)

unfoldable pub merged : List Name → List Name → List Name
merged xs ys = xs ++ without xs ys
