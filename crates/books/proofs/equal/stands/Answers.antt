-- The slice's own search is that of the definition.
use mathlib.Core.Path.{◌∙◌}
use Rattle.books.proofs.EqualNumbers.{among_any}
use Rattle.books.proofs.equal.stands.Goals as goal

pub returns : goal.returns
returns c = c.contains.ensures.value ∙ among_any c.args.numbers.now c.args.number
