-- No count changes, and the draft has the changed rules.
use mathlib.Core.List.{map}
use mathlib.Core.Path.{◌∙◌, ap}
use Rattle.families.specs.inner.Asked.{changed_body, changed_rule}
use Rattle.families.proofs.Drafts.{rebodied-drafts}
use Rattle.families.proofs.lent.LentBook.changed.Goals as goal

pub returns : goal.returns
returns c s t =
    let book = c.args.self.now in
    rw (c.draft.ensures, c.no_colours.ensures)
    (rebodied-drafts s t book.family.now book.lent.fitted.sized (changed_body c.args.change) c.changed-rules.result
    (c.changed-rules.ensures ∙ ap (map (changed_rule c.args.change)) c.rules.ensures.is))
