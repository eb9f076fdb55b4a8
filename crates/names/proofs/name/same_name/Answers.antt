-- Names of one length are the same when their bytes from the back are equal pair by pair; names of other lengths are not equal.
use mathlib.Core.Path.{sym, ◌∙◌, ap}
use Rattle.std.proofs.Common.{rules, tests, length}
use Rattle.std.proofs.lemmas.Iterator.{YieldsList-from_zip, same_from_all}
use Rattle.std.proofs.lemmas.Iterator.Adapters.{YieldsList-from_rev_slice}
use Rattle.std.proofs.lemmas.List.{length-reverse}
use Rattle.names.proofs.SameNames.{same_back, other_name}
use Rattle.names.proofs.name.same_name.Goals as goal

pub returns-then-a-b : goal.returns-then-a-b
returns-then-a-b c =
    let a = c.args.a.now in
    let b = c.args.b.now in
    let as_long = length-reverse a ∙ c.if-a-b.true ∙ sym (length-reverse b) in
    same_back a b c.all.result (same_from_all c.all.new.self _ _ _ _ c.all.ensures.ran
    (YieldsList-from_zip (YieldsList-from_rev_slice a cc) (YieldsList-from_rev_slice b cc))
    as_long
    (λ x q k. search (rules, tests))
    (λ x q k. search (rules, tests)))

pub returns-else-a-b : goal.returns-else-a-b
returns-else-a-b c =
    let other = (other_name c.args.a.now c.args.b.now).1 (λ e. c.if-a-b.false (ap length e)) in
    search (rules, tests, other)
