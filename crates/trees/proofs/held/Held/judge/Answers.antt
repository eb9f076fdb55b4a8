-- Each turn is a law of the parts that wait.
use Rattle.std.proofs.Common.{◌≡◌, Option, Some, Err, length, sym, ap, ◌∙◌, get_or, arith}
use Rattle.pieces.specs.OnSheet.{two, on_sheet}
use Rattle.pieces.specs.Parts.{first_part, rest_part}
use Rattle.trees.specs.Judge.{step}
use Rattle.trees.specs.Trees.{no_node}
use Rattle.trees.specs.declared.step.Taken.{Taken}
use Rattle.trees.specs.inner.Held.{rules_of}
use Rattle.trees.specs.inner.Taken.{stepped}
use Rattle.trees.proofs.JudgingSheets.{parts-here}
use Rattle.trees.proofs.PartsWaiting.{judging-starts, on, none-due, wrong-due, last-due, cell-due, join-due}
use Rattle.trees.proofs.held.Held.judge.Goals as goal
use Rattle.trees.proofs.held.Held.judge.Goals.{After-take, in-Cell+else-count-eq0, in-Join}

-- how the node that is due is taken is the definition's step
asked : (c : After-take) {t : Option Taken} → c.take.result ≡ t → let o = c.args.self.now in let l = c.loop-at in
    stepped t ≡ step (on_sheet o.size o.cells) (rules_of o) l.due.motif l.due.piece (get_or c.args.nodes.now l.at no_node)
asked c is = ap stepped (sym is) ∙ c.take.ensures

pub loop-at-init : goal.loop-at-init
loop-at-init c = rw (c.no_part-waiting.ensures, c.sheet-due.ensures) (judging-starts _ _)

pub returns-in_default : goal.returns-in_default
returns-in_default c = wrong-due _ _ _ _ _ _ c.loop-at.invariant c.loop-at-test.true (asked (goal.at.returns-in_default c).After-take c.in_default.is)

pub returns-then-count-eq0 : goal.returns-then-count-eq0
returns-then-count-eq0 c =
    last-due _ _ _ _ _ _ c.loop-at.invariant c.loop-at-test.true
    (asked (goal.at.returns-then-count-eq0 c).After-take (c.in-Some.is ∙ ap (λ (t : Taken). Some t) c.in-Cell.is)) c.if-count-eq0.true

pub loop-at-preserved : goal.loop-at-preserved
loop-at-preserved c =
    let a = c.args in
    let l = c.loop-at in
    let here = (goal.at.loop-at-preserved c).After-take in
    elim c.match-taken.branch [
      | in-Cell+else-count-eq0 w ↦
          rw (w.waiting-is, w.count-is, w.due-is)
          (cell-due _ _ _ _ _ _ l.invariant c.loop-at-test.true (asked here (c.in-Some.is ∙ ap (λ (t : Taken). Some t) w.in-Cell.is)) w.if-count-eq0.false)
      | in-Join w ↦
          let j = w.in-Join in
          let cut = (get_or a.nodes.now l.at no_node).cut in
          let joined = asked here (c.in-Some.is ∙ ap (λ (t : Taken). Some t) j.is) in
          let parts-are : w.parts_on-parts.result ≡ two (first_part j.direction cut l.due.piece) j.first (rest_part j.direction cut l.due.piece) j.second =
          rw w.from-cut.ensures at w.parts_on-parts.ensures
          ∙ parts-here _ _ _ _ a.nodes.now _ (on _ _ _ _ _ _ l.invariant) c.loop-at-test.true _ _ _ joined in
          rw (w.waiting-is, w.count-is, w.due-is, parts-are) (join-due _ _ _ _ _ _ l.invariant c.loop-at-test.true _ _ _ joined)
    ]

pub returns : goal.returns
returns c =
    let all : length c.args.nodes.now ≡ c.loop-at.at = omega (arith, c.loop-at-test.false) in
    ap Err all ∙ none-due _ _ _ _ _ _ c.loop-at.invariant c.loop-at-test.false
