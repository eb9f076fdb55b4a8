-- Along the two courses are all cuts of the piece.
use mathlib.Core.Path.{◌≡◌, ap, ◌∙◌}
use native.Mathlib.Omega.{arith}
use Rattle.books.specs.declared.rule.Dir.TheVariants.{Across as across, Down as down}
use Rattle.pieces.specs.inner.Along.{window, also_along}
use Rattle.pieces.specs.inner.Course.{course_of}
use Rattle.pieces.specs.inner.Tally.{joined}
use Rattle.pieces.specs.declared.masks.Joined.{Joined}
use Rattle.pieces.proofs.AllCuts.{cuts-tried, both-along}
use Rattle.pieces.proofs.Courses.{course-runs}
use Rattle.pieces.proofs.masks.Masks.entry_of.Goals as goal
use Rattle.pieces.proofs.masks.Masks.entry_of.Goals.{After-join_along-found}

-- what is found down
down-joined : (c : After-join_along-found) → let m = c.args.self.now in
    let x = c.args.x in
    c.join_along-found.result
    ≡ also_along c.args.work.now (window m.masks.now m.joins down) m.joins.down (course_of down x.size.rows x.size.cols x.piece) (joined 0 c.args.trials)
down-joined c =
    c.join_along-found.ensures
    ∙ (λ i. also_along c.args.work.now (c.rows.ensures.masks i) (c.rows.ensures.count i) (c.begin-down.ensures i) (joined 0 c.args.trials))

pub join_along-found-requires : goal.join_along-found-requires
join_along-found-requires c =
    let x = c.args.x in
    rw (c.begin-down.ensures, c.rows.ensures.count) (record {
      runs = course-runs down _ _ _ _ x.here.room x.here.inside c.requires.entries;
      few = omega (arith, c.requires.few, cuts-tried c.args.self.now.joins x.size.rows x.size.cols x.piece);
    })

pub join_along-requires : goal.join_along-requires
join_along-requires c =
    let x = c.args.x in
    let made = ap (λ (x : Joined). x.trials) (down-joined (goal.at.join_along-requires c).After-join_along-found) in
    rw (c.begin-across.ensures, c.rows-2.ensures.count) (record {
      runs = course-runs across _ _ _ _ x.here.room x.here.inside c.requires.entries;
      few = omega (arith, made, c.requires.few, cuts-tried c.args.self.now.joins x.size.rows x.size.cols x.piece);
    })

pub returns : goal.returns
returns c =
    let m = c.args.self.now in
    let x = c.args.x in
    let w = c.args.work.now in
    c.join_along.ensures
    ∙ (λ i. also_along w (c.rows-2.ensures.masks i) (c.rows-2.ensures.count i) (c.begin-across.ensures i) (down-joined (goal.at.returns c).After-join_along-found i))
    ∙ both-along m.masks.now m.joins _ _ w x.piece c.args.trials m.fit.down_few x.here.inside
