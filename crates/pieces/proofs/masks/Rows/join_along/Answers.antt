-- With so many cuts ahead the course has gone as many steps as there were cuts before, and these are gathered, by a trial for each join at each of them.
use mathlib.Core.Path.{◌≡◌, refl, sym, ap, ap₂, ◌∙◌}
use Prim.Native.Nat.{ℕ, ◌+◌, ◌-◌, ◌*◌}
use native.Mathlib.Omega.{arith}
use lib.Bits.{bit_or, or_zero_r}
use lib.ListN.{get_or}
use Rattle.pieces.specs.Firing.{gathered}
use Rattle.pieces.specs.inner.Course.{step, after}
use Rattle.pieces.specs.inner.Along.{all_fired, at_cut, along}
use Rattle.pieces.specs.inner.Tally.{joined}
use Rattle.pieces.specs.declared.course.Course.{Course}
use Rattle.pieces.specs.declared.masks.Joined.{Joined}
use Rattle.pieces.proofs.Courses.{after_next}
use Rattle.pieces.proofs.Gathered.{gathered_next, or_assoc}
use Rattle.pieces.proofs.masks.Rows.join_along.Goals as goal
use Rattle.pieces.proofs.masks.Rows.join_along.Goals.{In-loop-ahead}

pub loop-ahead-init : goal.loop-ahead-init
unfolding after gathered
loop-ahead-init c =
    let a = c.args in
    let none : a.course.cuts - a.course.cuts ≡ 0 = omega arith in
    rw none (omega arith, refl, sym (or_zero_r a.before.heads), omega arith)

pub loop-ahead-preserved : goal.loop-ahead-preserved
loop-ahead-preserved c =
    let a = c.args in
    let w = a.work.now in
    let k = (c.args.course.cuts - c.loop-ahead._ahead) in
    let e = c.step-c.ensures ∙ ap step c.loop-ahead.invariant.1 in
    let here = ap₂ (λ (x y : Course). all_fired a.self.now.masks.now a.self.now.count (get_or w x.first 0) (get_or w y.second 0)) c.loop-ahead.invariant.1 e in
    let fired = ap (λ (x : Joined). x.heads) c.join-j.ensures ∙ here in
    let more : k + 1 ≡ a.course.cuts - (c.loop-ahead._ahead - 1) = omega arith in
    rw (← more) (
      omega arith,
      e ∙ sym (after_next k a.course),
      ap₂ bit_or c.loop-ahead.invariant.2 fired ∙ or_assoc a.before.heads _ _ ∙ ap (bit_or a.before.heads) (sym (gathered_next k _)),
      omega (arith, c.loop-ahead.invariant.3, ap (λ (x : Joined). x.trials) c.join-j.ensures),
    )

pub returns : goal.returns
unfolding along
returns c =
    let a = c.args in
    let all : (c.args.course.cuts - c.loop-ahead._ahead) ≡ a.course.cuts = omega arith in
    ap₂ joined
    (c.loop-ahead.invariant.2 ∙ ap (λ (k : ℕ). bit_or a.before.heads (gathered k (at_cut a.work.now a.self.now.masks.now a.self.now.count a.course))) all)
    (c.loop-ahead.invariant.3 ∙ ap (λ (k : ℕ). a.before.trials + k * a.self.now.count) all)
