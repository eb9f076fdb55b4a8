-- The slot adds up its four parts, as the code does.
use mathlib.Core.Path.{◌≡◌, ap, ap₂, ◌∙◌}
use Prim.Native.Nat.{ℕ, ◌+◌, ◌-◌, ◌*◌}
use Rattle.pieces.specs.Pieces.{slot_at, slot_of}
use Rattle.pieces.proofs.Slots.{slot_lt}
use Rattle.pieces.proofs.piece.Piece.slot.Goals as goal

pub returns : goal.returns
unfolding slot_of slot_at
returns c =
    let e : c.times-flatter.result + (c.times-narrower.result + (c.times.result + c.args.self.left)) ≡ slot_of c.args.size.rows c.args.size.cols c.args.self =
    ap₂ ◌+◌ (c.times-flatter.ensures.0 ∙ ap₂ ◌*◌ c.stretches_of.ensures.0 c.stretches_of-2.ensures.0)
    (ap₂ ◌+◌ (c.times-narrower.ensures.0 ∙ ap (λ (x : ℕ). (c.args.size.rows - (c.args.self.height - 1)) * x) c.stretches_of-3.ensures.0)
    (ap (λ (x : ℕ). x + c.args.self.left) c.times.ensures.0)) in
    (e, rw e (slot_lt _ _ _ c.requires.inside))
