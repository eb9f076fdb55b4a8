-- The closed form of the sum.
use mathlib.Core.Path.{◌≡◌, sym, ap, ◌∙◌}
use Prim.Native.Nat.{ℕ, ◌/◌}
use native.Mathlib.Omega.{arith}
use Rattle.pieces.specs.Most.{most}
use Rattle.pieces.specs.Pieces.{stretches}
use Rattle.pieces.proofs.Stretches.{stretches-closed, stretches-few}
use Rattle.pieces.proofs.piece.stretches_of.Goals as goal

pub returns : goal.returns
returns c =
    let a = c.args in
    let e : c.times.result / 2 ≡ stretches a.n a.k =
    ap (λ (x : ℕ). x / 2) c.times.ensures.0 ∙ sym (stretches-closed a.n a.k (omega arith)) in
    (e, omega (arith, stretches-few most a.n a.k (omega arith) (omega arith)))
