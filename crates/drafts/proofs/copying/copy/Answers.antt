-- What stands after each turn is the copy of so many bytes; after the last it is the bytes put at the place.
use Prim.Native.Nat.{ℕ, ◌+◌, ◌<◌, ◌≤◌}
use native.Mathlib.Numerals.{add-one}
use mathlib.Core.Path.{◌≡◌, sym, ap, ◌∙◌}
use mathlib.Core.List.{List, ◌++◌}
use native.Mathlib.Omega.{arith}
use lib.ListN.{length, take, drop}
use lib.Seq.{paste, paste-suc, take-length}
use Rattle.names.specs.Put.{put}
use Rattle.names.proofs.Putting.{put_in, put-out, past-out, past-in}
use Rattle.drafts.proofs.copying.copy.Goals as goal
use Rattle.drafts.proofs.copying.copy.Goals.{then-out-at-via-then-out-at, then-out-at-via-else-out-at+then-out-at-2}

pub returns-then-out-at : goal.returns-then-out-at
returns-then-out-at c =
    let a = c.args in
    let none : length a.out.now < a.at + length a.bytes.now =
    elim c.then-out-at.branch [
      | then-out-at-via-then-out-at w ↦ omega (arith, w.if-out-at.true)
      | then-out-at-via-else-out-at+then-out-at-2 w ↦ omega (arith, w.if-out-at.false, w.if-out-at-2.true)
    ]
    in
    (sym (past-out _ _ _ none), sym (put-out _ _ _ none))

pub loop-i-preserved : goal.loop-i-preserved
loop-i-preserved c =
    let a = c.args in
    (omega arith, rw (c.loop-i.invariant.1, add-one) (paste-suc a.out.now a.at a.bytes.now c.loop-i.i 0 (omega arith) (omega arith)))

-- all bytes pasted are the bytes put
put-paste : (out : List ℕ) (at : ℕ) (l : List ℕ) → at + length l ≤ length out → paste out at l (length l) ≡ put out at l
put-paste out at l h = ap (λ (x : List ℕ). take at out ++ x ++ drop (at + length l) out) (take-length l) ∙ sym (put_in out at l h)

pub returns : goal.returns
returns c =
    let a = c.args in
    let all : c.loop-i.i ≡ length a.bytes.now = omega arith in
    let room : a.at + length a.bytes.now ≤ length a.out.now = omega arith in
    (sym (past-in _ _ _ room), c.loop-i.invariant.1 ∙ (ap (paste a.out.now a.at a.bytes.now) all ∙ put-paste _ _ _ room))
