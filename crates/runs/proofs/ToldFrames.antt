-- What is told of a length, or of a run's framing, is an error exactly where there is a fault.
use mathlib.Core.Path.{◌≡◌, refl, sym, ap}
use mathlib.Core.Bool.{false}
use native.Mathlib.Omega.{arith}
use Rattle.std.specs.Prelude.{Result, Ok, Err}
use Rattle.std.specs.Result.{is_err, IsOk}
use Rattle.names.specs.Fault.{Fault}
use Rattle.names.specs.Told.{told_end}
use Rattle.names.specs.declared.fault.Fault.{Fault as CodeFault}
use Rattle.names.proofs.Refusing.{number-some}
use Rattle.runs.specs.Run.{Frame, framed}
use Rattle.runs.specs.declared.framing.Frame.{Frame as CodeFrame}
use Rattle.runs.specs.inner.Framed.{told_frame}

pub run-fine : (r : Result (Unit {0}) CodeFault) (f : Fault) → told_end r ≡ f → is_err r ≡ false → f.number ≡ 0
run-fine (Ok u) f e is = ap (λ (g : Fault). g.number) (sym e)
run-fine (Err g) f e is = absurd (cc)

pub frame-there : (r : Result CodeFrame CodeFault) (f : Frame) → told_frame r ≡ f → f.fault.number ≡ 0 → IsOk r
frame-there (Ok g) f e z = refl
frame-there (Err g) f e z = absurd (omega (arith, ap (λ (h : Frame). h.fault.number) e, number-some g.refusal))

pub frame-is : (r : Result CodeFrame CodeFault) (f : Frame) (g : CodeFrame) → told_frame r ≡ f → r ≡ Ok g → f ≡ framed g.start g.end
frame-is r f g e is = sym (rw is at e)
