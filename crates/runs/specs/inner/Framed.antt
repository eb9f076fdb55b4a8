-- What the code tells of a length, as the definition tells it: where the sheet stands, or the fault.
use Rattle.std.specs.Prelude.{Result, Ok, Err}
use Rattle.names.specs.Fault.{told_fault}
use Rattle.names.specs.declared.fault.Fault.{Fault as CodeFault}
use Rattle.runs.specs.Run.{Frame, framed, unframed}
use Rattle.runs.specs.declared.framing.Frame.{Frame as CodeFrame}

abbrev pub told_frame : Result CodeFrame CodeFault → Frame
told_frame (Ok f) = framed f.start f.end
told_frame (Err f) = unframed (told_fault f)
