-- The words so far are those of the frames so far.
use Rattle.std.proofs.Common.{◌≡◌, take}
use Rattle.std.specs.Prelude.{flat_map}
use Rattle.state_defs.specs.Frame.{protected}
use Rattle.machine_model.specs.Frame.{frames_of, words_of}
use Rattle.machine_model.proofs.shadow.protected.Given as goal

abbrev pub invariant-loop-frame : goal.invariant-loop-frame
invariant-loop-frame l = words_of l.slots.items ≡ flat_map protected (frames_of (take l.frame-index l.frames))
