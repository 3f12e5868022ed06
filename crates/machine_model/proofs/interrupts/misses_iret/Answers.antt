use Rattle.std.proofs.Common.{List, sym, subst, arith}
use Rattle.std.specs.List.{remove}
use Rattle.state_defs.specs.Frame.{Frame}
use Rattle.machine_defs.specs.Step.{MissesIret}
use Rattle.machine_model.specs.declared.frame.Frame.{Frame as OwnFrame}
use Rattle.machine_model.specs.Frame.{frames_of}
use Rattle.machine_model.specs.Standing.{core_of}
use Rattle.machine_model.proofs.Frames.{first_removed}
use Rattle.machine_model.proofs.Misses.{none_irets}
use Rattle.machine_model.proofs.interrupts.misses_iret.Goals as goal

pub returns-in-len1-up : goal.returns-in-len1-up
returns-in-len1-up c = λ h.
    subst (λ (xs : List OwnFrame). MissesIret (core_of c.args.core.now) (frames_of xs)) c.as_slice.ensures.value
    (subst (λ (fs : List Frame). MissesIret (core_of c.args.core.now) fs) (sym (first_removed c.as_slice.result.now _ c.in-len1-up.len_at_least))
    (c.misses_interrupt.ensures (frames_of (remove c.as_slice.result.now 0)) h))

pub returns-in-empty : goal.returns-in-empty
returns-in-empty c = λ h.
    subst (λ (xs : List OwnFrame). MissesIret (core_of c.args.core.now) (frames_of xs)) c.as_slice.ensures.value
    (none_irets (core_of c.args.core.now) c.as_slice.result.now (omega (arith, c.in-empty.len_below)))
