use Rattle.std.proofs.Common.{List, ◌++◌, refl, ap, ◌∙◌}
use Rattle.machine_model.specs.declared.frame.Protected.{Protected}
use Rattle.machine_model.proofs.Frames.{protected_more}
use Rattle.machine_model.proofs.shadow.protected.Goals as goal

pub loop-frame-preserved : goal.loop-frame-preserved
loop-frame-preserved c =
    protected_more c.args.frames.now c.loop-frame.frame-index _ _ c.loop-frame.slots.items c.in_ok-words.words.items _ c.loop-frame-test.true refl c.loop-frame.invariant c.in_ok-words.ensures
    (c.in_ok-extend_from_slice.ensures.items ∙ ap (λ (xs : List Protected). c.loop-frame.slots.items ++ xs) c.as_slice.ensures.value)
