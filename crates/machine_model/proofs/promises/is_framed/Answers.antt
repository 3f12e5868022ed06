use Rattle.std.proofs.Common.{sym, subst, arith}
use Rattle.state_defs.specs.Frame.{Frame}
use Rattle.option_law.specs.Frames.{HasFramePointer}
use Rattle.machine_model.specs.Standing.{core_of}
use Rattle.machine_model.proofs.Top.{top_is, first_removed}
use Rattle.machine_model.proofs.promises.is_framed.Goals as goal

pub returns-else-not-is_of_call : goal.returns-else-not-is_of_call
returns-else-not-is_of_call c = (
  λ h f fs e _. subst (λ (g : Frame). HasFramePointer (core_of c.args.core.now) g) (sym (top_is c.args.shadow.now _ f fs c.in-len1-up.len_at_least e)) (c.has_frame_pointer.ensures.0 h),
  λ h. c.has_frame_pointer.ensures.1 (h _ _ (first_removed c.args.shadow.now _ c.in-len1-up.len_at_least)
      (let of_call = c.is_of_call.ensures in let passes = c.if-not-is_of_call.false in grind arith)),
)
