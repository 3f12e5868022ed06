-- The top frame of a shadow call stack that isn't empty.
use Rattle.std.proofs.Common.{◌≡◌, ◌≤◌, List, [], ◌∷◌, length, get_or, arith, refl, sym, ap}
use Rattle.std.specs.List.{remove}
use Rattle.state_defs.specs.Frame.{Frame}
use Rattle.machine_model.specs.declared.frame.Frame.{Frame as OwnFrame}
use Rattle.machine_model.specs.Frame.{frame_of, frames_of}

pub top_is : (xs : List OwnFrame) (d : OwnFrame) (f : Frame) (fs : List Frame) → 1 ≤ length xs → frames_of xs ≡ f ∷ fs → f ≡ frame_of (get_or xs 0 d)
top_is [] d f fs some e = absurd (omega (arith, some))
top_is (x ∷ xs) d f fs some e = sym (ap (λ (ys : List Frame). get_or ys 0 f) e)

pub first_removed : (xs : List OwnFrame) (d : OwnFrame) → 1 ≤ length xs → frames_of xs ≡ frame_of (get_or xs 0 d) ∷ frames_of (remove xs 0)
first_removed [] d some = absurd (omega (arith, some))
first_removed (x ∷ xs) d some = refl
