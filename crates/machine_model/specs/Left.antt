-- What a return makes of a state.
use Rattle.std.specs.Prelude.{◌≡◌, ℕ, ◌∷◌, false, Contains}
use Rattle.machine_defs.specs.Program.{Program}
use Rattle.machine_defs.specs.MayReturn.{is_listed}
use Rattle.machine_model.specs.declared.frame.Frame.{Frame}
use Rattle.program_model.specs.declared.region.Region.{Region}
use Rattle.machine_model.specs.declared.standing.Standing.{Standing as OwnStanding}
use Rattle.machine_model.specs.Frame.{frame_of, frames_of, mark_of}
use Rattle.program_model.specs.Region.{region_of}
use Rattle.machine_model.specs.Standing.{core_of}
use Rattle.std.specs.Prelude.{option_map}

-- the call comes back to this point
pub record ComesBack (p : Program) (call to : ℕ) : Type 0 where
  pub passed : p.dead_end call ≡ false
  pub unlisted : is_listed p call ≡ false
  pub follows : Contains (p.after call) to

-- the top frame is taken off
pub record IsPopped (s : OwnStanding) (frame : Frame) (t : OwnStanding) : Type 0 where
  pub shadow : frames_of s.core.shadow.items ≡ frame_of frame ∷ frames_of t.core.shadow.items
  pub core : core_of t.core ≡ record (core_of s.core) { shadow = frames_of t.core.shadow.items }

-- control goes back below that frame, with this memory and rsp
pub record IsBack (popped : OwnStanding) (frame : Frame) (rsp : ℕ) (region : Region) (to : ℕ) (t : OwnStanding) : Type 0 where
  pub point : t.point ≡ to
  pub core : core_of t.core ≡ record (core_of popped.core) { rsp = rsp; region = region_of region }
  pub ended : t.ended ≡ frame.ended_caller
  pub mark : option_map mark_of t.mark ≡ option_map mark_of frame.mark_caller

-- the interrupted state, below that frame
pub record IsResumed (popped : OwnStanding) (frame : Frame) (to : ℕ) (t : OwnStanding) : Type 0 where
  pub point : t.point ≡ to
  pub core : core_of t.core ≡ record (core_of popped.core) { rsp = frame.cfa; ac = frame.ac }
  pub ended : t.ended ≡ frame.ended_caller
  pub mark : option_map mark_of t.mark ≡ option_map mark_of frame.mark_caller
