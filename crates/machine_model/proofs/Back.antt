-- A return, from what the model does.
use Rattle.std.proofs.Common.{◌≡◌, ℕ, true, List, Some, is_some, sym, ap, subst}
use Rattle.std.specs.Prelude.{Contains, IsTrue}
use Rattle.machine_defs.specs.declared.flow.Role.{Role}
use Rattle.state_defs.specs.Address.{up}
use Rattle.state_defs.specs.Region.{Region}
use Rattle.state_defs.specs.Frame.{Frame}
use Rattle.state_defs.specs.Effect.{Core}
use Rattle.machine_defs.specs.Program.{Program}
use Rattle.machine_defs.specs.Step.{may_go_back, IsAtReturn, LeavesMemory, ends_run, Returns}
use Rattle.program_model.specs.declared.region.Region.{Region as OwnRegion}
use Rattle.program_model.specs.Region.{region_of}
use Rattle.machine_model.specs.declared.frame.Frame.{Frame as OwnFrame}
use Rattle.machine_model.specs.declared.standing.Standing.{Standing as OwnStanding}
use Rattle.machine_model.specs.Frame.{frame_of, frames_of}
use Rattle.machine_model.specs.Standing.{core_of, standing_of}
use Rattle.machine_model.specs.Left.{ComesBack, IsPopped, IsBack}

-- registers and memory below the frame that was taken off
core_back : (s popped t : Core) (below : List Frame) (region : Region) → popped ≡ record s { shadow = below } → t ≡ record popped { rsp = up popped.rsp 8; region = region }
    → t ≡ record s { rsp = up s.rsp 8; region = t.region; shadow = below }
core_back s popped t below region left back =
    let e : t ≡ record s { rsp = up s.rsp 8; region = region; shadow = below } = subst (λ (c : Core). t ≡ record c { rsp = up c.rsp 8; region = region }) left back in
    subst (λ (r : Region). t ≡ record s { rsp = up s.rsp 8; region = r; shadow = below }) (sym (ap (λ (c : Core). c.region) e)) e

ready_before : (s popped : Core) (below : List Frame) (f : Frame) → popped ≡ record s { shadow = below } → IsAtReturn popped f → IsAtReturn s f
ready_before s popped below f left ready =
    let r : IsAtReturn (record s { shadow = below }) f = subst (λ (c : Core). IsAtReturn c f) left ready in
    record { of_call = r.of_call; ra = r.ra; cfa = r.cfa; bp = r.bp }

memory_back : (s popped t : Core) (below : List Frame) (region : Region) (role : Role) → popped ≡ record s { shadow = below } → t ≡ record popped { rsp = up popped.rsp 8; region = region }
    → LeavesMemory role below popped.region region → LeavesMemory role below s.region t.region
memory_back s popped t below region role left back memory =
    subst (λ (r : Region). LeavesMemory role below s.region r) (sym (ap (λ (c : Core). c.region) back))
    (subst (λ (r : Region). LeavesMemory role below r region) (ap (λ (c : Core). c.region) left) memory)

pub returns_hold : (P : Program) (s popped t : OwnStanding) (frame : OwnFrame) (call to : ℕ) (role : Role) (region : OwnRegion) → role ≡ P.role s.point → IsTrue (may_go_back P role)
    → IsPopped s frame popped → frame.call ≡ Some call → (ends_run P (standing_of s) ≡ true → is_some frame.ended_caller ≡ true) → IsAtReturn (core_of popped.core) (frame_of frame) → ComesBack P call to
    → LeavesMemory role (frames_of popped.core.shadow.items) (region_of popped.core.region) (region_of region) → IsBack popped frame (up popped.core.rsp 8) region to t
    → Returns P (standing_of s) (standing_of t)
returns_hold P s popped t frame call to role region is leaves left called followed ready passes memory back = record {
  leaves = subst (λ (r : Role). IsTrue (may_go_back P r)) is leaves;
  frame = frame_of frame;
  below = frames_of popped.core.shadow.items;
  shadow = left.shadow;
  ready = ready_before (core_of s.core) (core_of popped.core) (frames_of popped.core.shadow.items) (frame_of frame) left.core ready;
  call = call;
  called = called;
  passed = passes.passed;
  unlisted = passes.unlisted;
  still_ended = followed;
  comes_back = subst (λ (q : ℕ). Contains (P.after call) q) (sym back.point) passes.follows;
  memory = subst (λ (r : Role). LeavesMemory r (frames_of popped.core.shadow.items) (region_of s.core.region) (region_of t.core.region)) is
      (memory_back (core_of s.core) (core_of popped.core) (core_of t.core) (frames_of popped.core.shadow.items) (region_of region) role left.core back.core memory);
  core = core_back (core_of s.core) (core_of popped.core) (core_of t.core) (frames_of popped.core.shadow.items) (region_of region) left.core back.core;
  ended = back.ended;
  mark = back.mark;
}
