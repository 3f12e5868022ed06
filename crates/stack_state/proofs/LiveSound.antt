-- Each move of a live state is sound.
use Rattle.std.proofs.Common.{◌≡◌, List, ◌∷◌, ℤ, pos, negsuc, ◌+ℤ◌, arith, refl, ap}
use Rattle.std.specs.Prelude.{Option, Some, None, Ok}
use Rattle.std.proofs.lemmas.Int.{ints}
use Rattle.operation_defs.specs.declared.op.Op.{Op}
use Rattle.operation_defs.specs.declared.op.Op.TheVariants.{Plain, Nop, Endbr, Push, PushBp, Pop, PopBp, Popf, AddSp, AndSp, LeaSpBp, LeaBpSp, LeaBpRoom, SubSp, SpReg, StoreBp, LoadBp, Leave, SpOther, BpOther, Call, Hop, CallInd, Jmp, Jcc, JmpInd, Ret, RetImm, Iret, IretNext, Switch, Ud2, Int3, Stac, Clac}
use Rattle.state_defs.specs.declared.state.Depth.{Depth}
use Rattle.state_defs.specs.declared.state.Depth.TheVariants.{Known, AtLeast}
use Rattle.state_defs.specs.declared.state.BpHome.{BpHome}
use Rattle.state_defs.specs.declared.state.BpHome.TheVariants.{Same, Saved}
use Rattle.state_defs.specs.declared.state.State.{State}
use Rattle.state_defs.specs.declared.state.State.TheVariants.{Live}
use Rattle.state_defs.specs.Address.{up, down, shifted}
use Rattle.state_defs.specs.Region.{WritesOnly}
use Rattle.state_defs.specs.Frame.{Frame, listed, with_top_slot, popped_slot, loaded_slot}
use Rattle.state_defs.specs.Effect.{Core, HasSignedNumber, MakesRoom, Effect}
use Rattle.state_defs.specs.State.{depth_of, with_depth, MeansLive}
use Rattle.state_defs.specs.Move.{to, raise, pop_bp, make_room, leave, move_live}
use Rattle.stack_state.proofs.LiveMoves.{stay_sound, shift_sound, raise_sound, align_sound, rsp_from_bp_sound, bp_from_rsp_sound, make_room_sound, base_over_room_sound, lose_bp_sound}
use Rattle.stack_state.proofs.LiveSlots.{push_bp_sound, pop_at_sound, load_bp_sound}
use Rattle.stack_state.proofs.LiveStores.{steady_same, steady_ordinary, store_bp_sound}
use Rattle.stack_state.proofs.Memory.{same_top}
use Rattle.stack_state.proofs.Pushes.{pushed_held}
use Rattle.stack_state.proofs.Results.{refused_then, allowed_is}
use Rattle.stack_state.proofs.Scenes.{Scene, Arrives}

-- an operation that does nothing to registers, memory and frames
idle_sound : (depth : Depth) (fp : Option ℤ) (home : BpHome) (before after : Core) (f : Frame) (below : List Frame) (t : State)
    → Scene (Live depth fp home) before after f below → after.rsp ≡ before.rsp → after.rbp ≡ before.rbp → after.region ≡ before.region → after.shadow ≡ before.shadow
    → to (Live depth fp home) ≡ Ok t → Arrives t after f below
idle_sound depth fp home before after f below t scene rsp rbp memory frames e =
    stay_sound depth fp home before after f below t scene (steady_same (Live depth fp home) before after f below scene frames memory) rsp rbp e

nothing_sound : (depth : Depth) (fp : Option ℤ) (home : BpHome) (before after : Core) (f : Frame) (below : List Frame) (t : State)
    → Scene (Live depth fp home) before after f below → after ≡ before → to (Live depth fp home) ≡ Ok t → Arrives t after f below
nothing_sound depth fp home before after f below t scene same e =
    idle_sound depth fp home before after f below t scene
    (ap (λ (c : Core). c.rsp) same) (ap (λ (c : Core). c.rbp) same) (ap (λ (c : Core). c.region) same) (ap (λ (c : Core). c.shadow) same) e

push_sound : (depth : Depth) (fp : Option ℤ) (home : BpHome) (before after : Core) (f : Frame) (below : List Frame) (t : State)
    → Scene (Live depth fp home) before after f below → Effect Push before after
    → to (Live (with_depth depth (depth_of depth +ℤ pos 8)) fp home) ≡ Ok t → Arrives t after f below
push_sound depth fp home before after f below t scene effect e =
    let done : after ≡ record before { rsp = down before.rsp 8; region = after.region } = effect.1 in
    let write : WritesOnly (down before.rsp 8) 8 before.region after.region = effect.0 in
    let rsp : after.rsp ≡ down before.rsp 8 = ap (λ (c : Core). c.rsp) done in
    shift_sound (negsuc 7) (depth_of depth +ℤ pos 8) depth fp home before after f below t scene
    (record {
      frames = ap (λ (c : Core). c.shadow) done;
      top = same_top before.region after.region write.addresses;
      held = pushed_held before after (f ∷ listed f.ended_caller below) scene.first scene.last rsp write scene.told.kept.above scene.told.kept.hold;
    })
    rsp (ap (λ (c : Core). c.rbp) done) (omega (arith, ints)) e

pop_bp_sound : (depth : Depth) (fp : Option ℤ) (home : BpHome) (before after : Core) (f : Frame) (below : List Frame) (t : State)
    → Scene (Live depth fp home) before after f below → Effect PopBp before after → pop_bp depth home ≡ Ok t → Arrives t after f below
pop_bp_sound depth fp Same before after f below t scene effect e = refused_then (Arrives t after f below) _ t e
pop_bp_sound (AtLeast n) fp (Saved o) before after f below t scene effect e = refused_then (Arrives t after f below) _ t e
pop_bp_sound (Known n) fp (Saved o) before after f below t scene effect e =
    let means : MeansLive (Known n) fp (Saved o) before.rsp before.rbp f = scene.told.means in
    let done : after ≡ record before { rsp = up before.rsp 8; rbp = after.rbp; shadow = with_top_slot (popped_slot before.rsp) before.shadow } = effect.1 in
    pop_at_sound (Live (Known n) fp (Saved o)) before after f below t scene n o before.rsp (popped_slot before.rsp) (λ a. refl) means.bp means.depth effect.0
    (ap (λ (c : Core). c.rsp) done) (ap (λ (c : Core). c.shadow) done) (ap (λ (c : Core). c.region) done) e

leave_sound : (depth : Depth) (fp : Option ℤ) (home : BpHome) (before after : Core) (f : Frame) (below : List Frame) (t : State)
    → Scene (Live depth fp home) before after f below → Effect Leave before after → leave fp home ≡ Ok t → Arrives t after f below
leave_sound depth None home before after f below t scene effect e = refused_then (Arrives t after f below) _ t e
leave_sound depth (Some m) Same before after f below t scene effect e = refused_then (Arrives t after f below) _ t e
leave_sound depth (Some m) (Saved o) before after f below t scene effect e =
    let means : MeansLive depth (Some m) (Saved o) before.rsp before.rbp f = scene.told.means in
    let done : after ≡ record before { rsp = up before.rbp 8; rbp = after.rbp; shadow = with_top_slot (loaded_slot before.rbp) before.shadow } = effect.1 in
    pop_at_sound (Live depth (Some m) (Saved o)) before after f below t scene m o before.rbp (loaded_slot before.rbp) (λ a. refl) means.bp means.fp effect.0
    (ap (λ (c : Core). c.rsp) done) (ap (λ (c : Core). c.shadow) done) (ap (λ (c : Core). c.region) done) e

room_sound : (depth : Depth) (fp : Option ℤ) (home : BpHome) (before after : Core) (f : Frame) (below : List Frame) (t : State)
    → Scene (Live depth fp home) before after f below → MakesRoom before after → make_room depth fp home ≡ Ok t → Arrives t after f below
room_sound depth fp home before after f below t scene room e =
    make_room_sound depth fp home before after f below t scene
    (steady_same (Live depth fp home) before after f below scene (ap (λ (c : Core). c.shadow) room.1) (ap (λ (c : Core). c.region) room.1))
    room.0 (ap (λ (c : Core). c.rbp) room.1) e

-- by each operation
pub live_sound : (depth : Depth) (fp : Option ℤ) (home : BpHome) (before after : Core) (f : Frame) (below : List Frame) (t : State) (op : Op)
    → Scene (Live depth fp home) before after f below → HasSignedNumber op → Effect op before after → move_live depth fp home op ≡ Ok t → Arrives t after f below
live_sound depth fp home before after f below t Plain scene fits effect e =
    stay_sound depth fp home before after f below t scene
    (steady_ordinary (Live depth fp home) before after f below scene (ap (λ (c : Core). c.shadow) effect.1) effect.0)
    (ap (λ (c : Core). c.rsp) effect.1) (ap (λ (c : Core). c.rbp) effect.1) e
live_sound depth fp home before after f below t Nop scene fits effect e = nothing_sound depth fp home before after f below t scene effect e
live_sound depth fp home before after f below t Endbr scene fits effect e = nothing_sound depth fp home before after f below t scene effect e
live_sound depth fp home before after f below t Push scene fits effect e = push_sound depth fp home before after f below t scene effect e
live_sound depth fp home before after f below t Hop scene fits effect e = push_sound depth fp home before after f below t scene effect e
live_sound depth fp home before after f below t PushBp scene fits effect e =
    push_bp_sound depth fp home before after f below t scene effect.0
    (ap (λ (c : Core). c.rsp) effect.1) (ap (λ (c : Core). c.rbp) effect.1) (ap (λ (c : Core). c.shadow) effect.1) e
live_sound depth fp home before after f below t Pop scene fits effect e =
    raise_sound (pos 8) depth fp home before after f below t scene
    (steady_ordinary (Live depth fp home) before after f below scene (ap (λ (c : Core). c.shadow) effect.1) effect.0)
    (ap (λ (c : Core). c.rsp) effect.1) (ap (λ (c : Core). c.rbp) effect.1) e
live_sound depth fp home before after f below t PopBp scene fits effect e = pop_bp_sound depth fp home before after f below t scene effect e
live_sound depth fp home before after f below t Popf scene fits effect e =
    raise_sound (pos 8) depth fp home before after f below t scene
    (steady_same (Live depth fp home) before after f below scene (ap (λ (c : Core). c.shadow) effect.1) (ap (λ (c : Core). c.region) effect.1))
    (ap (λ (c : Core). c.rsp) effect.1) (ap (λ (c : Core). c.rbp) effect.1) e
live_sound depth fp home before after f below t (AddSp by) scene fits effect e =
    raise_sound by depth fp home before after f below t scene
    (steady_same (Live depth fp home) before after f below scene (ap (λ (c : Core). c.shadow) effect) (ap (λ (c : Core). c.region) effect))
    (ap (λ (c : Core). c.rsp) effect) (ap (λ (c : Core). c.rbp) effect) e
live_sound depth fp home before after f below t (AndSp mask) scene fits effect e =
    align_sound (shifted 0 mask) depth fp home before after f below t scene
    (steady_same (Live depth fp home) before after f below scene (ap (λ (c : Core). c.shadow) effect) (ap (λ (c : Core). c.region) effect))
    (ap (λ (c : Core). c.rsp) effect) (ap (λ (c : Core). c.rbp) effect) e
live_sound depth fp home before after f below t (LeaSpBp by) scene fits effect e =
    rsp_from_bp_sound by depth fp home before after f below t scene
    (steady_same (Live depth fp home) before after f below scene (ap (λ (c : Core). c.shadow) effect) (ap (λ (c : Core). c.region) effect))
    (ap (λ (c : Core). c.rsp) effect) (ap (λ (c : Core). c.rbp) effect) e
live_sound depth fp home before after f below t (LeaBpSp by) scene fits effect e =
    bp_from_rsp_sound by depth fp home before after f below t scene
    (steady_same (Live depth fp home) before after f below scene (ap (λ (c : Core). c.shadow) effect) (ap (λ (c : Core). c.region) effect))
    (ap (λ (c : Core). c.rsp) effect) (ap (λ (c : Core). c.rbp) effect) e
live_sound depth fp home before after f below t (LeaBpRoom by) scene fits effect e =
    base_over_room_sound by depth fp home before after f below t scene
    (steady_same (Live depth fp home) before after f below scene (ap (λ (c : Core). c.shadow) effect) (ap (λ (c : Core). c.region) effect))
    (ap (λ (c : Core). c.rsp) effect) (ap (λ (c : Core). c.rbp) effect) e
live_sound depth fp home before after f below t SubSp scene fits effect e = room_sound depth fp home before after f below t scene effect e
live_sound depth fp home before after f below t SpReg scene fits effect e = room_sound depth fp home before after f below t scene effect e
live_sound depth fp home before after f below t (StoreBp at) scene fits effect e = store_bp_sound at depth fp home before after f below t scene effect.0 effect.1 e
live_sound depth fp home before after f below t (LoadBp at) scene fits effect e =
    load_bp_sound at depth fp home before after f below t scene fits (loaded_slot (shifted before.rsp at)) (λ a. refl) effect.0
    (ap (λ (c : Core). c.rsp) effect.1) (ap (λ (c : Core). c.shadow) effect.1) (ap (λ (c : Core). c.region) effect.1) e
live_sound depth fp home before after f below t Leave scene fits effect e = leave_sound depth fp home before after f below t scene effect e
live_sound depth fp home before after f below t SpOther scene fits effect e = refused_then (Arrives t after f below) _ t e
live_sound depth fp home before after f below t BpOther scene fits effect e =
    lose_bp_sound depth fp home before after f below t scene
    (steady_ordinary (Live depth fp home) before after f below scene (ap (λ (c : Core). c.shadow) effect.1) effect.0)
    (ap (λ (c : Core). c.rsp) effect.1) e
live_sound depth fp home before after f below t (Call rel) scene fits effect e = absurd effect
live_sound depth fp home before after f below t CallInd scene fits effect e = absurd effect
live_sound depth fp home before after f below t (Jmp rel wide) scene fits effect e = nothing_sound depth fp home before after f below t scene effect e
live_sound depth fp home before after f below t (Jcc rel wide) scene fits effect e = nothing_sound depth fp home before after f below t scene effect e
live_sound depth fp home before after f below t (JmpInd table) scene fits effect e = nothing_sound depth fp home before after f below t scene effect e
live_sound depth fp home before after f below t Ret scene fits effect e = absurd effect
live_sound depth fp home before after f below t RetImm scene fits effect e = absurd effect
live_sound depth fp home before after f below t Iret scene fits effect e = absurd effect
live_sound depth fp home before after f below t IretNext scene fits effect e =
    raise_sound (pos 40) depth fp home before after f below t scene
    (steady_same (Live depth fp home) before after f below scene (ap (λ (c : Core). c.shadow) effect) (ap (λ (c : Core). c.region) effect))
    (ap (λ (c : Core). c.rsp) effect) (ap (λ (c : Core). c.rbp) effect) (allowed_is (raise (pos 40) depth fp home) t e)
live_sound depth fp home before after f below t Switch scene fits effect e = absurd effect
live_sound depth fp home before after f below t Ud2 scene fits effect e = nothing_sound depth fp home before after f below t scene effect e
live_sound depth fp home before after f below t Int3 scene fits effect e = nothing_sound depth fp home before after f below t scene effect e
live_sound depth fp home before after f below t Stac scene fits effect e =
    idle_sound depth fp home before after f below t scene
    (ap (λ (c : Core). c.rsp) effect) (ap (λ (c : Core). c.rbp) effect) (ap (λ (c : Core). c.region) effect) (ap (λ (c : Core). c.shadow) effect) e
live_sound depth fp home before after f below t Clac scene fits effect e =
    idle_sound depth fp home before after f below t scene
    (ap (λ (c : Core). c.rsp) effect) (ap (λ (c : Core). c.rbp) effect) (ap (λ (c : Core). c.region) effect) (ap (λ (c : Core). c.shadow) effect) e
