-- The promise of `fp`: calls are made with a frame pointer set up.
use Rattle.std.specs.Prelude.{◌≡◌, true, false, List, ◌∷◌, None}
use Rattle.ot_base.specs.declared.options.Options.{Options}
use Rattle.state_defs.specs.Address.{up, down}
use Rattle.state_defs.specs.Region.{Holds}
use Rattle.state_defs.specs.Frame.{Frame, is_of_call}
use Rattle.state_defs.specs.Effect.{Core}
use Rattle.machine_defs.specs.Program.{Program, is_call_op}
use Rattle.machine_defs.specs.IsProgram.{IsProgram}
use Rattle.machine_defs.specs.Machine.{Bases, IsPlacement, Machine, Wrecked, At}
use Rattle.machine_defs.specs.Run.{Run}
use Rattle.machine_defs.specs.Allowances.{Allowances}
use Rattle.machine_defs.specs.Asked.{IsClean}

-- rbp points at the caller's rbp, which stands right below the return address at the frame's top
pub record HasFramePointer (core : Core) (f : Frame) : Type 0 where
  pub rbp : core.rbp ≡ down f.cfa 16
  pub saved : Holds core.memory core.rbp f.bp
  pub returns : Holds core.memory (up core.rbp 8) f.ra

-- At a call that isn't one of `__fentry__`, where nothing has ended the stack and the top frame is a call's, that frame has its
-- frame pointer.
abbrev pub CallsWithFrame : Program → Machine → Type 0
CallsWithFrame p Wrecked = ⊥
CallsWithFrame p (At s) =
    (f : Frame) (fs : List Frame)
    → is_call_op (p.insn s.point).op ≡ true
    → p.calls_fentry s.point ≡ false
    → s.ended ≡ None
    → s.core.shadow ≡ f ∷ fs
    → is_of_call f.slot ≡ true
    → HasFramePointer s.core f

-- In every program that is clean under `fp`, wherever it is placed, each call of each run is made with a frame pointer.
abbrev pub FrameLaw : Type 0
FrameLaw =
    (p : Program) (allowed : Allowances) (options : Options) (bases : Bases)
    → IsProgram p → IsPlacement p bases → options.fp ≡ true → IsClean p allowed options
    → (m : Machine) → Run p bases m → CallsWithFrame p m
