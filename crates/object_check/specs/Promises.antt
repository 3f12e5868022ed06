-- What the options promise of the runs of an object's program.
use Rattle.std.specs.Prelude.{◌≡◌, Bool, true, List}
use Rattle.ot_base.specs.declared.options.Options.{Options}
use Rattle.ot_base.specs.NameLists.{NameLists}
use Rattle.flow_defs.specs.Coded.{Coded}
use Rattle.machine_defs.specs.Machine.{Bases, IsPlacement, Machine}
use Rattle.machine_defs.specs.Run.{Run}
use Rattle.option_law.specs.Access.{AccessRun, IsAccessKept}
use Rattle.option_law.specs.Branches.{BranchesSafely}
use Rattle.option_law.specs.Frames.{CallsWithFrame}
use Rattle.flow_defs.specs.Program.{program_of}
use Rattle.object_check.specs.Allowances.{allowances_of}

-- For every placement of the text sections and every state of every run of the stack machine on the object's program: with `fp`
-- each call is made with a frame pointer set up; with `retpoline` and `rethunk` no indirect branch and no return is come to
-- that isn't listed as safe, but in code that runs before user space does; and with `uaccess`, in the runs of which that speaks, user access is in order.
pub record KeepsPromises (o : Coded) (lists : NameLists) (options : Options) : Type 0 where
  pub frames : options.fp ≡ true → (bases : Bases) → IsPlacement (program_of o lists) bases → (m : Machine) → Run (program_of o lists) bases m → CallsWithFrame (program_of o lists) m
  pub branches : (bases : Bases) → IsPlacement (program_of o lists) bases → (m : Machine) → Run (program_of o lists) bases m → BranchesSafely (program_of o lists) (allowances_of o lists options) options m
  pub access : options.uaccess ≡ true → (bases : Bases) → IsPlacement (program_of o lists) bases → (m : Machine) (homes : List Bool)
      → AccessRun (program_of o lists) (allowances_of o lists options) bases m homes → IsAccessKept (program_of o lists) (allowances_of o lists options) homes m
