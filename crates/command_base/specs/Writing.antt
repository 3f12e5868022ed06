-- Why a command stops that can't write an output file.
use Rattle.std.specs.Prelude.{◌≡◌, ℕ, List}
use Rattle.ot_files.specs.Causes.{Rose}
use Rattle.command_base.specs.declared.stop.CommandStop.{CommandStop}
use Rattle.command_base.specs.declared.stop.CommandStop.TheVariants.{FileFault, NoMemory}
use Rattle.command_base.specs.Outside.{Outside}

-- a command stops so that can't write the file of this name: writing failed, and the count of faults rose; or memory ran
-- out
abbrev pub StopsAtWrite : List ℕ → Outside → Outside → CommandStop → Type 0
StopsAtWrite name before after (FileFault told) = (told.now ≡ name) × Rose before.faults after.faults
StopsAtWrite name before after NoMemory = Unit {0}
StopsAtWrite name before after _ = ⊥
