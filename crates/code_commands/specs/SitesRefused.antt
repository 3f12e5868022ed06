-- Why `sites` is refused on files that hold this: what the first step finds that fails, in the order of the steps. Faults of files and of
-- the output, and want of memory, are no refusals.
use Rattle.std.specs.Prelude.{ℕ, List, Option}
use Rattle.ot_files.specs.Content.{Content}
use Rattle.site_lists.specs.declared.options.ListOptions.{ListOptions}
use Rattle.x86_map.specs.declared.map.Map.{Map}
use Rattle.command_base.specs.declared.stop.CommandStop.{CommandStop}
use Rattle.command_base.specs.Inputs.{RefusesInput}
use Rattle.code_commands.specs.Sites.{GetNoSites}

-- `sites IN OUT`: IN is read; then the names file, where one is given, and its lines; then the bytes of IN are
-- parsed, their code is read, and the lists of its sites are added.
abbrev pub RefusesSites : ListOptions → Map → List ℕ → Option (List ℕ) → Content → CommandStop → Type 0
RefusesSites options map input names held = RefusesInput (GetNoSites options map) input names held
