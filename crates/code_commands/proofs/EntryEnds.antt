-- How `entry` ends, from what its parts ensure.
use Rattle.std.proofs.Common.{refl, ◌≡◌, ℕ, ◌≤◌, List, subst}
use Rattle.std.specs.Prelude.{Option}
use Rattle.ot_base.specs.NameLists.{NameLists}
use Rattle.ot_base.specs.declared.warning.Warning.{Warning}
use Rattle.ot_files.specs.Content.{Content}
use Rattle.elf_objects.specs.Elf.{Elf}
use Rattle.elf_objects.specs.Object.{IsObject}
use Rattle.x86_map.specs.declared.map.Map.{Map}
use Rattle.flow_defs.specs.Coded.{coded_by}
use Rattle.entry_rules.specs.declared.options.EntryOptions.{EntryOptions}
use Rattle.command_base.specs.Names.{StopsAtNames}
use Rattle.command_base.specs.Outside.{Outside, Output}
use Rattle.command_base.specs.Printing.{Prints}
use Rattle.command_base.specs.Warnings.{warnings_text}
use Rattle.command_base.specs.declared.status.Status.{Status}
use Rattle.command_base.specs.declared.status.Status.TheVariants as status
use Rattle.command_base.specs.declared.stop.CommandStop.{CommandStop}
use Rattle.command_base.specs.Code.{IsInOrder}
use Rattle.code_commands.specs.Entry.{EndsEntry, IsUnbroken, KeepsEntryRules, MayBeChecked, done}
use Rattle.command_base.specs.Inputs.{IsRead}
use Rattle.command_base.proofs.Stops.{names_earlier, outside}

pub may_check : (map : Map) (content : Option Content) (input : List ℕ) (names : Option (List ℕ)) (read : List ℕ) (o : Elf) (lists : NameLists) → IsRead content input names read lists → IsObject read o → IsInOrder (coded_by map o) lists → MayBeChecked map content input names o lists
may_check map content input names read o lists was is order = record { read = read; is_read = was; is = is; in_order = order }

pub names_later : (s : CommandStop) (names : Option (List ℕ)) (content middle : Option Content) (before faults : ℕ) (after : Outside) → middle ≡ content → before ≤ faults → StopsAtNames names (outside middle faults) after s → StopsAtNames names (outside content before) after s
names_later s names content middle before faults after same later h = names_earlier s names content before faults after later (subst (λ (c : Option Content). StopsAtNames names (outside c faults) after s) same h)

-- what was printed are the lines of the warnings that were found
pub printed_as : (o : Elf) (shown warnings : List Warning) (out out' : Output) (x : Status) → shown ≡ warnings → Prints status.Warnings (warnings_text o shown) out out' x → Prints status.Warnings (warnings_text o warnings) out out' x
printed_as o shown warnings out out' x same h = subst (λ (ws : List Warning). Prints status.Warnings (warnings_text o ws) out out' x) same h

-- where nothing is found, nothing is printed
pub done_silently : (map : Map) (options : EntryOptions) (input : List ℕ) (names : Option (List ℕ)) (before after : Outside) (out : Output) (o : Elf) (lists : NameLists) → MayBeChecked map before.content input names o lists → IsUnbroken (coded_by map o) lists options → KeepsEntryRules (coded_by map o) lists options → EndsEntry map options input names before after out out status.Done
done_silently map options input names before after out o lists may unbroken keeps = done o lists may unbroken keeps refl
