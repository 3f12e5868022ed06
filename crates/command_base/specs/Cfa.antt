-- What the command `cfa FILE` prints, on whatever FILE holds, and how it ends.
use Rattle.std.specs.Prelude.{◌≡◌, ℕ, List, Option, Ok}
use Rattle.std.specs.List.{flat_map}
use Rattle.ot_files.specs.Content.{Content}
use Rattle.ot_files.specs.Output.{appending}
use Rattle.elf_objects.specs.declared.TheConstants.{MAX_FILE_BYTES}
use Rattle.elf_objects.specs.declared.fault.ElfFault.{ElfFault}
use Rattle.elf_objects.specs.Elf.{Elf}
use Rattle.elf_objects.specs.Contents.{section_at}
use Rattle.elf_objects.specs.Object as object
use Rattle.elf_objects.specs.Object.{IsObject}
use Rattle.eh_frame.specs.Faults as frames
use Rattle.eh_frame.specs.Records.{HoldsRules}
use Rattle.eh_frame.specs.Texts.{rule_line}
use Rattle.eh_frame.specs.declared.fault.EhFault.{EhFault}
use Rattle.eh_frame.specs.declared.rule.PlacedRule.{PlacedRule}
use Rattle.command_base.specs.Outside.{Outside, Output}
use Rattle.command_base.specs.Printing.{Concludes, Prints}
use Rattle.command_base.specs.Reading.{MayRead, StopsAtRead}
use Rattle.command_base.specs.declared.refusal.Refusal.TheVariants.{Frames, Malformed}
use Rattle.command_base.specs.declared.status.Status.{Status}
use Rattle.command_base.specs.declared.status.Status.TheVariants as status
use Rattle.command_base.specs.declared.stop.CommandStop.{CommandStop}
use Rattle.command_base.specs.declared.stop.CommandStop.TheVariants.{NoMemory, Refused}

-- the text of some rules of an object: a line for each, in their order
abbrev pub rules_text : Elf → List PlacedRule → List ℕ
rules_text o rules = flat_map (λ placed. rule_line (section_at o placed.place.sec).name placed) rules

-- these bytes are an object, whose call frame information says these rules
pub record SaysRules (bytes : List ℕ) (o : Elf) (rules : List PlacedRule) : Type 0 where
  pub object : IsObject bytes o
  pub held : HoldsRules o rules

-- Why bytes aren't read as the frame rules of an object: they are no object, and this is their first fault; or one whose call frame
-- information says no rules, and this is its first fault; or memory ran out.
pub data SaysNoRules (bytes : List ℕ) : CommandStop → Type 0 where
  malformed : {fault : ElfFault} → object.FirstFault bytes fault → SaysNoRules bytes (Refused (Malformed fault))
  no_rules : {fault : EhFault} (o : Elf) → IsObject bytes o → frames.FirstFault o fault → SaysNoRules bytes (Refused (Frames fault))
  no_memory : SaysNoRules bytes NoMemory

-- How `cfa` ends on these bytes of FILE: it prints the rules that they say, or tells why they say none.
pub data TellsBytes (bytes : List ℕ) (out out' : Output) : Status → Type 0 where
  printed : {s : Status} (o : Elf) (rules : List PlacedRule) → SaysRules bytes o rules → Prints status.Done (rules_text o rules) out out' s → TellsBytes bytes out out' s
  stopped : {s : Status} (stop : CommandStop) → SaysNoRules bytes stop → Concludes stop out out' s → TellsBytes bytes out out' s

-- How `cfa` ends: FILE isn't read, or is read as some bytes.
pub data EndsCfa (file : List ℕ) (before after : Outside) (out out' : Output) : Status → Type 0 where
  unread : {s : Status} (stop : CommandStop) → StopsAtRead MAX_FILE_BYTES file before after stop → Concludes stop out out' s → EndsCfa file before after out out' s
  read : {s : Status} (bytes : List ℕ) → MayRead MAX_FILE_BYTES before.content file (Ok bytes) → TellsBytes bytes out out' s → EndsCfa file before after out out' s

-- FILE was read as an object whose call frame information says some rules, and the lines of these were printed.
pub record IsTold (file : List ℕ) (content : Option Content) (before after : Option (List ℕ)) : Type 0 where
  pub bytes : List ℕ
  pub may : MayRead MAX_FILE_BYTES content file (Ok bytes)
  pub object : Elf
  pub rules : List PlacedRule
  pub says : SaysRules bytes object rules
  pub printed : after ≡ appending before (rules_text object rules)
