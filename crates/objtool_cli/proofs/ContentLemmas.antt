-- What stands where a command is done.
use Rattle.std.proofs.Common.{◌≡◌, ℕ, List, Option, None, Some, sym, subst}
use Rattle.std.specs.FinMap.{get}
use Rattle.ot_files.specs.Content.{Content, writing}
use Rattle.elf_objects.specs.declared.TheConstants.{MAX_FILE_BYTES}
use Rattle.objtool_cli.specs.Checked.{Accepts}
use Rattle.command_base.specs.Outside.{Outside}
use Rattle.ot_base.specs.NameLists.{NameLists}
use Rattle.cli_words.specs.declared.options.CheckOptions.{CheckOptions}
use Rattle.objtool_cli.specs.Command.{IsDone}
use Rattle.command_base.specs.Inputs.{IsRead}
use Rattle.objtool_cli.specs.Promises.{InKeepsPromises}
use Rattle.objtool_cli.specs.Unwinding.{OutUnwinds, ReadUnwinds}
use Rattle.elf_objects.specs.Elf.{Elf}
use Rattle.elf_objects.specs.Object.{IsObject}
use Rattle.x86_map.specs.declared.map.Map.{Map}
use Rattle.flow_defs.specs.Coded.{coded_by}
use Rattle.object_check.specs.Promises.{KeepsPromises}
use Rattle.command_base.proofs.Content.{get-insert_same, held_is}

-- the bytes that are written unwind those that were read
pub out_unwinds : (map : Map) (input output : List ℕ) (names : Option (List ℕ)) (bytes table : List ℕ) (lists : NameLists) (before after : Option Content) → IsRead before input names bytes lists → after ≡ writing before output table → ReadUnwinds map bytes lists table → OutUnwinds map input output names before after
out_unwinds map input output names bytes table lists None after read e h = tt
out_unwinds map input output names bytes table lists (Some content) after read e h =
    subst (λ (c : Option Content). OutUnwinds map input output names (Some content) c) (sym e) (record {
      read = bytes;
      held = held_is MAX_FILE_BYTES (get content input) bytes read.may;
      lists = lists;
      named = read.named;
      written = table;
      left = get-insert_same content output table;
      unwinds = h;
    })

-- the object that was read keeps its promises
in_keeps : (input : List ℕ) (options : CheckOptions) (names : Option (List ℕ)) (bytes : List ℕ) (lists : NameLists) (before : Option Content) (o : Elf) → IsRead before input names bytes lists → IsObject bytes o → KeepsPromises (coded_by options.map o) lists options.rules → InKeepsPromises input options names before
in_keeps input options names bytes lists None o read is keeps = tt
in_keeps input options names bytes lists (Some content) o read is keeps = record {
  read = bytes;
  held = held_is MAX_FILE_BYTES (get content input) bytes read.may;
  lists = lists;
  named = read.named;
  object = o;
  is_object = is;
  keeps = keeps;
}

-- what stands where the command is done
pub is_done : (input output : List ℕ) (options : CheckOptions) (names : Option (List ℕ)) (bytes table : List ℕ) (lists : NameLists) (before after : Outside) (o : Elf) → IsRead before.content input names bytes lists → IsObject bytes o → KeepsPromises (coded_by options.map o) lists options.rules → Accepts bytes lists options table → ReadUnwinds options.map bytes lists table → after.content ≡ writing before.content output table → IsDone input output options names before after
is_done input output options names bytes table lists before after o read is keeps accepted unwinds e = record {
  table = table;
  accepted = record { read = bytes; lists = lists; is_read = read; accepts = accepted };
  written = e;
  unwinds = out_unwinds options.map input output names bytes table lists before.content after.content read e unwinds;
  keeps = in_keeps input options names bytes lists before.content o read is keeps;
}
