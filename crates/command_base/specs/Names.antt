-- The lists of function names that a command goes by: the built-in ones, and what the names file adds.
use Rattle.std.specs.Prelude.{◌≡◌, ℕ, List, Option, Some, None, Ok}
use Rattle.ot_files.specs.Content.{Content}
use Rattle.ot_base.specs.NameLists.{NameLists, built_in, lists_with}
use Rattle.ot_base.specs.NamesFile.{IsFirstFault, IsNamesFile}
use Rattle.ot_base.specs.declared.lists.ListsFault.TheVariants as lists
use Rattle.elf_objects.specs.declared.TheConstants.{MAX_FILE_BYTES}
use Rattle.command_base.specs.declared.refusal.Refusal.TheVariants.{Lists}
use Rattle.command_base.specs.declared.stop.CommandStop.{CommandStop}
use Rattle.command_base.specs.declared.stop.CommandStop.TheVariants.{Refused, NoMemory}
use Rattle.command_base.specs.Outside.{Outside}
use Rattle.command_base.specs.Reading.{MayRead, StopsAtRead}

-- The file of this name may read as a names file whose lines are in order, and these are the built-in lists with the names
-- that it adds.
pub record HoldsNames (content : Option Content) (file : List ℕ) (lists : NameLists) : Type 0 where
  pub text : List ℕ
  pub may : MayRead MAX_FILE_BYTES content file (Ok text)
  pub right : IsNamesFile text
  pub are : lists ≡ lists_with text

-- the same of a file that is given; where none is, these are the built-in lists
abbrev pub HasNames : Option Content → Option (List ℕ) → NameLists → Type 0
HasNames content None lists = lists ≡ built_in
HasNames content (Some file) lists = HoldsNames content file lists

-- the stop tells the first faulty line of a names file, or want of memory
abbrev pub IsListsStop : List ℕ → CommandStop → Type 0
IsListsStop text (Refused (Lists (lists.Line line why))) = IsFirstFault text line why
IsListsStop text NoMemory = Unit {0}
IsListsStop text _ = ⊥

-- A command stops so that has no lists of names: the file that is given isn't read, or a line of it isn't in order, or memory
-- runs out.
pub data StopsAtNames (names : Option (List ℕ)) (before after : Outside) : CommandStop → Type 0 where
  names_unread : {stop : CommandStop} (file : List ℕ) → names ≡ Some file → StopsAtRead MAX_FILE_BYTES file before after stop → StopsAtNames names before after stop
  no_names :
      {stop : CommandStop} (file text : List ℕ)
      → names ≡ Some file
      → MayRead MAX_FILE_BYTES before.content file (Ok text)
      → IsListsStop text stop
      → StopsAtNames names before after stop
  no_lists : StopsAtNames names before after NoMemory
