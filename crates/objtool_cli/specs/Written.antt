-- What OUT holds after `cfi IN OUT`.
use Rattle.std.specs.Prelude.{◌≡◌, ⊤, ℕ, ◌<◌, List, Option, Some, None}
use Rattle.std.specs.FinMap.{get}
use Rattle.ot_base.specs.NameLists.{NameLists}
use Rattle.ot_base.specs.declared.place.Place.{Place}
use Rattle.ot_base.specs.declared.row.PlacedRow.{PlacedRow}
use Rattle.ot_files.specs.Content.{Content}
use Rattle.elf_objects.specs.Elf.{Elf}
use Rattle.elf_objects.specs.Object.{IsObject}
use Rattle.elf_objects.specs.declared.TheConstants.{MAX_SYMBOLS}
use Rattle.elf_objects.specs.declared.fault.Counted.TheVariants.{Symbols}
use Rattle.x86_map.specs.declared.map.Map.{Map}
use Rattle.flow_defs.specs.Coded.{coded_by}
use Rattle.object_check.specs.Outcome.{HasRows}
use Rattle.eh_frame.specs.Laws.{rules_of_rows}
use Rattle.eh_frame.specs.Records.{HoldsRules}
use Rattle.eh_frame.specs.RuleAt.{HasRule}
use Rattle.eh_frame.specs.declared.rule.CfaRule.{CfaRule}
use Rattle.eh_frame.specs.Framed.{FollowsRows, IsFramed, framed_object}
use Rattle.orc_output.specs.Tables.{symbols_needed}
use Rattle.command_base.specs.Names.{HasNames}
use Rattle.command_base.specs.declared.refusal.Refusal.TheVariants.{TooMany}
use Rattle.command_base.specs.declared.stop.CommandStop.{CommandStop}
use Rattle.command_base.specs.declared.stop.CommandStop.TheVariants.{NoMemory, Refused}
use Rattle.objtool_cli.specs.FramesOrder.{program_under}
use Rattle.objtool_cli.specs.Undone.{RulesUndo}

-- These bytes are the object with exactly the section symbols inserted that the rows need, and then the two frame sections of exactly
-- these rows added. What is read of them has at each place of a text section the rule of the last row at or below it in its section,
-- and no other; and the rules that it says are those of the rows.
pub record TellsRows (o : Elf) (rows : List PlacedRow) (written : List ℕ) : Type 0 where
  pub framed : IsFramed o rows written
  pub follows : FollowsRows o rows written
  pub only : (place : Place) (rule other : CfaRule) → HasRule (framed_object o rows) place rule → HasRule (framed_object o rows) place other → rule ≡ other
  pub rules : HoldsRules (framed_object o rows) (rules_of_rows (framed_object o rows) rows)

-- The bytes that OUT holds after the command tell the rows of the program of the object whose bytes IN held before it, under the
-- lists of names of the names file, or the built-in ones where none is given. Undoing frames by what is read of them gives the frames
-- of that program's runs.
pub record LeavesFrames (map : Map) (input output : List ℕ) (names : Option (List ℕ)) (before after : Content) : Type 0 where
  pub read : List ℕ
  pub held : get before input ≡ Some read
  pub lists : NameLists
  pub named : HasNames (Some before) names lists
  pub object : Elf
  pub is_object : IsObject read object
  pub rows : List PlacedRow
  pub has_rows : HasRows (program_under map lists object) rows
  pub written : List ℕ
  pub left : get after output ≡ Some written
  pub tells : TellsRows object rows written
  pub undoes : RulesUndo (coded_by map object) lists rows

-- the same where the files tell their content
abbrev pub OutTellsFrames : Map → List ℕ → List ℕ → Option (List ℕ) → Option Content → Option Content → Type 0
OutTellsFrames map input output names (Some before) (Some after) = LeavesFrames map input output names before after
OutTellsFrames map input output names (Some before) None = ⊥
OutTellsFrames map input output names None after = ⊤

-- the stop tells that the rows need too many symbols, and how many, or want of memory
abbrev pub IsCrowded : Elf → List PlacedRow → CommandStop → Type 0
IsCrowded o rows (Refused (TooMany Symbols count)) = (MAX_SYMBOLS < symbols_needed o rows) × (count ≡ symbols_needed o rows)
IsCrowded o rows NoMemory = Unit {0}
IsCrowded o rows _ = ⊥
