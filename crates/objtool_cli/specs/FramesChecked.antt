-- What the check comes to of an object that is to get call frame information.
use Rattle.ot_base.specs.NameLists.{NameLists}
use Rattle.elf_objects.specs.Elf.{Elf}
use Rattle.x86_map.specs.declared.map.Map.{Map}
use Rattle.flow_defs.specs.Coded.{coded_by}
use Rattle.object_check.specs.Outcome.{AreWarnings, HasRows, IsUnbroken}
use Rattle.object_check.specs.declared.outcome.ObjectVerdict.{ObjectVerdict}
use Rattle.object_check.specs.declared.outcome.ObjectVerdict.TheVariants.{Accepted, Broken}
use Rattle.objtool_cli.specs.FramesOrder.{IsCheckable, allowances_under, default_rules, program_under}

-- The object is checked. Its program breaks no rule, and the rows are the program's; or it breaks some, and the warnings are exactly
-- these.
abbrev pub IsChecked : Map → Elf → NameLists → ObjectVerdict → Type 0
IsChecked map o lists (Accepted rows counts) = IsCheckable (coded_by map o) lists × IsUnbroken (program_under map lists o) (allowances_under map lists o) default_rules × HasRows (program_under map lists o) rows.items
IsChecked map o lists (Broken warnings) = IsCheckable (coded_by map o) lists × AreWarnings (program_under map lists o) (allowances_under map lists o) default_rules warnings.items
