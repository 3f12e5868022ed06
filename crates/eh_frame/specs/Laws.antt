-- What holds of every object that has the call frame information of rows.
use Rattle.std.specs.Prelude.{◌≡◌, ◌<◌, ◌≤◌, List, Some, codes, flat_map, length}
use Rattle.ot_base.specs.declared.place.Place.{Place}
use Rattle.ot_base.specs.declared.row.PlacedRow.{PlacedRow}
use Rattle.elf_objects.specs.Elf.{Elf}
use Rattle.elf_objects.specs.Contents.{section_at}
use Rattle.orc_bytes.specs.Sections.{body_named, relocs_named}
use Rattle.eh_frame.specs.declared.rule.CfaRule.TheVariants.{Undefined}
use Rattle.eh_frame.specs.declared.rule.PlacedRule.{PlacedRule}
use Rattle.eh_frame.specs.Records.{HoldsRules}
use Rattle.eh_frame.specs.Rules.{listed}
use Rattle.eh_frame.specs.RowFrames.{frame_section, frame_slots, rule_by_rows, sections_with, CanHaveFrames}
use Rattle.eh_frame.specs.RuleAt.{HasRule}

-- The object's `.eh_frame` is that of these rows, with its relocations.
pub record HoldsFrames (object : Elf) (rows : List PlacedRow) : Type 0 where
  pub can : CanHaveFrames object rows
  pub body : body_named object (codes ".eh_frame") ≡ Some (frame_section object rows)
  pub relocs : relocs_named object (codes ".eh_frame") ≡ Some (frame_slots object rows)

-- At every place of a section the rule is that of the last row at or below it in its section.
abbrev pub RuleIsOfLastRow : Type 0
RuleIsOfLastRow = (object : Elf) (rows : List PlacedRow) (place : Place) → HoldsFrames object rows → place.off < (section_at object place.sec).size → HasRule object place (rule_by_rows rows place.sec place.off)

-- From a section's size on there is none.
abbrev pub NoRuleBehind : Type 0
NoRuleBehind = (object : Elf) (rows : List PlacedRow) (place : Place) → HoldsFrames object rows → (section_at object place.sec).size ≤ place.off → HasRule object place Undefined

-- the rules of rows: for each section that has some, that at its beginning, and each that isn't the one before
abbrev pub rules_of_rows : Elf → List PlacedRow → List PlacedRule
rules_of_rows object rows = flat_map (λ sec. listed sec (section_at object sec).size (rule_by_rows rows sec)) (sections_with object rows)

-- What is read back are exactly these.
abbrev pub RowsAreReadBack : Type 0
RowsAreReadBack = (object : Elf) (rows : List PlacedRow) → HoldsFrames object rows → HoldsRules object (rules_of_rows object rows)
