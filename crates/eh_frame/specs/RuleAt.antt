-- The frame rule at a place of an object.
use Rattle.std.specs.Prelude.{◌≡◌, ℕ, ◌==◌, nat_lt, if◌then◌else◌, List, [], ◌∷◌}
use Rattle.ot_base.specs.declared.place.Place.{Place}
use Rattle.elf_objects.specs.Elf.{Elf}
use Rattle.eh_frame.specs.declared.rule.CfaRule.{CfaRule}
use Rattle.eh_frame.specs.declared.rule.CfaRule.TheVariants.{Undefined}
use Rattle.eh_frame.specs.Rules.{rule_at}
use Rattle.eh_frame.specs.Records.{Entry, HoldsEntries}

-- The rule that the instructions of the entry over a place have reached at it; without an entry there is none.
abbrev pub rule_in : List Entry → Place → CfaRule
rule_in [] place = Undefined
rule_in (entry ∷ entries) place =
    if entry.sec == place.sec
    then (if nat_lt place.off entry.size then rule_at entry.instructions place.off else Undefined)
    else rule_in entries place

-- The object's call frame information gives this rule at a place.
pub record HasRule (object : Elf) (place : Place) (rule : CfaRule) : Type 0 where
  pub entries : List Entry
  pub holds : HoldsEntries object entries
  pub is : rule ≡ rule_in entries place
