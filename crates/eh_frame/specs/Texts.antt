-- How rules and faults of call frame information are told.
use Rattle.std.specs.Prelude.{ℕ, ℤ, List, [], ◌++◌, codes, Option, Some, None}
use Rattle.std.specs.Fmt.{decimal}
use Rattle.ot_base.specs.PlaceText.{place_text, with_sign}
use Rattle.eh_frame.specs.declared.rule.CfaReg.{CfaReg}
use Rattle.eh_frame.specs.declared.rule.CfaReg.TheVariants.{Rsp, Rbp}
use Rattle.eh_frame.specs.declared.rule.CfaRule.{CfaRule}
use Rattle.eh_frame.specs.declared.rule.CfaRule.TheVariants.{Undefined, Cfa}
use Rattle.eh_frame.specs.declared.rule.PlacedRule.{PlacedRule}
use Rattle.eh_frame.specs.declared.fault.EhFault.{EhFault}
use Rattle.eh_frame.specs.declared.fault.EhFault.TheVariants.{NoSection, BadRecord, BadReloc, BadOp, NoMemory}

abbrev pub register_name : CfaReg → List ℕ
register_name Rsp = codes "rsp"
register_name Rbp = codes "rbp"

-- where the caller's rbp is
abbrev pub saved_text : Option ℤ → List ℕ
saved_text None = codes "same"
saved_text (Some off) = codes "cfa" ++ with_sign off

abbrev pub rule_text : CfaRule → List ℕ
rule_text Undefined = codes "undefined"
rule_text (Cfa reg off bp) = codes "cfa " ++ register_name reg ++ with_sign off ++ codes " bp " ++ saved_text bp

-- the line of a rule in the section with this name
abbrev pub rule_line : List ℕ → PlacedRule → List ℕ
rule_line section placed = place_text section placed.place.off ++ codes ": " ++ rule_text placed.rule ++ codes "\n"

abbrev pub fault_text : EhFault → List ℕ
fault_text NoSection = codes "no section .eh_frame"
fault_text (BadRecord off) = codes "frame record at " ++ decimal off ++ codes ": bad record"
fault_text (BadReloc off) = codes "bad relocation at " ++ decimal off
fault_text (BadOp off) = codes "bad operation at " ++ decimal off
fault_text NoMemory = []
