-- The rules that call frame instructions give at a place (DWARF 4, sections 6.4.2 and 6.4.3).
use Rattle.std.specs.Prelude.{ℕ, ◌+◌, ◌-◌, ◌==◌, ◌<◌, ◌≡◌, Bool, true, false, ◌&&◌, ◌||◌, not, nat_lt, if◌then◌else◌, ℤ, pos, List, [], ◌∷◌, ◌++◌, map, filter, Option, Some, None}
use Rattle.std.specs.List.{range_with_len}
use Rattle.std.specs.Ordering.{int_eq}
use Rattle.eh_frame.specs.declared.rule.CfaReg.{CfaReg}
use Rattle.eh_frame.specs.declared.rule.CfaReg.TheVariants.{Rsp, Rbp}
use Rattle.eh_frame.specs.declared.rule.CfaRule.{CfaRule}
use Rattle.eh_frame.specs.declared.rule.CfaRule.TheVariants.{Undefined, Cfa}
use Rattle.eh_frame.specs.declared.rule.PlacedRule.{PlacedRule}
use Rattle.eh_frame.specs.declared.instruction.Instruction.{Instruction}
use Rattle.eh_frame.specs.declared.instruction.Instruction.TheVariants.{Nop, AdvanceLoc, DefCfa, SavedReturn, UndefinedReturn, SavedRbp, SameRbp}
use Rattle.eh_frame.specs.declared.state.FrameState.{FrameState}

-- What the CIE's instructions leave: the canonical frame address is rsp and 8, the return address is right below it, and nothing
-- is said of rbp.
abbrev pub first_state : FrameState
first_state = record { reg = Rsp; off = pos 8; bp = None; known = true }

-- the rules behind an instruction
abbrev pub after : Instruction → FrameState → FrameState
after Nop s = s
after (AdvanceLoc delta) s = s
after (DefCfa reg off) s = record { reg = reg; off = off; bp = s.bp; known = s.known }
after SavedReturn s = record { reg = s.reg; off = s.off; bp = s.bp; known = true }
after UndefinedReturn s = record { reg = s.reg; off = s.off; bp = s.bp; known = false }
after (SavedRbp off) s = record { reg = s.reg; off = s.off; bp = Some off; known = s.known }
after SameRbp s = record { reg = s.reg; off = s.off; bp = None; known = s.known }

-- how far an instruction moves the location on
abbrev pub moves : Instruction → ℕ
moves Nop = 0
moves (AdvanceLoc delta) = delta
moves (DefCfa reg off) = 0
moves SavedReturn = 0
moves UndefinedReturn = 0
moves (SavedRbp off) = 0
moves SameRbp = 0

-- how far instructions do together
abbrev pub moves_all : List Instruction → ℕ
moves_all [] = 0
moves_all (i ∷ is) = moves i + moves_all is

-- The rules that instructions give at an offset, from a location and the rules there: those before the first that moves on past
-- the offset are followed.
abbrev pub followed : List Instruction → ℕ → FrameState → ℕ → FrameState
followed [] location s off = s
followed (i ∷ is) location s off = if nat_lt off (location + moves i) then s else followed is (location + moves i) (after i s) off

-- the rule of a frame: without a return address there is none
abbrev pub rule_of : FrameState → CfaRule
rule_of s = if s.known then Cfa s.reg s.off s.bp else Undefined

-- the rule at an offset of a section, from its beginning on
unfoldable pub rule_at : List Instruction → ℕ → CfaRule
rule_at is off = rule_of (followed is 0 first_state off)

abbrev pub same_reg : CfaReg → CfaReg → Bool
same_reg Rsp Rsp = true
same_reg Rsp Rbp = false
same_reg Rbp Rsp = false
same_reg Rbp Rbp = true

abbrev pub same_saved : Option ℤ → Option ℤ → Bool
same_saved None None = true
same_saved None (Some y) = false
same_saved (Some x) None = false
same_saved (Some x) (Some y) = int_eq x y

abbrev pub same_rule : CfaRule → CfaRule → Bool
same_rule Undefined Undefined = true
same_rule Undefined (Cfa reg off bp) = false
same_rule (Cfa reg off bp) Undefined = false
same_rule (Cfa reg off bp) (Cfa reg' off' bp') = same_reg reg reg' && int_eq off off' && same_saved bp bp'

-- an offset is 0, or its rule isn't that of the offset before
abbrev pub is_new : (ℕ → CfaRule) → ℕ → Bool
is_new rules off = (off == 0) || not (same_rule (rules off) (rules (off - 1)))

-- The rules of a section of this size: that at 0, and each that isn't the one before.
unfoldable pub listed : ℕ → ℕ → (ℕ → CfaRule) → List PlacedRule
listed sec size rules = map (λ off. record { place = record { sec = sec; off = off }; rule = rules off }) (filter (is_new rules) (range_with_len 0 size))
