-- How the code follows the instructions of an entry.
use Rattle.std.specs.Prelude.{◌≡◌, ℕ, ◌+◌, ◌-◌, ◌==◌, nat_le, ◌≤◌, Bool, true, false, List, [], ◌∷◌, ◌++◌, if◌then◌else◌, Option, Some, None}
use Rattle.ot_base.specs.declared.place.Place.{Place}
use Rattle.eh_frame.specs.declared.instruction.Instruction.{Instruction}
use Rattle.eh_frame.specs.declared.instruction.Read.{Read}
use Rattle.eh_frame.specs.declared.rule.CfaRule.{CfaRule}
use Rattle.eh_frame.specs.declared.rule.PlacedRule.{PlacedRule}
use Rattle.eh_frame.specs.declared.state.FrameState.{FrameState}
use Rattle.eh_frame.specs.declared.rules.Followed.{Followed}
use Rattle.eh_frame.specs.declared.rules.ListFault.{ListFault}
use Rattle.eh_frame.specs.declared.rules.ListFault.TheVariants.{Bad, NoMemory}
use Rattle.eh_frame.specs.Rules.{first_state, after, moves, moves_all, rule_of, same_rule, rule_at, listed}
use Rattle.eh_frame.specs.ReadInstruction.{read_instruction}
use Rattle.eh_frame.specs.Spelling.{SpellsAll}
use Rattle.eh_frame.specs.Faults.{StopsAt}

abbrev pub first_followed : Followed
first_followed = record { location = 0; state = first_state; last = None }

abbrev pub moved_on : ℕ → FrameState → Followed → Followed
moved_on bytes state f = record { location = f.location + bytes; state = state; last = if bytes == 0 then f.last else Some (rule_of f.state) }

abbrev pub kept_within : Option Read → ℕ → Option Read
kept_within None room = None
kept_within (Some read) room = if nat_le (moves read.instruction) room then Some read else None

abbrev pub read_within : List ℕ → ℕ → Option Read
read_within bytes room = kept_within (read_instruction bytes) room

-- the rule is the last one
abbrev pub is_last : Option CfaRule → CfaRule → Bool
is_last None rule = false
is_last (Some last) rule = same_rule rule last

-- the rule at an offset, where it isn't the last one
abbrev pub newly : ℕ → ℕ → Option CfaRule → CfaRule → List PlacedRule
newly sec off last rule = if is_last last rule then [] else record { place = record { sec = sec; off = off }; rule = rule } ∷ []

-- the rule of a location from which so many bytes are moved on
abbrev pub moved_rules : ℕ → ℕ → Followed → List PlacedRule
moved_rules sec bytes f = if bytes == 0 then [] else newly sec f.location f.last (rule_of f.state)

-- These bytes are instructions within a section of this size, and their rules were listed behind others.
pub record ListsRules (sec size : ℕ) (spelled : List ℕ) (old new : List PlacedRule) : Type 0 where
  pub instructions : List Instruction
  pub read : SpellsAll instructions spelled
  pub inside : moves_all instructions ≤ size
  pub told : new ≡ old ++ listed sec size (rule_at instructions)

abbrev pub IsListFault : ℕ → List ℕ → ListFault → Type 0
IsListFault size spelled (Bad at) = StopsAt size spelled at
IsListFault size spelled NoMemory = Unit {0}
