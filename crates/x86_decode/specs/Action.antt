-- Which opcodes act on rsp, rbp, the stack or the flow of control in a way of their own.
use Rattle.std.specs.Prelude.{ℕ, Bool, ◌==◌, if◌then◌else◌, List, [], ◌∷◌}
use Rattle.x86_map.specs.Row.{◌to◌, one_of}
use Rattle.x86_decode.specs.declared.action.Action.{Action}
use Rattle.x86_decode.specs.declared.action.Action.TheVariants.{Other, Exchange, NoOperation, Hint, PushRegister, Push, PopRegister, PopOperand, Pop, PopFlags, Arithmetic, SubtractFrom, Subtract, Store, Load, LoadAddress, Enter, Leave, Call, ShortJump, Jump, ShortCondition, Condition, Return, ReturnImmediate, InterruptReturn, Far, Undefined, Breakpoint, Group5, Group7, Group11}

-- some opcodes and what they do
pub record Row : Type 0 where
  pub opcodes : ℕ → Bool
  pub action : Action

abbrev pub does : (ℕ → Bool) → Action → Row
does opcodes action = record { opcodes = opcodes; action = action }

-- one-byte opcodes
abbrev pub one_byte_actions : List Row
one_byte_actions =
    does (one_of (0x29 ∷ [])) SubtractFrom
    ∷ does (one_of (0x2B ∷ [])) Subtract
    ∷ does (0x50 to 0x57) PushRegister
    ∷ does (0x58 to 0x5F) PopRegister
    ∷ does (one_of (0x68 ∷ 0x6A ∷ 0x9C ∷ [])) Push
    ∷ does (0x70 to 0x7F) ShortCondition
    ∷ does (one_of (0x81 ∷ 0x83 ∷ [])) Arithmetic
    ∷ does (one_of (0x89 ∷ [])) Store
    ∷ does (one_of (0x8B ∷ [])) Load
    ∷ does (one_of (0x8D ∷ [])) LoadAddress
    ∷ does (one_of (0x8F ∷ [])) PopOperand
    ∷ does (one_of (0x90 ∷ [])) Exchange
    ∷ does (one_of (0x9D ∷ [])) PopFlags
    ∷ does (one_of (0xC2 ∷ [])) ReturnImmediate
    ∷ does (one_of (0xC3 ∷ [])) Return
    ∷ does (one_of (0xC7 ∷ [])) Group11
    ∷ does (one_of (0xC8 ∷ [])) Enter
    ∷ does (one_of (0xC9 ∷ [])) Leave
    ∷ does (0xCA to 0xCB) Far
    ∷ does (one_of (0xCC ∷ [])) Breakpoint
    ∷ does (one_of (0xCF ∷ [])) InterruptReturn
    ∷ does (0xE0 to 0xE3) ShortCondition
    ∷ does (one_of (0xE8 ∷ [])) Call
    ∷ does (one_of (0xE9 ∷ [])) Jump
    ∷ does (one_of (0xEB ∷ [])) ShortJump
    ∷ does (one_of (0xFF ∷ [])) Group5
    ∷ []

-- opcodes behind 0F
abbrev pub two_byte_actions : List Row
two_byte_actions =
    does (one_of (0x01 ∷ [])) Group7
    ∷ does (one_of (0x05 ∷ 0x07 ∷ 0x34 ∷ 0x35 ∷ 0xAA ∷ [])) Far
    ∷ does (one_of (0x0B ∷ 0xB9 ∷ 0xFF ∷ [])) Undefined
    ∷ does (one_of (0x1E ∷ [])) Hint
    ∷ does (one_of (0x1F ∷ [])) NoOperation
    ∷ does (0x80 to 0x8F) Condition
    ∷ does (one_of (0xA0 ∷ 0xA8 ∷ [])) Push
    ∷ does (one_of (0xA1 ∷ 0xA9 ∷ [])) Pop
    ∷ []

abbrev pub action_in : List Row → ℕ → Action
action_in [] opcode = Other
action_in (row ∷ rows) opcode = if row.opcodes opcode then row.action else action_in rows opcode

-- by the number of the map: 1 is the one-byte map, 2 the map behind 0F
unfoldable pub action_of : ℕ → ℕ → Action
action_of number opcode =
    if number == 1 then action_in one_byte_actions opcode
    else (if number == 2 then action_in two_byte_actions opcode else Other)
