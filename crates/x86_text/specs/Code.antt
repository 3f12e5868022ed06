-- The instructions of a body of code, without gaps from its first byte on.
use Rattle.std.specs.Prelude.{◌≡◌, ℕ, zero, suc, ◌+◌, ◌-◌, ◌<◌, ◌≤◌, ◌==◌, Bool, true, false, List, [], ◌∷◌, length, map, filter, drop, Option, Some, None, Result, Ok, Err, if◌then◌else◌}
use Rattle.operation_defs.specs.declared.insn.Insn.{Insn}
use Rattle.operation_defs.specs.declared.op.Op.{Op}
use Rattle.operation_defs.specs.declared.op.Op.TheVariants.{Jmp, JmpInd}
use Rattle.x86_map.specs.declared.map.Map.{Map}
use Rattle.x86_decode.specs.declared.DecodeFault.{DecodeFault}
use Rattle.x86_decode.specs.Decoding.{StandsInFront, decoded}
use Rattle.x86_text.specs.declared.placed.PlacedInsn.{PlacedInsn}

-- a body of code, and the opcode map by which it is read
pub record Body : Type 0 where
  pub map : Map
  pub bytes : List ℕ

abbrev pub read_by : Map → List ℕ → Body
read_by map bytes = record { map = map; bytes = bytes }

-- an offset at which an instruction begins, or ought to: the body's start, and the offset right behind an instruction
-- that begins at a boundary
pub data IsBoundary (body : Body) : ℕ → Type 0 where
  start : (off : ℕ) → off ≡ 0 → off < length body.bytes → IsBoundary body off
  behind : (before off : ℕ) (insn : Insn) → IsBoundary body before → StandsInFront body.map (drop before body.bytes) insn → off ≡ before + insn.len → off < length body.bytes → IsBoundary body off

-- an instruction stands at each boundary
abbrev pub IsCode : Body → Type 0
IsCode body = (off : ℕ) → IsBoundary body off → (insn : Insn) × StandsInFront body.map (drop off body.bytes) insn

-- where decoding at this offset gives an instruction: it, and then the rest, which is told how many of the next bytes
-- still belong to it
abbrev pub with_rest : ℕ → Result Insn DecodeFault → (ℕ → List PlacedInsn) → List PlacedInsn
with_rest off (Ok insn) rest = record { off = off; insn = insn } ∷ rest (insn.len - 1)
with_rest off (Err why) rest = []

-- the instructions by a map of bytes that begin at this offset, where the first few belong to the instruction before
abbrev pub code_from : Map → ℕ → ℕ → List ℕ → List PlacedInsn
code_from map skip off [] = []
code_from map zero off (b ∷ bytes) = with_rest off (decoded map (b ∷ bytes)) (λ skip. code_from map skip (off + 1) bytes)
code_from map (suc skip) off (b ∷ bytes) = code_from map skip (off + 1) bytes

-- the instructions of a body of code, in their order, up to the first boundary without one
unfoldable pub code_of : Body → List PlacedInsn
code_of body = code_from body.map 0 0 body.bytes

-- their offsets
abbrev pub offsets_of : Body → List ℕ
offsets_of body = map (λ p. p.off) (code_of body)

-- these instructions without their offsets
abbrev pub insns_of : Body → List Insn
insns_of body = map (λ p. p.insn) (code_of body)

-- an operation may jump by a table: an indirect jump, and a jump whose displacement has 32 bits, which may lead to a thunk
-- that stands for one
abbrev pub may_use_table : Op → Bool
may_use_table (JmpInd table) = true
may_use_table (Jmp rel wide) = wide
may_use_table op = false

-- the instructions that may jump by a table
abbrev pub table_jumps_of : Body → List PlacedInsn
table_jumps_of body = filter (λ p. may_use_table p.insn.op) (code_of body)

-- the instruction at an offset among these
abbrev pub insn_listed : List PlacedInsn → ℕ → Option Insn
insn_listed [] off = None
insn_listed (p ∷ ps) off = if p.off == off then Some p.insn else insn_listed ps off

-- the least boundary above an offset
pub record IsNextBoundary (body : Body) (off next : ℕ) : Type 0 where
  pub boundary : IsBoundary body next
  pub above : off < next
  pub least : (b : ℕ) → IsBoundary body b → off < b → next ≤ b

-- the greatest boundary below an offset
pub record IsPreviousBoundary (body : Body) (off previous : ℕ) : Type 0 where
  pub boundary : IsBoundary body previous
  pub below : previous < off
  pub greatest : (b : ℕ) → IsBoundary body b → b < off → b ≤ previous

-- from one offset to another, each begins where the one before it ends
abbrev pub LeadsTo : ℕ → List PlacedInsn → ℕ → Type 0
LeadsTo off [] to = off ≡ to
LeadsTo off (p ∷ ps) to = (p.off ≡ off) × LeadsTo (off + p.insn.len) ps to
