-- The kinds that most points have.
use Rattle.std.specs.Prelude.{◌≡◌, ◌<◌, ◌↔◌, ℕ, Bool, List, IsTrue, Some, false, length, slice_get, slice_index_or, true}
use Rattle.operation_defs.specs.declared.insn.Insn.{Insn}
use Rattle.operation_defs.specs.declared.op.Op.{Op}
use Rattle.operation_defs.specs.Made.{Around, made}
use Rattle.program_graph.specs.declared.parts.PointKind.{PointKind}

-- the kind that most points with an instruction have
unfoldable pub usual_kind : Insn → PointKind
usual_kind insn = record { op = insn.op; rare = 0; transfer = 0; len = insn.len; is_dead_end = false; may_return = true; is_entered = false }

-- a program makes no other operation of a decoded one, whatever its object says around it
abbrev pub StaysDecoded : Op → Type 0
StaysDecoded op = (around : Around) → made around op ≡ op

-- the usual kinds of the first n of these instructions stand at their numbers, and it is told of each whether it stays as it
-- is decoded
pub record AreUsual (insns : List Insn) (kinds : List PointKind) (stay : List Bool) (n : ℕ) : Type 0 where
  pub long : length stay ≡ n
  pub here : (i : ℕ) (insn : Insn) → i < n → slice_get insns i ≡ Some insn → slice_get kinds i ≡ Some (usual_kind insn)
  pub stays : (i : ℕ) (insn : Insn) → i < n → slice_get insns i ≡ Some insn → IsTrue (slice_index_or stay i false) ↔ StaysDecoded insn.op
