-- Code that no symbol covers, in a program of five points, of one byte each:
--   0  ret, of f;  1  push and 2  jmp, of no symbol;  3  push, of a symbol that is no function;  4  push, of a part of f, to which
--   the jmp leads
use Rattle.std.specs.Prelude.{◌≡◌, true, false, [], ◌∷◌, Some, None, slice_index_or, filter, pos}
use Rattle.ot_base.specs.declared.options.Options.{Options}
use Rattle.ot_base.specs.Places.{same_place}
use Rattle.operation_defs.specs.declared.op.Op.TheVariants.{Push, Jmp, Ret}
use Rattle.machine_defs.specs.declared.flow.EdgeKind.TheVariants.{Taken}
use Rattle.machine_defs.specs.declared.flow.Role.TheVariants.{Plain, Return}
use Rattle.state_defs.specs.declared.state.HintState.TheVariants.{Restore}
use Rattle.machine_defs.specs.Program.{Program, below, edge}
use Rattle.machine_defs.specs.Broken.{is_hole, IsUnreached, IsFirstUnreached}
use Rattle.machine_defs.specs.Worked.{at, insn, framed}

-- a RESTORE without a SAVE stands at each point but the first, so that none of these is kept
abbrev pub holed : Program
holed = record framed {
  count = 5;
  insn = λ q. slice_index_or (insn Ret 1 ∷ insn Push 1 ∷ insn (Jmp (pos 1) false) 1 ∷ []) q (insn Push 1);
  place = at;
  address = at;
  function = λ q. slice_index_or (Some 0 ∷ None ∷ None ∷ None ∷ []) q (Some 4);
  owner = λ q. slice_index_or (Some 0 ∷ None ∷ None ∷ None ∷ []) q (Some 0);
  uncovered = λ q. slice_index_or (false ∷ true ∷ true ∷ []) q false;
  previous = λ q. slice_index_or (None ∷ Some 0 ∷ Some 1 ∷ Some 2 ∷ Some 3 ∷ []) q None;
  hint = λ q. slice_index_or (None ∷ []) q (Some Restore);
  own_hint = λ q. slice_index_or (false ∷ []) q true;
  goes = λ q. slice_index_or ([] ∷ [] ∷ (edge 4 Taken ∷ []) ∷ []) q [];
  role = λ q. slice_index_or (Return ∷ []) q Plain;
  after = λ _. [];
  arrive = λ wanted. filter (λ q. same_place (at q) wanted) (below 5);
  entries = 0 ∷ [];
  texts = record { sec = 1; size = 5 } ∷ [];
}

-- the object is checked alone, or as a linked one
abbrev pub alone : Options
alone = record { fp = false; retpoline = false; rethunk = false; uaccess = false; unreachable = true; link = false; «module» = false }

abbrev pub linked : Options
linked = record alone { link = true }

pub record LeavesHoles : Type 0 where
  -- what no symbol covers is a hole in a linked object, and in one that is joined from several; what one covers isn't
  pub hole : is_hole holed linked 1 ≡ true
  pub joined : is_hole (record holed { linked = true }) alone 1 ≡ true
  pub no_hole : is_hole holed alone 1 ≡ false
  pub covered : is_hole holed linked 3 ≡ false
  -- in a hole, and in a part to which it leads, no instruction is told to be unreached; else they are
  pub untold : IsUnreached holed linked 1 → ⊥
  pub untold_part : IsUnreached holed linked 4 → ⊥
  pub told : IsFirstUnreached holed alone 1
  pub told_part : IsUnreached holed alone 4
  -- a hole ends the instructions before it
  pub behind : IsFirstUnreached holed linked 3
  pub not_first : IsFirstUnreached holed alone 3 → ⊥
