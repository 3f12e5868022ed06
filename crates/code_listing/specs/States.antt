-- The words of a stack state.
use Rattle.std.specs.Prelude.{ℕ, ℤ, List, [], ◌++◌, Option, Some, None, codes}
use Rattle.std.specs.Fmt.{signed_decimal}
use Rattle.ot_base.specs.RowText.{kind_name, row_words}
use Rattle.state_defs.specs.declared.state.Depth.{Depth}
use Rattle.state_defs.specs.declared.state.Depth.TheVariants.{Known, AtLeast}
use Rattle.state_defs.specs.declared.state.State.{State}
use Rattle.state_defs.specs.declared.state.State.TheVariants.{Live, Ended, Regs}
use Rattle.state_defs.specs.Row.{end_number, row_of}

-- the depth of a call frame that is counted from rbp, which its row doesn't tell: how many bytes rsp is below the frame's top, or at
-- least is
abbrev pub depth_words : Depth → Option ℤ → List ℕ
depth_words (Known n) None = []
depth_words (Known n) (Some m) = codes " depth " ++ signed_decimal n
depth_words (AtLeast n) pointer = codes " depth at least " ++ signed_decimal n

-- what a state tells besides its row
abbrev pub besides_row : State → List ℕ
besides_row (Live depth fp bp) = depth_words depth fp
besides_row (Ended kind) = []
besides_row (Regs full depth) = []

-- a state in a frame: its row, and the depth where the row doesn't tell it
abbrev pub frame_words : State → List ℕ
frame_words s = row_words (row_of s) ++ besides_row s

-- A state: where the stack has ended, the kind that its row has; else its row, and the depth where the row doesn't tell it. Different
-- states have different words.
unfoldable pub state_words : State → List ℕ
state_words (Ended kind) = codes "ended: " ++ kind_name (end_number kind)
state_words (Live depth fp bp) = frame_words (Live depth fp bp)
state_words (Regs full depth) = frame_words (Regs full depth)

-- the state that is kept at a point
abbrev pub kept_words : Option State → List ℕ
kept_words (Some s) = state_words s
kept_words None = codes "not reached"
