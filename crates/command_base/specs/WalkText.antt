-- How the frames of a walk, and why it stopped, are printed.
use Rattle.std.specs.Prelude.{ℕ, ◌+◌, List, [], ◌∷◌, ◌++◌, codes}
use Rattle.std.specs.Fmt.{decimal}
use Rattle.ot_base.specs.PlaceText.{hexadecimal}
use Rattle.table_defs.specs.declared.frame.Frame.{Frame}
use Rattle.table_defs.specs.declared.frame.Stop.{Stop}
use Rattle.table_defs.specs.declared.frame.Stop.TheVariants.{Outside, EndOfStack, Undefined, NoRow, BaseUnknown, Unreadable, NotRising, NoMemory}

-- the line of a frame with a number, counted from 0
unfoldable pub frame_line : ℕ → Frame → List ℕ
frame_line number frame = codes "frame " ++ decimal number ++ codes ": ra 0x" ++ hexadecimal frame.ra ++ codes " cfa 0x" ++ hexadecimal frame.cfa ++ codes " bp 0x" ++ hexadecimal frame.bp ++ codes "\n"

abbrev pub not_rising_text : ℕ → ℕ → List ℕ
not_rising_text old new = codes "not rising: old 0x" ++ hexadecimal old ++ codes " new 0x" ++ hexadecimal new

abbrev pub stop_text : Stop → List ℕ
stop_text Outside = codes "outside"
stop_text EndOfStack = codes "end of stack"
stop_text Undefined = codes "undefined"
stop_text NoRow = codes "no row"
stop_text (BaseUnknown reg) = codes "base unknown " ++ decimal reg
stop_text (Unreadable addr) = codes "unreadable 0x" ++ hexadecimal addr
stop_text (NotRising old new) = not_rising_text old new
stop_text NoMemory = []

unfoldable pub stop_line : Stop → List ℕ
stop_line stop = codes "stop: " ++ stop_text stop ++ codes "\n"

-- the lines of frames, numbered from this number on
abbrev pub frames_text : ℕ → List Frame → List ℕ
frames_text number [] = []
frames_text number (frame ∷ frames) = frame_line number frame ++ frames_text (number + 1) frames

-- the text of a walk: a line for each frame, innermost first, and the line of the stop
abbrev pub walk_text : List Frame → Stop → List ℕ
walk_text frames stop = frames_text 0 frames ++ stop_line stop
