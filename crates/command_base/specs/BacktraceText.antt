-- The lines that are printed behind a warning's line.
use Rattle.std.specs.Prelude.{ℕ, List, [], ◌∷◌, ◌++◌, Option, Some, None, codes}
use Rattle.std.specs.List.{flat_map}
use Rattle.std.specs.Fmt.{decimal}
use Rattle.ot_base.specs.declared.warning.Warning.{Warning}
use Rattle.ot_base.specs.PlaceText.{escaped, place_text}
use Rattle.elf_objects.specs.Elf.{Elf}
use Rattle.elf_objects.specs.Contents.{symbol_at}
use Rattle.state_defs.specs.declared.state.State.{State}
use Rattle.machine_defs.specs.Program.{Program}
use Rattle.state_ways.specs.declared.steps.WayKind.{WayKind}
use Rattle.state_ways.specs.declared.steps.WayKind.TheVariants.{Entry, Hint, Restore, Next, Taken, Fixup, Table}
use Rattle.state_ways.specs.declared.steps.WayStep.{WayStep}
use Rattle.code_listing.specs.Points.{point_text}
use Rattle.code_listing.specs.States.{kept_words}
use Rattle.command_base.specs.Warnings.{line_of}
use Rattle.command_base.specs.declared.backtrace_holder.Holder.{Holder}
use Rattle.command_base.specs.Backtrace.{IsBacktrace, Told}

-- how control came to a point
abbrev pub kind_words : WayKind → List ℕ
kind_words Entry = codes "entry"
kind_words Hint = codes "hint"
kind_words Restore = codes "restore"
kind_words Next = codes "next"
kind_words Taken = codes "taken"
kind_words Fixup = codes "fixup"
kind_words Table = codes "table"

-- a step: its point, and how control came there
abbrev pub step_text : Elf → Program → WayStep → List ℕ
step_text o p s = point_text o p s.point ++ codes " " ++ kind_words s.kind

-- each step behind a comma and a blank
abbrev pub further_text : Elf → Program → List WayStep → List ℕ
further_text o p steps = flat_map (λ s. codes ", " ++ step_text o p s) steps

-- the line of some steps, under its first words; none where there are no steps
abbrev pub steps_line : Elf → Program → List ℕ → List WayStep → List ℕ
steps_line o p head [] = []
steps_line o p head (s ∷ steps) = codes "    " ++ head ++ codes ": " ++ step_text o p s ++ further_text o p steps ++ codes "\n"

-- a place by its distance from the start of the function that holds it
abbrev pub holder_text : Elf → Option Holder → List ℕ
holder_text o (Some holder) = place_text (symbol_at o holder.sym).name holder.off
holder_text o None = codes "no function"

-- the line of the function that holds a place, where the object was read from a file of this name
abbrev pub holder_line : Elf → List ℕ → Option Holder → List ℕ
holder_line o input holder = codes "    in " ++ escaped input ++ codes ": " ++ holder_text o holder ++ codes "\n"

-- the line of the state that is kept at a point
abbrev pub state_line : Option State → List ℕ
state_line state = codes "    state: " ++ kept_words state ++ codes "\n"

-- the line that names the explanation of a rule
abbrev pub see_line : ℕ → List ℕ
see_line rule = codes "    see: objtool explain " ++ decimal rule ++ codes "\n"

-- what is told of a warning of a rule beside its line
unfoldable pub backtrace_text : Elf → List ℕ → Program → ℕ → Told → List ℕ
backtrace_text o input p rule told =
    holder_line o input told.holder
    ++ state_line told.state
    ++ steps_line o p (codes "way") told.way
    ++ steps_line o p (codes "other way") told.other
    ++ see_line rule

-- The text of some warnings of an object's program, where the object was read from a file of this name and these states are kept: of
-- each warning in order its line, and behind that a backtrace of it.
pub data AreBacktraced (o : Elf) (input : List ℕ) (p : Program) (states : ℕ → Option State) : List Warning → List ℕ → Type 0 where
  none : AreBacktraced o input p states [] []
  more :
      (w : Warning) (told : Told) (warnings : List Warning) (text : List ℕ)
      → IsBacktrace o p states w told
      → AreBacktraced o input p states warnings text
      → AreBacktraced o input p states (w ∷ warnings) ((line_of o w ++ backtrace_text o input p w.rule told) ++ text)
