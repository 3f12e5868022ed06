-- The line that says why a command stops, and the status that goes with it.
use Rattle.std.specs.Prelude.{ℕ, List, [], ◌++◌, codes}
use Rattle.std.specs.Fmt.{decimal}
use Rattle.ot_base.specs.PlaceText.{escaped}
use Rattle.cli_words.specs.FaultText.{fault_text}
use Rattle.cli_words.specs.declared.fault.UsageFault.TheVariants.{At}
use Rattle.cli_words.specs.declared.fault.UsageKind.{UsageKind}
use Rattle.command_base.specs.Refusal.{refusal_text}
use Rattle.command_base.specs.declared.status.Status.{Status}
use Rattle.command_base.specs.declared.status.Status.TheVariants as status
use Rattle.command_base.specs.declared.usage.Usage as declared
use Rattle.command_base.specs.declared.stop.CommandStop.{CommandStop}
use Rattle.command_base.specs.declared.stop.CommandStop.TheVariants.{Usage, Missing, TooLong, Refused, PartMissing, PartTooLong, PartRefused, FileFault, NoMemory}

abbrev pub missing_text : List ℕ → List ℕ
missing_text file = escaped file ++ codes " is missing"

abbrev pub longer_text : List ℕ → ℕ → List ℕ
longer_text file limit = escaped file ++ codes " is longer than " ++ decimal limit ++ codes " bytes"

-- what is told of the words
abbrev pub usage_text : declared.Usage → List ℕ
usage_text usage = fault_text (At usage.word usage.kind)

-- a word at fault, and what is wrong with it
abbrev pub usage_at : ℕ → UsageKind → declared.Usage
usage_at word kind = record { word = word; kind = kind }

abbrev pub line_of : CommandStop → List ℕ
line_of (Usage usage) = codes "usage: " ++ usage_text usage ++ codes "\n"
line_of (Missing file) = codes "refused: " ++ missing_text file.now ++ codes "\n"
line_of (TooLong file limit) = codes "refused: " ++ longer_text file.now limit ++ codes "\n"
line_of (Refused refusal) = codes "refused: " ++ refusal_text refusal ++ codes "\n"
line_of (PartMissing part file) = codes "refused: file " ++ decimal part ++ codes ": " ++ missing_text file.now ++ codes "\n"
line_of (PartTooLong part file limit) = codes "refused: file " ++ decimal part ++ codes ": " ++ longer_text file.now limit ++ codes "\n"
line_of (PartRefused part refusal) = codes "refused: file " ++ decimal part ++ codes ": " ++ refusal_text refusal ++ codes "\n"
line_of (FileFault file) = codes "file fault: " ++ escaped file.now ++ codes "\n"
line_of NoMemory = []

abbrev pub status_of : CommandStop → Status
status_of (Usage usage) = status.Usage
status_of (Missing file) = status.Refused
status_of (TooLong file limit) = status.Refused
status_of (Refused refusal) = status.Refused
status_of (PartMissing part file) = status.Refused
status_of (PartTooLong part file limit) = status.Refused
status_of (PartRefused part refusal) = status.Refused
status_of (FileFault file) = status.FileFault
status_of NoMemory = status.NoMemory

-- why a command stops that stops so at file number `part` of a layout: a refusal is one of that file
abbrev pub of_part : ℕ → CommandStop → CommandStop
of_part part (Missing file) = PartMissing part file
of_part part (TooLong file limit) = PartTooLong part file limit
of_part part (Refused refusal) = PartRefused part refusal
of_part part stop = stop
