-- How a fault of the words is told.
use Rattle.std.specs.Prelude.{ℕ, List, [], ◌++◌, codes}
use Rattle.std.specs.Fmt.{decimal}
use Rattle.cli_words.specs.declared.fault.UsageKind.{UsageKind}
use Rattle.cli_words.specs.declared.fault.UsageKind.TheVariants.{NoCommand, UnknownCommand, UnknownOption, Repeated, Empty, BadNumber, UnknownTopic, Extra, Missing}
use Rattle.cli_words.specs.declared.fault.UsageFault.{UsageFault}
use Rattle.cli_words.specs.declared.fault.UsageFault.TheVariants.{At, NoMemory}

abbrev pub kind_text : UsageKind → List ℕ
kind_text NoCommand = codes "no command"
kind_text UnknownCommand = codes "unknown command"
kind_text UnknownOption = codes "unknown option"
kind_text Repeated = codes "repeated"
kind_text Empty = codes "empty"
kind_text BadNumber = codes "bad number"
kind_text UnknownTopic = codes "unknown topic"
kind_text Extra = codes "extra"
kind_text Missing = codes "missing"

abbrev pub fault_text : UsageFault → List ℕ
fault_text (At word kind) = kind_text kind ++ codes " at word " ++ decimal word
fault_text NoMemory = []
