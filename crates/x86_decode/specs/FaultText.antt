-- How a fault of decoding is told.
use Rattle.std.specs.Prelude.{ℕ, List, ◌++◌, codes, take, flat_map}
use Rattle.std.specs.Fmt.{decimal}
use Rattle.ot_base.specs.PlaceText.{hexadecimal_byte}
use Rattle.x86_decode.specs.declared.DecodeFault.{DecodeFault}
use Rattle.x86_decode.specs.declared.DecodeFault.TheVariants.{Cut, Outside, Long}

-- why these bytes begin with no instruction
abbrev pub fault_text : DecodeFault → List ℕ → List ℕ
fault_text (Outside seen) bytes = codes "opcode outside the map: " ++ flat_map hexadecimal_byte (take seen bytes)
fault_text (Cut have) bytes = codes "instruction cut after " ++ decimal have ++ codes " bytes"
fault_text Long bytes = codes "instruction too long"
