-- How a fault of a body of code is told.
use Rattle.std.specs.Prelude.{ℕ, List, [], ◌++◌, codes, drop}
use Rattle.ot_base.specs.PlaceText.{place_text}
use Rattle.x86_decode.specs.FaultText as decoding
use Rattle.x86_text.specs.declared.fault.TextFault.{TextFault}
use Rattle.x86_text.specs.declared.fault.TextFault.TheVariants.{At, NoMemory}

-- where in the section of this name no instruction stands, and why
abbrev pub fault_text : TextFault → List ℕ → List ℕ → List ℕ
fault_text (At off why) section body = place_text section off ++ codes ": " ++ decoding.fault_text why (drop off body)
fault_text NoMemory section body = []
