-- When a body is refused.
use Rattle.std.specs.Prelude.{drop, Err}
use Rattle.x86_decode.specs.Decoding.{Outcome}
use Rattle.x86_text.specs.declared.fault.TextFault.{TextFault}
use Rattle.x86_text.specs.declared.fault.TextFault.TheVariants.{At, NoMemory}
use Rattle.x86_text.specs.Code.{Body, IsBoundary}

-- no instruction stands at that boundary, for that reason; want of memory says nothing of the body
abbrev pub IsTextFault : Body → TextFault → Type 0
IsTextFault body (At off why) = IsBoundary body off × Outcome body.map (drop off body.bytes) (Err why)
IsTextFault body NoMemory = Unit {0}
