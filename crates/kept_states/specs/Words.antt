-- States that are packed where a word is pushed or popped.
use Rattle.std.specs.Prelude.{Bool, true, false, ℤ, pos}
use Rattle.kept_states.specs.declared.parts.Shape.{Shape}
use Rattle.kept_states.specs.declared.parts.Shape.TheVariants.{Undefined, EndOfStack, Regs, FullRegs, KnownSaved, KnownFramedSaved, AtLeastSaved, AtLeastFramedSaved}

-- whether a state of this shape is live
abbrev pub is_live : Shape → Bool
is_live Undefined = false
is_live EndOfStack = false
is_live Regs = false
is_live FullRegs = false
is_live _ = true

-- the lowest depth that leaves everything at or above rsp that a live state of this shape needs, which has rbp saved here if at all
abbrev pub floor_in : Shape → ℤ → ℤ
floor_in KnownSaved home = home
floor_in KnownFramedSaved home = home
floor_in AtLeastSaved home = home
floor_in AtLeastFramedSaved home = home
floor_in _ home = pos 8
