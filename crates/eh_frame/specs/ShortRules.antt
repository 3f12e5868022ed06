-- Rules whose offsets have 16 bits, as those of rows have.
use Rattle.std.specs.Prelude.{◌≤◌, ℤ, Option, Some, None, unsigned_abs}
use Rattle.eh_frame.specs.declared.rule.CfaRule.{CfaRule}
use Rattle.eh_frame.specs.declared.rule.CfaRule.TheVariants.{Undefined, Cfa}

abbrev pub IsShortOffset : ℤ → Type 0
IsShortOffset off = unsigned_abs off ≤ 32768

abbrev pub IsShortSaved : Option ℤ → Type 0
IsShortSaved None = Unit {0}
IsShortSaved (Some off) = IsShortOffset off

abbrev pub IsShort : CfaRule → Type 0
IsShort Undefined = Unit {0}
IsShort (Cfa reg off bp) = IsShortOffset off × IsShortSaved bp
