-- Ways out of a function, as tests.
use Rattle.std.specs.Prelude.{Bool, true, false}
use Rattle.machine_defs.specs.declared.flow.EdgeKind.{EdgeKind}
use Rattle.machine_defs.specs.declared.flow.EdgeKind.TheVariants.{Sibling}
use Rattle.machine_defs.specs.declared.flow.Role.{Role}
use Rattle.machine_defs.specs.declared.flow.Role.TheVariants.{Return, JumpOut, JumpAny}

-- whether a role is that of a return, or of a jump outside
abbrev pub is_way_out : Role → Bool
is_way_out Return = true
is_way_out (JumpOut sym) = true
is_way_out JumpAny = true
is_way_out _ = false

-- whether an edge leads to another function
abbrev pub is_sibling : EdgeKind → Bool
is_sibling Sibling = true
is_sibling _ = false
