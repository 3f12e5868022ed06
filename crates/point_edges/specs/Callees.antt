-- Where control comes to code of no function that is called.
use Rattle.std.specs.Prelude.{ℕ, Bool, true, Option, Some, None}
use Rattle.flow_defs.specs.Coded.{Coded}
use Rattle.flow_defs.specs.Code.{point_at}
use Rattle.flow_defs.specs.Roles.{is_free_callee}

-- the point with a number, if there is one, is of no function, and a hint tells a call frame there, or ends the stack
abbrev pub is_free_if_any : Coded → Option ℕ → Bool
is_free_if_any o None = true
is_free_if_any o (Some q) = is_free_callee o (point_at o q)
