-- Where control may go from the points of an object, beside their edges.
use Rattle.std.specs.Prelude.{◌≡◌, ℕ, Bool, false, true, is_some, slice_index_or}
use Rattle.flow_defs.specs.Coded.{Coded}
use Rattle.flow_defs.specs.Code.{point_at}
use Rattle.flow_defs.specs.Marks.{marks_of}
use Rattle.flow_defs.specs.Program.{calls_fentry_by}
use Rattle.flow_defs.specs.Roles.{role_of}
use Rattle.flow_defs.specs.Targets.{names_of}
use Rattle.program_graph.specs.declared.parts.Transfer.{Transfer}
use Rattle.return_search.specs.declared.found_returns.Returns.{Returns}

-- it is that of point q, where it is told whether a call there can come back
pub record IsTransfer (o : Coded) (q : ℕ) (comes_back : Bool) (x : Transfer) : Type 0 where
  pub role : role_of o (point_at o q) ≡ x.role
  pub marks : marks_of o (point_at o q) comes_back ≡ x.marks
  pub calls_fentry : calls_fentry_by o (role_of o (point_at o q)) ≡ x.calls_fentry
  pub names : is_some (names_of o (point_at o q)) ≡ x.names_symbol

-- and where that is told of all points
abbrev pub IsTransferOf : Coded → Returns → ℕ → Transfer → Type 0
IsTransferOf o returns q x = IsTransfer o q (slice_index_or returns.comes_back.items q false) x

-- and where a call there can come back
abbrev pub IsTransferIfBack : Coded → ℕ → Transfer → Type 0
IsTransferIfBack o q x = IsTransfer o q true x
