-- Jumps that go nowhere but through their table.
use Rattle.std.specs.Prelude.{◌≡◌, ◌<◌, ◌&&◌, ℕ, not, is_none, Bool, true, false, List, Some, All, Contains}
use Rattle.std.specs.BTreeMap.{get}
use Rattle.ot_base.specs.Places.{place_cmp}
use Rattle.ot_base.specs.declared.place.Place.{Place}
use Rattle.operation_defs.specs.declared.op.Op.{Op}
use Rattle.operation_defs.specs.declared.op.Op.TheVariants.{Jmp, JmpInd}
use Rattle.machine_defs.specs.declared.flow.EdgeKind.TheVariants.{Table}
use Rattle.machine_defs.specs.declared.flow.Role.TheVariants.{Plain}
use Rattle.alternatives.specs.declared.point.Point.{Point}
use Rattle.flow_defs.specs.Coded.{Coded}
use Rattle.flow_defs.specs.declared.destination.Destination.{Destination}
use Rattle.flow_defs.specs.declared.destination.Destination.TheVariants.{ToIndirectThunk}
use Rattle.flow_defs.specs.Arrival.{insn_of_object}
use Rattle.flow_defs.specs.Code.{is_plain, point_at}
use Rattle.flow_defs.specs.Edges.{fixups, goes, is_some_place, static_targets}
use Rattle.flow_defs.specs.Marks.{marks_of}
use Rattle.flow_defs.specs.Owners.{is_unchecked_point}
use Rattle.flow_defs.specs.Roles.{role_of, table_of_point}
use Rattle.flow_defs.specs.Sites.{site_holding}
use Rattle.flow_defs.specs.Targets.{destination_of}
use Rattle.point_edges.specs.Tables.{table_start_of}
use Rattle.control_flow.specs.declared.lone_jumps.LoneJumps.{LoneJumps}

abbrev pub is_indirect_thunk : Destination → Bool
is_indirect_thunk ToIndirectThunk = true
is_indirect_thunk _ = false

-- a jump is indirect: by its operation, or by a thunk to which it goes
abbrev pub is_indirect_jump : Op → Destination → Bool
is_indirect_jump (JmpInd table) to = true
is_indirect_jump (Jmp rel wide) to = is_indirect_thunk to
is_indirect_jump _ to = false

-- no static branch and no exception entry stands at a point
abbrev pub is_unlisted : Coded → Point → Bool
is_unlisted o point = not (is_some_place (static_targets o point)) && not (is_some_place (fixups o point))

-- a point of the object's own code, outside of all sites, that is checked
abbrev pub is_in_open_code : Coded → Point → Bool
is_in_open_code o point = is_plain point && (is_none (site_holding o point.place) && not (is_unchecked_point o point))

-- A lone jump: an indirect jump in open code through a table that has entries, which goes nowhere else.
unfoldable pub is_lone_jump : Coded → Point → Bool
is_lone_jump o point =
    is_indirect_jump (insn_of_object o point).op (destination_of o point)
    && (is_some_place (table_of_point o point)
    && (is_unlisted o point && is_in_open_code o point))

-- Two points go alike: along the same edges, all of a table, and with the same marks. Neither calls nor leaves its function.
pub record GoAlike (o : Coded) (one other : Point) : Type 0 where
  pub edges : goes o one ≡ goes o other
  pub tables : All (λ e. e.kind ≡ Table) (goes o other)
  pub role : role_of o one ≡ Plain
  pub other_role : role_of o other ≡ Plain
  pub marks : (comes_back : Bool) → marks_of o one comes_back ≡ marks_of o other comes_back

-- point q goes like point r, an earlier one, which isn't listed as one that goes like another
pub record HasEdgesOf (o : Coded) (alike : List ℕ) (q r : ℕ) : Type 0 where
  pub earlier : r < q
  pub own : Contains alike r → ⊥
  pub go_alike : GoAlike o (point_at o q) (point_at o r)

-- point r is a lone jump, one of the first n points, its table begins there, and it isn't listed as one that goes like another
pub record IsFirstJump (o : Coded) (alike : List ℕ) (n : ℕ) (start : Place) (r : ℕ) : Type 0 where
  pub earlier : r < n
  pub own : Contains alike r → ⊥
  pub lone : is_lone_jump o (point_at o r) ≡ true
  pub begins : table_start_of o (point_at o r) ≡ Some start

-- these are lone jumps of the first n points
pub record AreLoneJumps (o : Coded) (jumps : LoneJumps) (n : ℕ) : Type 0 where
  pub firsts : (start : Place) (r : ℕ) → get place_cmp jumps.firsts start ≡ Some r → IsFirstJump o jumps.alike.items n start r
  pub earlier : All (λ q. q < n) jumps.alike.items
