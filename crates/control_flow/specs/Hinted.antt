-- What the points of an object have that have a hint.
use Rattle.std.specs.Prelude.{◌≡◌, ◌↔◌, ◌<◌, ◌≤◌, ℕ, List, Some, None, Contains, is_some, length, slice_range}
use Rattle.flow_defs.specs.Coded.{Coded}
use Rattle.state_defs.specs.declared.state.HintState.TheVariants.{Restore}
use Rattle.flow_defs.specs.Code.{point_at}
use Rattle.flow_defs.specs.Hints.{hint_of, own_hint_of, save_of}
use Rattle.program_graph.specs.declared.parts.Hinted.{Hinted}
use Rattle.control_flow.specs.Listed.{count_of}

-- r is a RESTORE that means the SAVE q
abbrev pub IsMeant : Coded → ℕ → ℕ → Type 0
IsMeant o q r = (r < count_of o) × (hint_of o (point_at o r) ≡ Some Restore) × (save_of o (point_at o r) ≡ Some q)

-- what point q has, which has a hint, where its RESTOREs stand in this list
pub record IsHinted (o : Coded) (listed : List ℕ) (q : ℕ) (x : Hinted) : Type 0 where
  pub hint : hint_of o (point_at o q) ≡ x.hint
  pub own : is_some (own_hint_of o (point_at o q)) ≡ x.is_own
  pub save_of : save_of o (point_at o q) ≡ x.save_of
  pub order : x.restores_from ≤ x.restores_to
  pub within : x.restores_to ≤ length listed
  pub restores : (r : ℕ) → Contains (slice_range listed x.restores_from x.restores_to) r ↔ IsMeant o q r

-- point q has no hint
abbrev pub IsUnhinted : Coded → ℕ → Type 0
IsUnhinted o q = hint_of o (point_at o q) ≡ None
