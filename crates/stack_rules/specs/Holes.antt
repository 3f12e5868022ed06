-- Parts of functions to which jumps of holes lead.
use Rattle.std.specs.Prelude.{◌≡◌, ◌≢◌, ◌↔◌, ℕ, true, Option, Some, None, IsTrue, Contains, ◌<◌}
use Rattle.std.specs.BTreeSet.{contains}
use Rattle.std.specs.Ordering.{nat_cmp}
use Rattle.ot_base.specs.declared.options.Options.{Options}
use Rattle.machine_defs.specs.declared.flow.Edge.{Edge}
use Rattle.machine_defs.specs.declared.flow.EdgeKind.TheVariants.{Taken}
use Rattle.machine_defs.specs.Program.{Program}
use Rattle.machine_defs.specs.Kept.{edges_of}
use Rattle.machine_defs.specs.Broken.{is_hole}
use Rattle.stack_rules.specs.declared.holes.HoleParts.{HoleParts}

-- the edge is a jump to this part of a function
pub record EntersPart (p : Program) (e : Edge) (part : Option ℕ) : Type 0 where
  pub taken : e.kind ≡ Taken
  pub function : p.function e.to ≡ part
  pub owner : p.owner e.to ≢ part

-- one of these edges, of a point that is a hole of the object's code, is a jump to this part
pub record LeadsFrom (p : Program) (options : Options) (hole : ℕ) (part : Option ℕ) : Type 0 where
  pub plain : p.variant hole ≡ 0
  pub left : is_hole p options hole ≡ true
  pub edge : Edge
  pub own : Contains (edges_of p hole) edge
  pub enters : EntersPart p edge part

-- whether a part is among these
abbrev pub IsAmong : HoleParts → Option ℕ → Type 0
IsAmong parts None = parts.has_nameless ≡ true
IsAmong parts (Some function) = IsTrue (contains nat_cmp parts.functions function)

-- these are the parts to which jumps of holes among the first points lead
abbrev pub AreHoleParts : Program → Options → ℕ → HoleParts → Type 0
AreHoleParts p options n parts = (part : Option ℕ) → IsAmong parts part ↔ ((hole : ℕ) × (hole < n) × LeadsFrom p options hole part)
