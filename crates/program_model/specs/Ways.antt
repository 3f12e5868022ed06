-- How ways lead on from a point of the model: whether it may leave, and whether a hint follows right behind it.
use Rattle.std.specs.Prelude.{◌&&◌, ◌||◌, not, Bool, List, None, is_none, is_some}
use Rattle.std.specs.List.{list_any, list_all}
use Rattle.machine_defs.specs.declared.flow.Edge.{Edge}
use Rattle.machine_defs.specs.Kept.{is_free}
use Rattle.machine_defs.specs.Ways.{is_fixup, is_next, is_sibling, leads_out, drops_bytes}
use Rattle.program_model.specs.declared.program.ModelPoint.{ModelPoint}
use Rattle.program_model.specs.declared.program.Program.{Program}
use Rattle.program_model.specs.Program.{of_point}

-- the point leads outside, or is a joined jump
abbrev pub leads_outside : ModelPoint → Bool
leads_outside x = leads_out x.role && (not (drops_bytes x.insn.op) && not (list_any (λ e. is_sibling e.kind) x.goes.items))

abbrev pub is_joined : ModelPoint → Bool
is_joined x = is_some x.names && (list_any (λ e. is_sibling e.kind) x.goes.items && list_all (λ e. is_sibling e.kind || is_next e.kind) x.goes.items)

-- code may leave at this point, whatever its stack is
abbrev pub leaves : ModelPoint → Bool
leaves x = (is_none x.owner || x.is_loose) && (leads_outside x || is_joined x)

-- the edge is one to a fixup, or leads to where a hint sets or restores the state
abbrev pub leads_to_hint : Program → Edge → Bool
leads_to_hint p e = is_fixup e.kind || not (is_free (of_point p None (λ x. x.hint) e.to))

-- there are edges besides those to fixups, and each of them leads to such a hint
abbrev pub lead_to_hints : Program → List Edge → Bool
lead_to_hints p edges = list_any (λ e. not (is_fixup e.kind)) edges && list_all (leads_to_hint p) edges
