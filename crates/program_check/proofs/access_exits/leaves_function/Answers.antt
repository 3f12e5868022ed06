-- By the role, or by the edges.
use Rattle.std.proofs.Common.{◌≡◌, true, false, refl, sym, ap, ◌∙◌}
use Rattle.std.specs.List.{list_any}
use Rattle.machine_defs.specs.declared.flow.Edge.{Edge}
use Rattle.machine_defs.specs.Kept.{edges_of}
use Rattle.program_check.specs.Exits.{is_sibling, is_way_out}
use Rattle.program_check.proofs.AllWarnings.{leaves_by_tests}
use Rattle.program_check.proofs.access_exits.leaves_function.Goals as goal

pub returns-then-is_way_out : goal.returns-then-is_way_out
returns-then-is_way_out c p t =
    let told : is_way_out (p.role c.args.n) ≡ true = ap is_way_out (sym (c.role.ensures p t)) ∙ (sym c.is_way_out.ensures ∙ c.if-is_way_out.true) in
    let by = leaves_by_tests p c.args.n true (list_any (λ (e : Edge). is_sibling e.kind) (edges_of p c.args.n)) told refl in
    (λ h. by.0 refl, λ l. c.if-is_way_out.true)

pub returns-else-is_way_out : goal.returns-else-is_way_out
returns-else-is_way_out c p t =
    let told : is_way_out (p.role c.args.n) ≡ false = ap is_way_out (sym (c.role.ensures p t)) ∙ (sym c.is_way_out.ensures ∙ c.if-is_way_out.false) in
    let edges : list_any (λ (e : Edge). is_sibling e.kind) (edges_of p c.args.n) ≡ c.has_sibling.result = ap (list_any (λ (e : Edge). is_sibling e.kind)) (sym (c.successors.ensures.edges p t)) ∙ sym c.has_sibling.ensures in
    leaves_by_tests p c.args.n false c.has_sibling.result told edges
