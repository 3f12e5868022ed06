use Rattle.std.proofs.Common.{not, sym, ap, ◌∙◌}
use Rattle.operation_defs.specs.declared.insn.Insn.{Insn}
use Rattle.flow_defs.specs.Faults.{is_direct_call}
use Rattle.control_flow.proofs.Branches.{numbered_call, unnumbered_call}
use Rattle.control_flow.proofs.places.is_no_call.Goals as goal

pub returns-in-Some : goal.returns-in-Some
returns-in-Some c =
    ap not (c.is_direct_call.ensures ∙ ap (λ (insn : Insn). is_direct_call insn.op) c.decoded_insn.ensures)
    ∙ numbered_call c.args.places.now c.args.place c.in-Some.n (sym c.number_of.ensures ∙ c.in-Some.is)

pub returns-in-None : goal.returns-in-None
returns-in-None c = unnumbered_call c.args.places.now c.args.place (sym c.number_of.ensures ∙ c.in-None.is)
