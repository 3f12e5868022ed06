use Rattle.std.proofs.Common.{◌≡◌, Bool, true, false, not, refl, sym, ap, ◌∙◌}
use Rattle.std.proofs.lemmas.Bool.{false≢true}
use Rattle.flow_defs.specs.Arrival.{decoded_insn}
use Rattle.point_arrivals.specs.Remade.{may_be_remade}
use Rattle.point_arrivals.proofs.Remaking.{same_insn, stays_exactly}
use Rattle.point_arrivals.proofs.remade.stays_decoded.Goals as goal

is_not : (b : Bool) → not b ≡ true → b ≡ false
is_not true is = absurd (false≢true is)
is_not false is = refl

pub returns-clause-exact : goal.returns-clause-exact
returns-clause-exact c = stays_exactly c.args.op c.may_be_remade.result c.may_be_remade.ensures

pub returns-clause-stays : goal.returns-clause-stays
returns-clause-stays c = λ is o p op.
    sym (same_insn o p (decoded_insn o p) refl (ap may_be_remade op ∙ sym c.may_be_remade.ensures ∙ is_not c.may_be_remade.result is))
