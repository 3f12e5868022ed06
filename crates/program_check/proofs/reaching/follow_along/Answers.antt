-- Where the edge is followed.
use Rattle.std.proofs.Common.{◌≡◌, ◌∷◌, [], Bool, sym, subst, ap, ◌∙◌}
use Rattle.std.proofs.lemmas.Result.{on_ok_weaker}
use Rattle.operation_defs.specs.declared.op.Op.{Op}
use Rattle.machine_defs.specs.Access.{Reached, access_along}
use Rattle.program_check.specs.Search.{IsFound}
use Rattle.program_check.proofs.reaching.follow_along.Goals as goal

pub returns-clause-search : goal.returns-clause-search
returns-clause-search c = on_ok_weaker c.find_if.result (λ h p allowed a op goes reached search.
    let from = c.args.from in
    let e = c.args.edge in
    let told : access_along e.kind (p.insn from.point).op from.access ≡ c.access_along.result = ap (λ (o : Op). access_along e.kind o from.access) op ∙ sym c.access_along.ensures in
    h p allowed (from ∷ []) (λ is.
    let followed = (c.is_followed.ensures allowed p.count a).0 is in
    subst (λ (b : Bool). Reached p allowed e.to b from.home) told (Reached.along from.point from.access from.home e reached goes followed.0 followed.1)) search) c.find_if.ensures.search

pub returns-clause-followed : goal.returns-clause-followed
returns-clause-followed c = on_ok_weaker c.find_if.result (λ h p allowed a op stays runs.
    let from = c.args.from in
    let e = c.args.edge in
    let told : access_along e.kind (p.insn from.point).op from.access ≡ c.access_along.result = ap (λ (o : Op). access_along e.kind o from.access) op ∙ sym c.access_along.ensures in
    subst (λ (b : Bool). IsFound c.find_if.new.self.ways.items (record { point = e.to; access = b; home = from.home })) (sym told) (h ((c.is_followed.ensures allowed p.count a).1 (stays, runs)))) c.find_if.ensures.found
