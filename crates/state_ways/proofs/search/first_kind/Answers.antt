-- A hint sets the state, or an entry is entered where none does.
use Rattle.std.proofs.Common.{◌≡◌, true, false, sym, ◌∙◌, ap, arith, Option, Some, subst}
use Rattle.state_defs.specs.declared.state.HintState.{HintState}
use Rattle.machine_defs.specs.Kept.{is_at_entry, is_free}
use Rattle.state_ways.proofs.Edges.{begins_at_entry, begins_at_hint}
use Rattle.state_ways.proofs.search.first_kind.Goals as goal

pub returns-in-Some-Set-clause-way : goal.returns-in-Some-Set-clause-way
returns-in-Some-Set-clause-way c p t =
    let u : p.unchecked c.args.n ≡ false = sym (c.unchecked.ensures p t) ∙ (let h = c.if-unchecked.false in grind arith) in
    begins_at_hint p c.args.n c.in-Some-Set.field-0-0 u (sym (c.hint.ensures p t) ∙ (c.in-Some-Set.is ∙ ap Some c.in-Some-Set.field-0-is))

pub returns-then-is_entered-clause-way : goal.returns-then-is_entered-clause-way
returns-then-is_entered-clause-way c p t =
    let u : p.unchecked c.args.n ≡ false = sym (c.unchecked.ensures p t) ∙ (let h = c.if-unchecked.false in grind arith) in
    let e : is_at_entry p c.args.n ≡ true = sym (c.is_entered.ensures p t) ∙ (let h = c.if-is_entered.true in grind arith) in
    let f : is_free c.hint.result ≡ true = grind arith in
    begins_at_entry p c.args.n u (subst (λ (h : Option HintState). is_free h ≡ true) (c.hint.ensures p t) f) e
