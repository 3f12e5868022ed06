-- By what is kept at the edge's ends.
use Rattle.std.proofs.Common.{◌≡◌, ◌↔◌, true, Option, sym, ap, ◌∙◌, subst, arith}
use Rattle.std.specs.Prelude.{option_to_list}
use Rattle.ot_base.specs.declared.place.Place.{Place}
use Rattle.ot_base.specs.declared.warning.Warning.{Warning}
use Rattle.ot_base.specs.Warnings.{numbered_warning}
use Rattle.state_defs.specs.declared.state.HintState.{HintState}
use Rattle.state_defs.specs.Rules.{depth_number}
use Rattle.machine_defs.specs.Kept.{is_free}
use Rattle.kept_states.specs.LevelStates.{at}
use Rattle.state_ways.specs.Clashes.{IsClash, clash_of}
use Rattle.state_ways.proofs.ClashLemmas.{clash_is, none_along, none_from, none_other, none_to}
use Rattle.state_ways.proofs.clashes.mismatch_at.Goals as goal

pub returns-in_default : goal.returns-in_default
returns-in_default c = λ p told own. none_from p c.args.graph.now.parts (at c.args.kept.now) told c.args.from c.args.edge (sym c.state.ensures ∙ c.in_default.is)

pub returns-in_default-state : goal.returns-in_default-state
returns-in_default-state c = λ p told own. none_to p c.args.graph.now.parts (at c.args.kept.now) told c.args.from c.args.edge (sym c.state-2.ensures ∙ c.in_default-state.is)

pub returns-in_default-brought_along : goal.returns-in_default-brought_along
returns-in_default-brought_along c = λ p told own.
    none_along p c.args.graph.now.parts (at c.args.kept.now) told c.args.from c.args.edge c.in-Some.state (sym c.state.ensures ∙ c.in-Some.is)
    c.brought_along.result c.in_default-brought_along.is (c.brought_along.ensures p told.tells)

pub returns-then-is_same : goal.returns-then-is_same
returns-then-is_same c = λ p told own.
    none_other p c.args.graph.now.parts (at c.args.kept.now) told c.args.from c.args.edge c.in-Some.state c.in-Some-state.other c.in-Some-brought_along.brought (sym c.state.ensures ∙ c.in-Some.is) (sym c.state-2.ensures ∙ c.in-Some-state.is)
    (ap option_to_list (sym c.in-Some-brought_along.is) ∙ c.brought_along.ensures p told.tells)
    (c.is_same.ensures.0 (let h = c.if-is_same.true in grind arith))

pub returns : goal.returns
returns c = λ p told own w.
    let free : is_free c.hint.result ≡ true = sym c.is_free.ensures ∙ (let h = c.if-not-is_free.false in grind arith) in
    let both = clash_is p c.args.graph.now.parts (at c.args.kept.now) told c.args.from c.args.edge c.in-Some.state c.in-Some-state.other c.in-Some-brought_along.brought (sym c.state.ensures ∙ c.in-Some.is) (sym c.state-2.ensures ∙ c.in-Some-state.is)
    (ap option_to_list (sym c.in-Some-brought_along.is) ∙ c.brought_along.ensures p told.tells)
    own (subst (λ (h : Option HintState). is_free h ≡ true) (c.hint.ensures p told.tells) free) (λ same. let k = c.is_same.ensures.1 same in let h = c.if-is_same.false in grind arith) w in
    subst (λ (key : Warning). IsClash p w (clash_of c.args.from c.args.edge) ↔ (w ≡ key)) (sym (c.mismatch.ensures ∙ ap (λ (x : Place). numbered_warning x 4 (depth_number c.in-Some-state.other) (depth_number c.in-Some-brought_along.brought)) (c.place.ensures p told.tells))) both
