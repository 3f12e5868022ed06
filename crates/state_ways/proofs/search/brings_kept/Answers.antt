-- The state that is brought is the one that is kept, or isn't.
use Rattle.std.proofs.Common.{◌≡◌, true, sym, ◌∙◌, subst, Option, arith}
use Rattle.state_defs.specs.declared.state.HintState.{HintState}
use Rattle.machine_defs.specs.Kept.{is_free}
use Rattle.kept_states.specs.LevelStates.{at}
use Rattle.state_ways.proofs.Edges.{brings_is}
use Rattle.state_ways.proofs.search.brings_kept.Goals as goal

pub returns-then-is_free : goal.returns-then-is_free
returns-then-is_free c p t =
    let free : is_free c.hint.result ≡ true = sym c.is_free.ensures ∙ (let h = c.if-is_free.true in grind arith) in
    let both = brings_is p (at c.args.kept.now) c.args.from c.args.edge c.in-Some.state c.in-Some-state.other c.brought_along-brought.result
    (sym c.state.ensures ∙ c.in-Some.is) (sym c.state-2.ensures ∙ c.in-Some-state.is) (subst (λ (h : Option HintState). is_free h ≡ true) (c.hint.ensures p t) free) (c.brought_along-brought.ensures p t) in
    (λ yes. both.0 (c.is_brought.ensures.0 yes), λ b. c.is_brought.ensures.1 (both.1 b))
