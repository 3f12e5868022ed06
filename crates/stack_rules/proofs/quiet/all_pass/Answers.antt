-- A single edge passes, or each of them does.
use Rattle.std.proofs.Common.{[], ◌∷◌, refl}
use Rattle.std.proofs.lemmas.List.Elements.{All-same}
use Rattle.stack_rules.specs.Quiet.{Passes}
use Rattle.stack_rules.proofs.QuietPoints.{single}
use Rattle.stack_rules.proofs.quiet.all_pass.Goals as goal

pub returns-in-Some : goal.returns-in-Some
returns-in-Some c passes p tells =
    All-same (Passes p c.args.kept.now c.args.n) _ _ (c.in-Some.ensures.edges p tells)
    (single (Passes p c.args.kept.now c.args.n) (c.in-Some.edge ∷ []) c.in-Some.edge refl (c.passes.ensures passes p tells))

pub returns-in-None : goal.returns-in-None
returns-in-None c pass p tells = c.several_pass.ensures pass p tells
