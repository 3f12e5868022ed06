use Rattle.std.proofs.Common.{ℕ, None, refl}
use Rattle.flow_defs.specs.Coded.{Coded}
use Rattle.control_flow.specs.declared.rares.TheConstants.{USUAL}
use Rattle.control_flow.proofs.Numbering.{stays}
use Rattle.control_flow.proofs.RareSteps.{more_rares}
use Rattle.control_flow.proofs.rares.RareTable.add.Goals as goal

pub returns-then-is_usual : goal.returns-then-is_usual
returns-then-is_usual c = λ numbers are.
    let o : Coded = c.args.points.now in
    let n : ℕ = c.args.n in
    let rares = c.args.self.now.rares.items in
    let hinted = c.args.self.now.hinted.items in
    more_rares o c.args.hints.now.restores rares rares hinted hinted numbers n None None 0 USUAL are
    (c.is_usual.ensures.hint c.if-is_usual.true) (refl, refl) (c.is_usual.ensures.rare c.if-is_usual.true) (stays rares rares USUAL 0 refl are.usual)
