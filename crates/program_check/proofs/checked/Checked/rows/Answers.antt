-- The rows of any such program, and there is one.
use Rattle.std.proofs.Math.Logic.{∥∥₁_map}
use Rattle.std.proofs.lemmas.Result.{IfOk-weaker}
use Rattle.program_check.proofs.SomeAccepted.{all_fit, is_checked_by}
use Rattle.program_check.proofs.checked.Checked.rows.Goals as goal

pub rows-requires-clause-fit : goal.rows-requires-clause-fit
rows-requires-clause-fit c = all_fit c.args.self.now.graph.parts c.args.self.now.kept c.args.self.now.accepted

pub returns-clause-some : goal.returns-clause-some
returns-clause-some c = IfOk-weaker c.rows.result _ _ (λ rows made. ∥∥₁_map c.args.self.now.accepted (λ h. (h.0, h.1, h.2, made h.0 (is_checked_by h.0 c.args.self.now.graph.parts c.args.self.now.kept h.1 h.2)))) c.rows.ensures
