use Rattle.std.proofs.Common.{List, ℕ, ap, ◌∙◌}
use Rattle.std.specs.FinSet as set
use Rattle.flow_defs.specs.Program.{never_returns_by}
use Rattle.object_points.proofs.symbol_names.never_returns.Goals as goal

pub returns : goal.returns
unfolding never_returns_by
returns c = c.never_returns.ensures ∙ ap (λ (name : List ℕ). set.contains c.args.lists.now.never_returning name) c.symbol_name.ensures
