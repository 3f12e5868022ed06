-- What restores gives means the point.
use Rattle.std.proofs.Common.{◌≡◌, ◌==◌, true, inr, not, length, ap, sym, ◌∙◌}
use Rattle.kept_states.proofs.PassageLemmas.{something}
use Rattle.kept_states.proofs.passages.is_hinted.Goals as goal

pub returns-else-is_some-clause-hinted : goal.returns-else-is_some-clause-hinted
returns-else-is_some-clause-hinted c holds p t =
    let some_there : not (length c.restores.result.now == 0) ≡ true = ap not (sym c.is_empty.ensures) ∙ holds in
    let r = something c.restores.result.now some_there in
    inr (r.0, (c.restores.ensures.restores p t r.0).0 r.1)
