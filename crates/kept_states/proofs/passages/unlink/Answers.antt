-- A point that gives to the next one alone gives along its edges.
use Rattle.std.proofs.Common.{◌≡◌, get_or, rules, subst}
use Rattle.kept_states.specs.declared.passages.Passage.{Passage}
use Rattle.kept_states.specs.declared.passages.Passage.TheVariants.{LastsStraight, MovesStraight, LastsAlongEdges, MovesAlongEdges}
use Rattle.kept_states.specs.Passages.{IsPassage}
use Rattle.kept_states.proofs.PassageLemmas.{lasts_along_edges, moves_along_edges, told_otherwise}
use Rattle.kept_states.proofs.passages.unlink.Goals as goal

pub returns-in-LastsStraight-clause-told : goal.returns-in-LastsStraight-clause-told
returns-in-LastsStraight-clause-told c p m told =
    let any : Passage = c.index-passage.result.now in
    let straight : get_or c.args.passages.now.items c.args.n any ≡ LastsStraight = search rules in
    told_otherwise p c.args.passages.now.items c.args.n m LastsAlongEdges any c.requires (λ own. lasts_along_edges p c.args.n (subst (IsPassage p c.args.n) straight own)) told

pub returns-in-MovesStraight-clause-told : goal.returns-in-MovesStraight-clause-told
returns-in-MovesStraight-clause-told c p m told =
    let any : Passage = c.index-passage.result.now in
    let straight : get_or c.args.passages.now.items c.args.n any ≡ MovesStraight = search rules in
    told_otherwise p c.args.passages.now.items c.args.n m MovesAlongEdges any c.requires (λ own. moves_along_edges p c.args.n (subst (IsPassage p c.args.n) straight own)) told
