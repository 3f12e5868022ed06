-- Points that name one owner by its number have what it tells.
use Rattle.std.proofs.Common.{◌≡◌, None, false, arith, IsTrue, nat_eq, ap, sym, ◌∙◌, slice_get}
use Rattle.std.proofs.lemmas.Option.{slice_get-get_or}
use Rattle.program_graph.specs.declared.parts.GraphPoint.{GraphPoint}
use Rattle.program_graph.specs.declared.parts.Owner.{Owner}
use Rattle.program_graph.proofs.graph.Graph.are_together.Goals as goal

no_owner : Owner
no_owner = record { function = None; owner = None; is_unchecked = false; in_patches = false; is_loose = false; is_uncovered = false }

pub returns-clause-owner : goal.returns-clause-owner
returns-clause-owner c same p tells =
    let x : GraphPoint = c.point.result.now in
    let y : GraphPoint = c.point-2.result.now in
    let all = c.args.self.now.parts.owners.items in
    let at = slice_get-get_or all x.owner no_owner (c.args.self.now.shape.owners c.args.one x c.point.ensures) in
    let number : y.owner ≡ x.owner = (let is : IsTrue (nat_eq x.owner y.owner) = same in grind arith) in
    ((tells.points c.args.one x c.point.ensures).owner _ at).owner ∙ sym (((tells.points c.args.other y c.point-2.ensures).owner _ (ap (slice_get all) number ∙ at)).owner)

pub returns-clause-unchecked : goal.returns-clause-unchecked
returns-clause-unchecked c same p tells =
    let x : GraphPoint = c.point.result.now in
    let y : GraphPoint = c.point-2.result.now in
    let all = c.args.self.now.parts.owners.items in
    let at = slice_get-get_or all x.owner no_owner (c.args.self.now.shape.owners c.args.one x c.point.ensures) in
    let number : y.owner ≡ x.owner = (let is : IsTrue (nat_eq x.owner y.owner) = same in grind arith) in
    ((tells.points c.args.one x c.point.ensures).owner _ at).unchecked ∙ sym (((tells.points c.args.other y c.point-2.ensures).owner _ (ap (slice_get all) number ∙ at)).unchecked)
