-- The edges are put behind those that are kept.
use Rattle.std.proofs.Common.{◌+◌, ◌-◌, ◌≤◌, length, take, drop, ap, ◌∙◌, arith, length-drop}
use Rattle.std.proofs.lemmas.List.Edits.{drop-paste, length-paste, take-paste}
use Rattle.return_search.proofs.Dropping.{same_behind}
use Rattle.return_search.proofs.kept_edges.move_edges.Goals as goal

pub returns : goal.returns
returns c =
    let edges = c.args.edges.now.items in
    let kept = c.args.kept in
    let from = c.args.from in
    let to = c.args.to in
    let room : kept ≤ length edges = omega (arith, c.requires.before, c.requires.ordered, c.requires.inside) in
    let enough : to - from ≤ length (drop from edges) = omega (arith, length-drop from edges, c.requires.inside) in
    let within : kept + (to - from) ≤ to = omega (arith, c.requires.before, c.requires.ordered) in
    let items = c.copy_within.ensures.items in
    record {
      kept = ap (take (kept + (to - from))) items ∙ take-paste edges kept (drop from edges) (to - from) room enough;
      rest = ap (drop to) items ∙ same_behind _ edges (kept + (to - from)) to within (drop-paste edges kept (drop from edges) (to - from) room enough);
      long = ap length items ∙ length-paste edges kept (drop from edges) (to - from) (omega (arith, within, c.requires.inside)) enough;
    }
