-- What is found, what comes back and the edges that stay are those of each program that the flow tells.
use Rattle.std.proofs.Common.{◌≡◌, ◌<◌, ℕ, Bool, false, true, List, ◌∙◌, subst, arith}
use Rattle.machine_defs.specs.Program.{IsPoint}
use Rattle.return_search.specs.Told.{exit_at}
use Rattle.return_search.specs.Shape.{points_of}
use Rattle.return_search.specs.Flagged.{AreFlagged}
use Rattle.return_search.specs.Search.{target_returns}
use Rattle.return_search.specs.Stays.{AreKept}
use Rattle.return_search.proofs.Least.{comes_back_is, edges_are, may_return_is}
use Rattle.return_search.proofs.found_returns.find_returns.Goals as goal

pub returns-clause-told : goal.returns-clause-told
returns-clause-told c p tells is =
    let flow = c.args.flow in
    let s = c.in_ok-found.field-0 in
    let found = c.in_ok-found.ensures in
    let targets = c.drop_edges.new.comes_back.items in
    let inside : (q : ℕ) → IsPoint p q → q < points_of flow = λ q point. omega (arith, point, tells.count) in
    let known : c.deref.result.now ≡ s.known.items = c.deref.ensures.value in
    let flagged : AreFlagged (λ q. target_returns s.known.items (exit_at flow q)) true targets (points_of flow) (points_of flow) =
    subst (λ (ks : List Bool). AreFlagged (λ q. target_returns ks (exit_at flow q)) true targets (points_of flow) (points_of flow)) known c.drop_edges.ensures.comes_back in
    let kept : AreKept flow (λ q. target_returns s.known.items (exit_at flow q)) c.drop_edges.new.flow.starts.items c.drop_edges.new.flow.edges.items (points_of flow) =
    subst (λ (ks : List Bool). AreKept flow (λ q. target_returns ks (exit_at flow q)) c.drop_edges.new.flow.starts.items c.drop_edges.new.flow.edges.items (points_of flow)) known c.drop_edges.ensures.kept in
    record {
      may_return = λ q point. may_return_is p flow tells c.requires is s.found.items s.known.items found.sound found.closed q point (omega (arith, inside q point, found.listed.long));
      comes_back = λ q point. comes_back_is p flow tells c.requires is s.found.items s.known.items found.sound found.closed targets q point (omega (arith, inside q point, flagged.long)) (flagged.told q false (inside q point));
      edges = λ q point. kept.each q (inside q point) ∙ edges_are p flow tells c.requires is s.found.items s.known.items found.sound found.closed q point;
    }
