use Rattle.std.proofs.Common.{refl, subst}
use Rattle.flow_defs.specs.Coded.{Coded}
use Rattle.point_edges.specs.Straight.{IsStraight}
use Rattle.control_flow.specs.declared.outgoing.Found.TheVariants.{Own}
use Rattle.return_search.specs.declared.searched_flow.Exit.TheVariants.{Passes}
use Rattle.control_flow.specs.declared.transfers.TheConstants.{USUAL}
use Rattle.control_flow.proofs.Gathered.{passed_more}
use Rattle.control_flow.proofs.Going.{kept_own}
use Rattle.control_flow.proofs.GoesOn.{no_dead_end, passes_calls_none, straight_exit, straight_transfer}
use Rattle.control_flow.proofs.Noted.{jumps_more}
use Rattle.control_flow.proofs.Numbering.{stays}
use Rattle.control_flow.proofs.outgoing.list_point.Goals as goal

pub push_below-requires-clause-straight : goal.push_below-requires-clause-straight
push_below-requires-clause-straight c = subst (λ (o : Coded). IsStraight o c.args.n) c.arrivals.ensures (c.is_straight.ensures.straight c.if-not-is_straight.false)

pub returns-clause-jumps : goal.returns-clause-jumps
returns-clause-jumps c = jumps_more c.args.points.now c.args.gathered.now.jumps c.args.n c.requires.jumps

pub returns-clause-dead_ends : goal.returns-clause-dead_ends
returns-clause-dead_ends c =
    let o : Coded = c.args.points.now in
    let n = c.args.n in
    let straight : IsStraight o n = subst (λ (e : Coded). IsStraight e n) c.arrivals.ensures (c.is_straight.ensures.straight c.if-not-is_straight.false) in
    passed_more o c.args.gathered.now.dead_ends.items n (no_dead_end o n straight) c.requires.point c.requires.dead_ends

pub returns-clause-gathered : goal.returns-clause-gathered
returns-clause-gathered c =
    let o : Coded = c.args.points.now in
    let n = c.args.n in
    let lists = c.args.lists.now in
    let transfers = c.args.gathered.now.transfers.items in
    let straight : IsStraight o n = subst (λ (e : Coded). IsStraight e n) c.arrivals.ensures (c.is_straight.ensures.straight c.if-not-is_straight.false) in
    record {
      found = Own Passes USUAL;
      listed = record { pushed = c.in_ok-push_below.ensures.pushed; inside = c.in_ok-push_below.ensures.inside; unlisted = refl };
      kept = rw c.passing.ensures (kept_own o lists transfers transfers n Passes USUAL 0
          (record { is = straight_exit o n straight lists; known = passes_calls_none o })
          (straight_transfer o n straight) (stays transfers transfers USUAL 0 refl c.requires.usual));
    }
