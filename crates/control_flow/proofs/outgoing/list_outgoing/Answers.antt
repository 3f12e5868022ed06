use Rattle.std.proofs.Common.{◌≡◌, ◌+◌, ◌^◌, ◌<◌, ◌++◌, ◌∷◌, [], ℕ, List, Some, length, false, refl, sym, ap, subst, ◌∙◌, arith}
use Rattle.std.specs.Prelude.{slice_get}
use Rattle.flow_defs.specs.Coded.{Coded}
use Rattle.flow_defs.specs.Arrival.{is_dead_end}
use Rattle.flow_defs.specs.Code.{point_at}
use Rattle.machine_defs.specs.declared.flow.Edge.{Edge}
use Rattle.program_graph.specs.declared.parts.Transfer.{Transfer}
use Rattle.return_search.specs.declared.searched_flow.Exit.{Exit}
use Rattle.return_search.specs.Flagged.{AreFlagged}
use Rattle.control_flow.specs.declared.outgoing.Gathered.{Gathered}
use Rattle.control_flow.specs.Listed.{AreEdges, count_of}
use Rattle.control_flow.specs.declared.transfers.TheConstants.{USUAL}
use Rattle.control_flow.proofs.Going.{AreOutgoing, none_outgoing, outgoing_more}
use Rattle.control_flow.proofs.outgoing.list_outgoing.Goals as goal

pub loop-n-init : goal.loop-n-init
loop-n-init c =
    let o : Coded = c.args.points.now in
    let lists = c.args.lists.now in
    let none : Gathered = c.in_ok-gathered.gathered in
    let starts : c.push_reserved.new.self.items ≡ 0 ∷ [] = c.push_reserved.ensures.items ∙ ap (λ (ns : List ℕ). ns ++ 0 ∷ []) c.in_ok-starts.ensures.items in (
      subst (λ (ss : List ℕ). AreOutgoing o lists ss none.edges.items none.jumps c.in_ok-exits.exits.items none.transfers.items c.in_ok-numbers.numbers.items 0) (sym starts)
          (subst (λ (es : List Edge). AreOutgoing o lists (0 ∷ []) es none.jumps c.in_ok-exits.exits.items none.transfers.items c.in_ok-numbers.numbers.items 0) (sym c.in_ok-gathered.ensures.edges)
          (subst (λ (xs : List Exit). AreOutgoing o lists (0 ∷ []) [] none.jumps xs none.transfers.items c.in_ok-numbers.numbers.items 0) (sym c.in_ok-exits.ensures.items)
          (subst (λ (ts : List Transfer). AreOutgoing o lists (0 ∷ []) [] none.jumps [] ts c.in_ok-numbers.numbers.items 0) (sym c.in_ok-gathered.ensures.transfers)
          (subst (λ (ns : List ℕ). AreOutgoing o lists (0 ∷ []) [] none.jumps [] (USUAL ∷ []) ns 0) (sym c.in_ok-numbers.ensures.items)
          (none_outgoing o lists USUAL none.jumps c.in_ok-gathered.ensures.alike (c.in_ok-gathered.ensures.jumps o)))))),
      subst (λ (ts : List Transfer). slice_get ts 0 ≡ Some USUAL) (sym c.in_ok-gathered.ensures.transfers) refl,
      c.in_ok-gathered.ensures.names o.elf lists,
      omega (arith, c.push_reserved.ensures.len, c.in_ok-starts.ensures.len),
      c.push_reserved.ensures.capacity ∙ c.in_ok-starts.ensures.exact,
      c.in_ok-exits.ensures.len,
      c.in_ok-exits.ensures.exact,
      c.in_ok-numbers.ensures.len,
      c.in_ok-numbers.ensures.exact,
      subst (λ (count : ℕ). AreFlagged (λ (q : ℕ). is_dead_end o (point_at o q)) false none.dead_ends.items count 0) (c.count_points-count.ensures ∙ ap count_of c.places.ensures) (c.in_ok-gathered.ensures.dead_ends (λ (q : ℕ). is_dead_end o (point_at o q))),
    )

pub loop-n-preserved : goal.loop-n-preserved
loop-n-preserved c =
    let o : Coded = c.args.points.now in
    let lists = c.args.lists.now in
    let n : ℕ = c.loop-n.n in
    let kept = c.in_ok-kept.kept in
    let before : Gathered = c.loop-n.gathered in
    let grown : Gathered = c.list_point.new.gathered in
    let after : List Edge = grown.edges.items in
    let listed = c.in_ok-kept.ensures.gathered in
    let few : length after < 2 ^ 32 = omega arith in
    let here : n < count_of o = omega (arith, c.loop-n-test.true, c.count_points-count.ensures, ap count_of c.places.ensures) in
    let len : c.len-in-loop-n.result ≡ length after = omega arith in
    let starts : c.push_reserved-in-loop-n.new.self.items ≡ c.loop-n.starts.items ++ length after ∷ [] = c.push_reserved-in-loop-n.ensures.items ∙ ap (λ (k : ℕ). c.loop-n.starts.items ++ k ∷ []) len in (
      subst (λ (ss : List ℕ). AreOutgoing o lists ss after grown.jumps c.push_reserved-in-loop-n-2.new.self.items grown.transfers.items c.push_reserved-in-loop-n-3.new.self.items (n + 1)) (sym starts)
          (subst (λ (xs : List Exit). AreOutgoing o lists (c.loop-n.starts.items ++ length after ∷ []) after grown.jumps xs grown.transfers.items c.push_reserved-in-loop-n-3.new.self.items (n + 1)) (sym c.push_reserved-in-loop-n-2.ensures.items)
          (subst (λ (ns : List ℕ). AreOutgoing o lists (c.loop-n.starts.items ++ length after ∷ []) after grown.jumps (c.loop-n.exits.items ++ kept.exit ∷ []) grown.transfers.items ns (n + 1)) (sym c.push_reserved-in-loop-n-3.ensures.items)
          (outgoing_more o lists c.loop-n.starts.items before.edges.items after before.jumps grown.jumps c.loop-n.exits.items before.transfers.items grown.transfers.items c.loop-n.numbers.items n listed.found kept.exit kept.number
          c.loop-n.invariant.0 here few listed.listed c.in_ok-kept.ensures.jumps listed.kept))),
      listed.kept.is_numbered.kept 0 USUAL c.loop-n.invariant.1,
      c.in_ok-kept.ensures.names,
      omega (arith, c.push_reserved-in-loop-n.ensures.len, c.loop-n.invariant.3),
      c.push_reserved-in-loop-n.ensures.capacity ∙ c.loop-n.invariant.4,
      omega (arith, c.push_reserved-in-loop-n-2.ensures.len, c.loop-n.invariant.5),
      c.push_reserved-in-loop-n-2.ensures.capacity ∙ c.loop-n.invariant.6,
      omega (arith, c.push_reserved-in-loop-n-3.ensures.len, c.loop-n.invariant.7),
      c.push_reserved-in-loop-n-3.ensures.capacity ∙ c.loop-n.invariant.8,
      c.in_ok-kept.ensures.dead_ends,
    )

pub returns-clause-edges : goal.returns-clause-edges
returns-clause-edges c =
    let o : Coded = c.args.points.now in
    let all : c.loop-n.n ≡ count_of o = omega (arith, c.loop-n-test.false, c.loop-n.auto.n-end, c.count_points-count.ensures, ap count_of c.places.ensures) in
    subst (AreEdges o c.loop-n.starts.items c.loop-n.gathered.edges.items c.loop-n.gathered.jumps.alike.items) all c.loop-n.invariant.0.are_edges
