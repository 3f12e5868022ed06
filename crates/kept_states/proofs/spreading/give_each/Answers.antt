-- The edges of the point, then the RESTOREs that mean it.
use Rattle.std.proofs.Common.{◌≡◌, ℕ, ◌+◌, ◌<◌, inl, inr, List, Option, Some, length, take, get_or, ap, refl, sym, ◌∙◌, subst, arith}
use Rattle.std.specs.Prelude.{IfSome}
use Rattle.std.proofs.lemmas.List.{take_all}
use Rattle.machine_defs.specs.declared.flow.Edge.{Edge}
use Rattle.machine_defs.specs.declared.flow.EdgeKind.TheVariants.{Next}
use Rattle.state_defs.specs.declared.state.State.{State}
use Rattle.machine_defs.specs.Kept.{edges_of, moved_at}
use Rattle.kept_states.specs.Gives.{IsGiven}
use Rattle.kept_states.specs.LevelStates.{Offers, at}
use Rattle.kept_states.specs.Told.{AreLeast, Lasts, offer_all, given_along, given_to_restore}
use Rattle.kept_states.proofs.Giving.{WithEdges, WithRestores, no_edge, edge_more, no_restore, in_vain, restore_more, given_more}
use Rattle.kept_states.proofs.LevelSteps.{state_of_some}
use Rattle.kept_states.proofs.Rounds.{same_still}
use Rattle.kept_states.proofs.spreading.give_each.Goals as goal

pub loop-edge-init : goal.loop-edge-init
loop-edge-init c = record {
  kept = refl;
  front = refl;
  done = refl;
  same = (refl, refl, λ e. e);
  next = c.requires.next;
  given = λ p s t has. no_edge c.args.levels.now.kept p s (IsGiven p (at c.args.levels.now.kept) (take c.args.i c.args.levels.now.front)) c.args.levels.now.next (moved_at p c.front-a.result s) c.giving_edges-edge-items.result.now (c.requires.given p t);
}

pub loop-edge-preserved : goal.loop-edge-preserved
loop-edge-preserved c =
    let d : Edge = record { to = 0; kind = Next } in
    let items : List Edge = c.giving_edges-edge-items.result.now in
    let e : Edge = get_or items c.loop-edge.edge-index d in
    let kept : List (Option State) = c.args.levels.now.kept in
    let to : e.to < length c.args.graph.now.parts.points.items = c.giving_edges-edge-items.ensures.within c.loop-edge.edge-index d c.loop-edge-test.true in
    let long : length c.loop-edge.levels.next.states ≡ length kept = c.loop-edge.invariant.next in
    let inside : e.to < length c.loop-edge.levels.next.states = omega (arith, to, long, c.requires.points) in
    record {
      kept = c.give_along.ensures.kept ∙ c.loop-edge.invariant.kept;
      front = c.give_along.ensures.front ∙ c.loop-edge.invariant.front;
      done = c.give_along.ensures.done ∙ c.loop-edge.invariant.done;
      same = same_still c.args.levels.now c.loop-edge.levels c.give_along.new.levels c.loop-edge.invariant.same c.give_along.ensures.same;
      next = c.give_along.ensures.len ∙ long;
      given = λ p s t has.
          let gift : List State = given_along p s (moved_at p c.front-a.result s) e in
          let A : ℕ → State → Type 0 = IsGiven p (at kept) (take c.args.i c.args.levels.now.front) in
          let m : c.give_along.new.levels.next ≡ offer_all kept c.loop-edge.levels.next e.to gift =
          c.give_along.ensures.next p s t (ap (λ (k : List (Option State)). at k c.front-a.result) c.loop-edge.invariant.kept ∙ has) ∙ ap (λ (k : List (Option State)). offer_all k c.loop-edge.levels.next e.to gift) c.loop-edge.invariant.kept in
          subst (λ (n : Offers). AreLeast kept n (WithEdges A p s (moved_at p c.front-a.result s) (take (c.loop-edge.edge-index + 1) items))) (sym m)
          (edge_more kept p s A c.loop-edge.levels.next (moved_at p c.front-a.result s) items c.loop-edge.edge-index d e c.loop-edge-test.true refl inside (c.loop-edge.invariant.given p s t has));
    }

pub loop-restore-init : goal.loop-restore-init
loop-restore-init c = record {
  kept = c.loop-edge.invariant.kept;
  front = c.loop-edge.invariant.front;
  done = c.loop-edge.invariant.done;
  same = c.loop-edge.invariant.same;
  next = c.loop-edge.invariant.next;
  given = λ p s t has.
      let kept : List (Option State) = c.args.levels.now.kept in
      let items : List Edge = c.giving_edges-edge-items.result.now in
      let A : ℕ → State → Type 0 = IsGiven p (at kept) (take c.args.i c.args.levels.now.front) in
      let next : Offers = c.loop-edge.levels.next in
      let listed : AreLeast kept next (WithEdges A p s (moved_at p c.front-a.result s) items) =
      subst (λ (es : List Edge). AreLeast kept next (WithEdges A p s (moved_at p c.front-a.result s) es)) (take_all c.loop-edge.edge-index items c.loop-edge-test.false) (c.loop-edge.invariant.given p s t has) in
      let edges : AreLeast kept next (WithEdges A p s (moved_at p c.front-a.result s) (edges_of p c.front-a.result)) = elim (c.giving_edges-edge-items.ensures.edges p t (c.requires.done p t)) [
        | inl e ↦ subst (λ (es : List Edge). AreLeast kept next (WithEdges A p s (moved_at p c.front-a.result s) es)) e listed
        | inr r ↦ in_vain p c.args.levels.now next c.args.i c.front-a.result s (t.count ∙ sym c.requires.points) has r.1 c.loop-edge.invariant.same.1 c.loop-edge.invariant.same.2 (subst (λ (es : List Edge). AreLeast kept next (WithEdges A p s (moved_at p c.front-a.result s) es)) r.0 listed)
      ] in
      no_restore kept p s (WithEdges A p s (moved_at p c.front-a.result s) (edges_of p c.front-a.result)) c.loop-edge.levels.next c.restores_of-restore-items.result.now edges;
}

pub loop-restore-preserved : goal.loop-restore-preserved
loop-restore-preserved c =
    let items : List ℕ = c.restores_of-restore-items.result.now in
    let r : ℕ = get_or items c.loop-restore.restore-index 0 in
    let kept : List (Option State) = c.args.levels.now.kept in
    let to : r < length c.args.graph.now.parts.points.items = c.restores_of-restore-items.ensures.within c.loop-restore.restore-index 0 c.loop-restore-test.true in
    let long : length c.loop-restore.levels.next.states ≡ length kept = c.loop-restore.invariant.next in
    let inside : r < length c.loop-restore.levels.next.states = omega (arith, to, long, c.requires.points) in
    record {
      kept = c.give_to_restore.ensures.kept ∙ c.loop-restore.invariant.kept;
      front = c.give_to_restore.ensures.front ∙ c.loop-restore.invariant.front;
      done = c.give_to_restore.ensures.done ∙ c.loop-restore.invariant.done;
      same = same_still c.args.levels.now c.loop-restore.levels c.give_to_restore.new.levels c.loop-restore.invariant.same c.give_to_restore.ensures.same;
      next = c.give_to_restore.ensures.len ∙ long;
      given = λ p s t has.
          let gift : List State = given_to_restore p s r in
          let A : ℕ → State → Type 0 = WithEdges (IsGiven p (at kept) (take c.args.i c.args.levels.now.front)) p s (moved_at p c.front-a.result s) (edges_of p c.front-a.result) in
          let front : get_or c.loop-restore.levels.front c.args.i 0 ≡ c.front-a.result = ap (λ (f : List ℕ). get_or f c.args.i 0) c.loop-restore.invariant.front ∙ sym c.front-a.ensures.front in
          let here : at c.loop-restore.levels.kept (get_or c.loop-restore.levels.front c.args.i 0) ≡ Some s = ap (at c.loop-restore.levels.kept) front ∙ (ap (λ (k : List (Option State)). at k c.front-a.result) c.loop-restore.invariant.kept ∙ has) in
          let m : c.give_to_restore.new.levels.next ≡ offer_all kept c.loop-restore.levels.next r gift =
          c.give_to_restore.ensures.next p s t here ∙ ap (λ (k : List (Option State)). offer_all k c.loop-restore.levels.next r gift) c.loop-restore.invariant.kept in
          subst (λ (n : Offers). AreLeast kept n (WithRestores A p s (take (c.loop-restore.restore-index + 1) items))) (sym m)
          (restore_more kept p s A c.loop-restore.levels.next items c.loop-restore.restore-index r c.loop-restore-test.true refl inside (c.loop-restore.invariant.given p s t has));
    }

pub returns-clause-given : goal.returns-clause-given
returns-clause-given c p t =
    let items : List ℕ = c.restores_of-restore-items.result.now in
    let kept : List (Option State) = c.args.levels.now.kept in
    let front : List ℕ = c.args.levels.now.front in
    let next : Offers = c.loop-restore.levels.next in
    let w = state_of_some (at kept c.front-a.result) c.front-a.ensures.kept in
    let s : State = w.0 in
    let has : at kept c.front-a.result ≡ Some s = w.1 in
    let A : ℕ → State → Type 0 = WithEdges (IsGiven p (at kept) (take c.args.i front)) p s (moved_at p c.front-a.result s) (edges_of p c.front-a.result) in
    let all : AreLeast kept next (WithRestores A p s items) =
    subst (λ (rs : List ℕ). AreLeast kept next (WithRestores A p s rs)) (take_all c.loop-restore.restore-index items c.loop-restore-test.false) (c.loop-restore.invariant.given p s t has) in
    let more : AreLeast kept next (IsGiven p (at kept) (take (c.args.i + 1) front)) =
    given_more p kept front c.args.i c.front-a.result c.requires.inside c.front-a.ensures.front (t.count ∙ sym c.requires.points) next s items has (c.restores_of-restore-items.ensures.restores p t) all in
    subst (λ (k : List (Option State)). AreLeast k next (IsGiven p (at k) (take (c.args.i + 1) c.loop-restore.levels.front))) (sym c.loop-restore.invariant.kept)
    (subst (λ (f : List ℕ). AreLeast kept next (IsGiven p (at kept) (take (c.args.i + 1) f))) (sym c.loop-restore.invariant.front) more)

pub give_along-requires-clause-lasting : goal.give_along-requires-clause-lasting
give_along-requires-clause-lasting c p t =
    subst (λ (k : List (Option State)). IfSome c.lasting_slot-lasting.result (Lasts p k c.front-a.result)) (sym c.loop-edge.invariant.kept) (c.lasting_slot-lasting.ensures p (c.requires.told p t))
