use Rattle.std.proofs.Common.{◌≡◌, ◌+◌, ℕ, List, sym, subst, ◌∙◌, arith}
use Rattle.flow_defs.specs.Coded.{Coded}
use Rattle.point_arrivals.specs.Kinds.{AreKinds}
use Rattle.point_arrivals.specs.Seen.{IsSeen}
use Rattle.point_arrivals.specs.declared.kind.Kind.{Kind}
use Rattle.point_arrivals.specs.declared.told.SeenPoint.{SeenPoint}
use Rattle.point_arrivals.proofs.KindOf.{one_more}
use Rattle.point_arrivals.proofs.kinds.list_before.Goals as goal

-- what is seen of the code of an object is seen of the object
seen_in : (e o : Coded) (n : ℕ) (x : SeenPoint) → e ≡ o → IsSeen e n x → IsSeen o n x
seen_in e o n x same seen = subst (λ (w : Coded). IsSeen w n x) same seen

pub loop-n-preserved : goal.loop-n-preserved
loop-n-preserved c =
    let o : Coded = c.args.lists.now in
    let n : ℕ = c.loop-n.n in (
      subst (λ (kinds : List Kind). AreKinds o kinds (n + 1)) (sym {A = List Kind} c.push_reserved.ensures.items)
          (one_more o c.loop-n.kinds.items n c.kind_of.result c.loop-n.invariant.0 c.kind_of.ensures),
      omega (arith, c.push_reserved.ensures.len, c.loop-n.invariant.1),
      c.push_reserved.ensures.capacity ∙ c.loop-n.invariant.2,
      seen_in c.linked-linked.result.now o (n + 1) c.see_point-next.result (c.linked-linked.ensures ∙ c.places.ensures) c.see_point-next.ensures,
    )
