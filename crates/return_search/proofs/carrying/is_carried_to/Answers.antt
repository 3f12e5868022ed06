-- The edges of the point, one by one.
use Rattle.std.proofs.Common.{◌≡◌, ◌<◌, ◌+◌, ◌⊎◌, inl, inr, ℕ, true, false, List, Bool, length, sym, ap, ◌∙◌, subst, arith}
use Rattle.std.proofs.lemmas.List.{get_or_read}
use Rattle.machine_defs.specs.declared.flow.Edge.{Edge}
use Rattle.machine_defs.specs.declared.flow.EdgeKind.TheVariants.{Next}
use Rattle.machine_defs.specs.Program.{edge}
use Rattle.return_search.specs.declared.searched_flow.Flow.{Flow}
use Rattle.return_search.specs.Shape.{HasShape, points_of}
use Rattle.return_search.specs.Backward.{IsEdgeOf, edge_at}
use Rattle.return_search.specs.Search.{carries, is_set}
use Rattle.return_search.proofs.Ranges.{ends_within}
use Rattle.return_search.proofs.carrying.is_carried_to.Goals as goal
use Rattle.return_search.proofs.carrying.is_carried_to.Goals.{else-index-via-then-index+else-carries, else-index-via-else-index}

-- where an edge leads, as it is read
leads_in : (flow : Flow) → HasShape flow → (i : ℕ) (e : Edge) → i < length flow.edges.items → e ≡ edge_at flow i → e.to < points_of flow
leads_in flow shape i e inside read = subst (λ (f : Edge). f.to < points_of flow) (sym read) (shape.targets i (edge 0 Next) inside)

pub index-edge-requires : goal.index-edge-requires
index-edge-requires c = omega (arith, ends_within c.args.flow.now c.requires.shape c.args.q c.requires.point)

pub index-requires : goal.index-requires
index-requires c =
    let flow = c.args.flow.now in
    let i = c.loop-i.i in
    let inside : i < length flow.edges.items = omega (arith, ends_within flow c.requires.shape c.args.q c.requires.point) in
    let read = get_or_read flow.edges.items i (c.index-edge.result).now inside c.index-edge.ensures (edge 0 Next) in
    omega (arith, leads_in flow c.requires.shape i (c.index-edge.result).now inside read, c.requires.listed.long)

pub returns-then-carries-clause-carried : goal.returns-then-carries-clause-carried
returns-then-carries-clause-carried c _ =
    let flow = c.args.flow.now in
    let i = c.loop-i.i in
    let e = (c.index-edge.result).now in
    let found = c.args.search.now.found.items in
    let inside : i < length flow.edges.items = omega (arith, ends_within flow c.requires.shape c.args.q c.requires.point) in
    let read : e ≡ edge_at flow i = get_or_read flow.edges.items i e inside c.index-edge.ensures (edge 0 Next) in
    let leads : e.to < length found = omega (arith, leads_in flow c.requires.shape i e inside read, c.requires.listed.long) in
    let of : IsEdgeOf flow c.args.q i = record { point = c.requires.point; from = omega arith; to = omega arith } in
    let is : is_set found e.to ≡ true = sym (get_or_read found e.to (c.index.result).now leads c.index.ensures false) ∙ c.if-index.true in
    let told : c.carries.result ≡ carries flow c.args.search.now.known.items c.args.q e.kind = c.carries.ensures ∙ ap (λ (known : List Bool). carries flow known c.args.q e.kind) c.deref.ensures.value in
    (i, of, subst (λ (f : Edge). is_set found f.to ≡ true) read is, subst (λ (f : Edge). carries flow c.args.search.now.known.items c.args.q f.kind ≡ true) read (sym told ∙ c.if-carries.true))

split_last : (j n : ℕ) → j < n + 1 → (j < n) ⊎ (j ≡ n)
split_last j n h = grind arith

pub loop-i-preserved : goal.loop-i-preserved
loop-i-preserved c j of l h k =
    let flow = c.args.flow.now in
    let i = c.loop-i.i in
    let e = (c.index-edge.result).now in
    let found = c.args.search.now.found.items in
    let inside : i < length flow.edges.items = omega (arith, ends_within flow c.requires.shape c.args.q c.requires.point) in
    let read : e ≡ edge_at flow i = get_or_read flow.edges.items i e inside c.index-edge.ensures (edge 0 Next) in
    let leads : e.to < length found = omega (arith, leads_in flow c.requires.shape i e inside read, c.requires.listed.long) in
    elim (split_last j i l) [
      | inl less ↦ c.loop-i.invariant j of less h k
      | inr same ↦
          let h_e : is_set found e.to ≡ true = subst (λ (f : Edge). is_set found f.to ≡ true) (sym read) (subst (λ (n : ℕ). is_set found (edge_at flow n).to ≡ true) same h) in
          let k_e : carries flow c.args.search.now.known.items c.args.q e.kind ≡ true = subst (λ (f : Edge). carries flow c.args.search.now.known.items c.args.q f.kind ≡ true) (sym read) (subst (λ (n : ℕ). carries flow c.args.search.now.known.items c.args.q (edge_at flow n).kind ≡ true) same k) in
          elim c.else-index.branch [
            | else-index-via-then-index+else-carries w ↦
                let told : w.carries.result ≡ carries flow c.args.search.now.known.items c.args.q e.kind = w.carries.ensures ∙ ap (λ (known : List Bool). carries flow known c.args.q e.kind) w.deref.ensures.value in
                let no : w.carries.result ≡ false = w.if-carries.false in
                cc
            | else-index-via-else-index w ↦
                let is : (c.index.result).now ≡ is_set found e.to = get_or_read found e.to (c.index.result).now leads c.index.ensures false in
                let no : (c.index.result).now ≡ false = w.if-index.false in
                cc
          ]
    ]
