use Rattle.std.proofs.Common.{ℕ, ◌++◌, ◌∷◌, [], true, false, List, None, take, get_or, sym, ap, ◌∙◌}
use Rattle.std.proofs.lemmas.List.{take_all, take_more}
use Rattle.program_graph.specs.declared.parts.Owner.{Owner}
use Rattle.object_points.specs.declared.code_owners.CodeOwner.{CodeOwner}
use Rattle.object_points.specs.Owners.{fourfold, owner_by}
use Rattle.object_points.proofs.Fourfold.{none_fourfold, pushed_four}
use Rattle.object_points.proofs.owner_table.add_owners.Goals as goal

pub loop-k-init : goal.loop-k-init
loop-k-init c = none_fourfold c.args.is_loose c.args.owners.now.items

pub loop-k-preserved : goal.loop-k-preserved
loop-k-preserved c =
    let items : List CodeOwner = c.args.items.now in
    let before : List Owner = c.args.owners.now.items in
    let loose = c.args.is_loose in
    let i : ℕ = c.loop-k.k in
    let none : CodeOwner = record { function = None; owner = None; is_unchecked = false } in
    let item : CodeOwner = get_or items i none in
    let so_far : List Owner = before ++ fourfold loose (take i items) in
    c.in_ok-push-4.ensures.items
    ∙ ap (λ (os : List Owner). os ++ c.owner_in-in-loop-k-3.result ∷ []) (c.in_ok-push-3.ensures.items
    ∙ ap (λ (os : List Owner). os ++ c.owner_in-in-loop-k-2.result ∷ []) (c.in_ok-push-2.ensures.items
    ∙ ap (λ (os : List Owner). os ++ c.owner_in-in-loop-k.result ∷ []) (c.in_ok-push.ensures.items
    ∙ ap (λ (os : List Owner). os ++ c.owner_in.result ∷ []) c.loop-k.invariant)))
    ∙ ap (λ (x : Owner). (((so_far ++ x ∷ []) ++ c.owner_in-in-loop-k.result ∷ []) ++ c.owner_in-in-loop-k-2.result ∷ []) ++ c.owner_in-in-loop-k-3.result ∷ []) c.owner_in.ensures
    ∙ ap (λ (x : Owner). (((so_far ++ owner_by item loose false false ∷ []) ++ x ∷ []) ++ c.owner_in-in-loop-k-2.result ∷ []) ++ c.owner_in-in-loop-k-3.result ∷ []) c.owner_in-in-loop-k.ensures
    ∙ ap (λ (x : Owner). (((so_far ++ owner_by item loose false false ∷ []) ++ owner_by item loose false true ∷ []) ++ x ∷ []) ++ c.owner_in-in-loop-k-3.result ∷ []) c.owner_in-in-loop-k-2.ensures
    ∙ ap (λ (x : Owner). (((so_far ++ owner_by item loose false false ∷ []) ++ owner_by item loose false true ∷ []) ++ owner_by item loose true false ∷ []) ++ x ∷ []) c.owner_in-in-loop-k-3.ensures
    ∙ pushed_four before loose (take i items) item
    ∙ ap (λ (xs : List CodeOwner). before ++ fourfold loose xs) (sym (take_more items i none c.loop-k-test.true))

pub returns : goal.returns
returns c = c.loop-k.invariant ∙ ap (λ (xs : List CodeOwner). c.args.owners.now.items ++ fourfold c.args.is_loose xs) (take_all c.loop-k.k c.args.items.now c.loop-k-test.false)
