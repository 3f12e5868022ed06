use Rattle.std.proofs.Common.{◌≡◌, ◌<◌, ℕ, Option, Some, None, refl, sym, ap, ◌∙◌, subst, arith}
use Rattle.std.specs.Prelude.{unwrap_or}
use Rattle.std.proofs.lemmas.List.{get_or_read}
use Rattle.return_search.specs.declared.searched_flow.Flow.{Flow}
use Rattle.return_search.specs.Told.{callee_at, entered_at}
use Rattle.return_search.specs.Shape.{HasShape, points_of}
use Rattle.return_search.proofs.searched_flow.Flow.callee.Goals as goal

pub index-requires : goal.index-requires
index-requires c = omega (arith, c.requires.point, c.requires.shape.entered)

-- it is a point
inside : (flow : Flow) (shape : HasShape flow) (q : ℕ) (found : Option ℕ) → entered_at flow q ≡ found → q < points_of flow → unwrap_or found q < points_of flow
inside flow shape q None is point = point
inside flow shape q (Some entry) is point = shape.entries q entry is

pub returns : goal.returns
returns c =
    let flow = c.args.self.now in
    let q = c.args.q in
    let read : c.entry.result ≡ entered_at flow q = c.entry.ensures ∙ get_or_read flow.entered.items q (c.index.result).now (omega (arith, c.requires.point, c.requires.shape.entered)) c.index.ensures None in
    let is : c.unwrap_or.result ≡ callee_at flow q = c.unwrap_or.ensures ∙ ap (λ (o : Option ℕ). unwrap_or o q) read in
    record { is = is; inside = subst (λ (n : ℕ). n < points_of flow) (sym is) (inside flow c.requires.shape q (entered_at flow q) refl c.requires.point) }
