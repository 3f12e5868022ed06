-- What may be rare of a point is there, and tells what the point has.
use Rattle.std.proofs.Common.{◌≡◌, ◌<◌, ℕ, Option, Some, None, length, arith, refl, slice_get}
use Rattle.std.specs.Prelude.{IfSome}
use Rattle.std.proofs.lemmas.Option.{slice_get_read}
use Rattle.program_graph.specs.declared.parts.PointKind.{PointKind}
use Rattle.program_graph.proofs.graph.Graph.rare.Goals as goal

pub returns-clause-told : goal.returns-clause-told
returns-clause-told c p t =
    let k : PointKind = c.kind.result.now in
    let all = c.args.self.now.parts.rares.items in
    let inside = c.args.self.now.shape.rares c.args.n k c.kind.ensures.own in
    let at : slice_get all k.rare ≡ Some c.index.result.now = slice_get_read all (length all) k.rare c.index.result.now refl inside c.index.ensures in
    (c.kind.ensures.told p t).rare c.index.result.now at

if_some : (found : Option ℕ) (P : ℕ → Type 0) → ((k : ℕ) → found ≡ Some k → P k) → IfSome found P
if_some None P each = tt
if_some (Some k) P each = each k refl

pub returns-clause-known : goal.returns-clause-known
returns-clause-known c =
    let k : PointKind = c.kind.result.now in
    let all = c.args.self.now.parts.rares.items in
    let inside = c.args.self.now.shape.rares c.args.n k c.kind.ensures.own in
    let at : slice_get all k.rare ≡ Some c.index.result.now = slice_get_read all (length all) k.rare c.index.result.now refl inside c.index.ensures in
    if_some c.index.result.now.hinted (λ h. h < length c.args.self.now.parts.hinted.items) (λ h is. c.args.self.now.shape.hinted c.args.n h k c.index.result.now c.kind.ensures.own at is)

pub index-requires : goal.index-requires
index-requires c = let inside = c.args.self.now.shape.rares c.args.n c.kind.result.now c.kind.ensures.own in omega (arith, inside, c.args.self.now.parts.rares.ok)
