use Rattle.std.proofs.Common.{◌≡◌, ℕ, List, [], Option, if◌then◌else◌, sym, ap, ◌∙◌}
use Rattle.ot_base.specs.declared.place.Place.{Place}
use Rattle.flow_defs.specs.Coded.{Coded}
use Rattle.flow_defs.specs.Tables.{table_of}
use Rattle.alternatives.specs.declared.point.Point.{Point}
use Rattle.flow_defs.specs.Arrival.{is_padding}
use Rattle.flow_defs.specs.Code.{alternatives_of, point_at, texts_of}
use Rattle.flow_defs.specs.Owners.{owner_of_point}
use Rattle.flow_defs.specs.Roles.{table_of_point}
use Rattle.point_edges.proofs.flow_points.FlowPoints.table.Goals as goal

pub returns-then-is_padding : goal.returns-then-is_padding
unfolding table_of_point
returns-then-is_padding c =
    let o : Coded = c.args.self.now in
    let padding : c.is_padding.result ≡ is_padding o (point_at o c.args.n) = c.is_padding.ensures ∙ ap (λ (e : Coded). is_padding e (point_at e c.args.n)) c.places-places.ensures in
    sym (ap (λ b. if b then [] else table_of o.elf (texts_of o) (alternatives_of o) (point_at o c.args.n) (owner_of_point o (point_at o c.args.n))) (sym padding ∙ c.if-is_padding.true))

pub returns : goal.returns
unfolding table_of_point
returns c =
    let o : Coded = c.args.self.now in
    let point : c.point.result ≡ point_at o c.args.n = c.point.ensures ∙ ap (λ (e : Coded). point_at e c.args.n) c.places-places.ensures in
    let owner : c.owner.result ≡ owner_of_point o (point_at o c.args.n) = c.owner.ensures ∙ ap (λ (e : Coded). owner_of_point e (point_at e c.args.n)) c.places-places.ensures in
    let padding : c.is_padding.result ≡ is_padding o (point_at o c.args.n) = c.is_padding.ensures ∙ ap (λ (e : Coded). is_padding e (point_at e c.args.n)) c.places-places.ensures in
    let all : List Place = table_of o.elf (texts_of o) (alternatives_of o) (point_at o c.args.n) (owner_of_point o (point_at o c.args.n)) in
    c.of.ensures
    ∙ c.self.invariant.entries c.point.result c.owner.result
    ∙ ap (λ (e : Coded). table_of e.elf (texts_of e) (alternatives_of e) c.point.result c.owner.result) c.self.view_is
    ∙ ap (λ (p : Point). table_of o.elf (texts_of o) (alternatives_of o) p c.owner.result) point
    ∙ ap (λ (own : Option ℕ). table_of o.elf (texts_of o) (alternatives_of o) (point_at o c.args.n) own) owner
    ∙ sym (ap (λ b. if b then [] else all) (sym padding ∙ c.if-is_padding.false))
