use Rattle.std.proofs.Common.{◌≡◌, ap, ◌∙◌, List}
use Rattle.std.specs.List.{list_any}
use Rattle.flow_defs.specs.Marks.{listed_places}
use Rattle.flow_defs.specs.Sites.{is_into_site}
use Rattle.ot_base.specs.declared.place.Place.{Place}
use Rattle.flow_defs.specs.Coded.{Coded}
use Rattle.machine_defs.specs.declared.flow.EdgeKind.TheVariants.{Taken, Fixup}
use Rattle.flow_defs.specs.Code.{point_at}
use Rattle.flow_defs.specs.Edges.{fixups, static_targets}
use Rattle.point_edges.proofs.Parts.{or_first, or_second}
use Rattle.point_edges.proofs.target_edges.has_entry_in_site.Goals as goal

pub returns-then-listed_enter : goal.returns-then-listed_enter
returns-then-listed_enter c =
    let o : Coded = c.args.points.now in
    let targets : c.static_targets.result.now ≡ static_targets o (point_at o c.args.n) = c.static_targets.ensures ∙ ap (λ (e : Coded). static_targets e (point_at e c.args.n)) c.arrivals-arrivals.ensures in
    let first : c.listed_enter.result ≡ list_any (is_into_site o (point_at o c.args.n)) (listed_places o Taken (point_at o c.args.n) (static_targets o (point_at o c.args.n))) =
    c.listed_enter.ensures
    ∙ ap (λ (e : Coded). list_any (is_into_site e (point_at e c.args.n)) (listed_places e Taken (point_at e c.args.n) c.static_targets.result.now)) c.places-places.ensures
    ∙ ap (λ (listed : List Place). list_any (is_into_site o (point_at o c.args.n)) (listed_places o Taken (point_at o c.args.n) listed)) targets in
    or_first _ _ _ c.if-listed_enter.true first

pub returns-else-listed_enter : goal.returns-else-listed_enter
returns-else-listed_enter c =
    let o : Coded = c.args.points.now in
    let targets : c.static_targets.result.now ≡ static_targets o (point_at o c.args.n) = c.static_targets.ensures ∙ ap (λ (e : Coded). static_targets e (point_at e c.args.n)) c.arrivals-arrivals.ensures in
    let entries : c.fixups.result.now ≡ fixups o (point_at o c.args.n) = c.fixups.ensures ∙ ap (λ (e : Coded). fixups e (point_at e c.args.n)) c.arrivals-arrivals.ensures in
    let first : c.listed_enter.result ≡ list_any (is_into_site o (point_at o c.args.n)) (listed_places o Taken (point_at o c.args.n) (static_targets o (point_at o c.args.n))) =
    c.listed_enter.ensures
    ∙ ap (λ (e : Coded). list_any (is_into_site e (point_at e c.args.n)) (listed_places e Taken (point_at e c.args.n) c.static_targets.result.now)) c.places-places.ensures
    ∙ ap (λ (listed : List Place). list_any (is_into_site o (point_at o c.args.n)) (listed_places o Taken (point_at o c.args.n) listed)) targets in
    let second : c.listed_enter-else-listed_enter.result ≡ list_any (is_into_site o (point_at o c.args.n)) (listed_places o Fixup (point_at o c.args.n) (fixups o (point_at o c.args.n))) =
    c.listed_enter-else-listed_enter.ensures
    ∙ ap (λ (e : Coded). list_any (is_into_site e (point_at e c.args.n)) (listed_places e Fixup (point_at e c.args.n) c.fixups.result.now)) c.places-places.ensures
    ∙ ap (λ (listed : List Place). list_any (is_into_site o (point_at o c.args.n)) (listed_places o Fixup (point_at o c.args.n) listed)) entries in
    or_second _ _ _ _ c.if-listed_enter.false first second
