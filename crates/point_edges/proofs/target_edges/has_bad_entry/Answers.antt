use Rattle.std.proofs.Common.{◌≡◌, ap, ◌∙◌, List}
use Rattle.flow_defs.specs.Marks.{is_bad_listed}
use Rattle.ot_base.specs.declared.place.Place.{Place}
use Rattle.flow_defs.specs.Coded.{Coded}
use Rattle.machine_defs.specs.declared.flow.EdgeKind.TheVariants.{Taken, Fixup}
use Rattle.flow_defs.specs.Code.{point_at}
use Rattle.flow_defs.specs.Edges.{fixups, static_targets}
use Rattle.point_edges.proofs.Parts.{or_first, or_second}
use Rattle.point_edges.proofs.target_edges.has_bad_entry.Goals as goal

pub returns-then-is_bad_listed : goal.returns-then-is_bad_listed
returns-then-is_bad_listed c =
    let o : Coded = c.args.points.now in
    let targets : c.static_targets.result.now ≡ static_targets o (point_at o c.args.n) = c.static_targets.ensures ∙ ap (λ (e : Coded). static_targets e (point_at e c.args.n)) c.arrivals-arrivals.ensures in
    let first : c.is_bad_listed.result ≡ is_bad_listed o Taken (point_at o c.args.n) (static_targets o (point_at o c.args.n)) =
    c.is_bad_listed.ensures
    ∙ ap (λ (e : Coded). is_bad_listed e Taken (point_at e c.args.n) c.static_targets.result.now) c.places-places.ensures
    ∙ ap (λ (listed : List Place). is_bad_listed o Taken (point_at o c.args.n) listed) targets in
    or_first _ _ _ c.if-is_bad_listed.true first

pub returns-else-is_bad_listed : goal.returns-else-is_bad_listed
returns-else-is_bad_listed c =
    let o : Coded = c.args.points.now in
    let targets : c.static_targets.result.now ≡ static_targets o (point_at o c.args.n) = c.static_targets.ensures ∙ ap (λ (e : Coded). static_targets e (point_at e c.args.n)) c.arrivals-arrivals.ensures in
    let entries : c.fixups.result.now ≡ fixups o (point_at o c.args.n) = c.fixups.ensures ∙ ap (λ (e : Coded). fixups e (point_at e c.args.n)) c.arrivals-arrivals.ensures in
    let first : c.is_bad_listed.result ≡ is_bad_listed o Taken (point_at o c.args.n) (static_targets o (point_at o c.args.n)) =
    c.is_bad_listed.ensures
    ∙ ap (λ (e : Coded). is_bad_listed e Taken (point_at e c.args.n) c.static_targets.result.now) c.places-places.ensures
    ∙ ap (λ (listed : List Place). is_bad_listed o Taken (point_at o c.args.n) listed) targets in
    let second : c.is_bad_listed-else-is_bad_listed.result ≡ is_bad_listed o Fixup (point_at o c.args.n) (fixups o (point_at o c.args.n)) =
    c.is_bad_listed-else-is_bad_listed.ensures
    ∙ ap (λ (e : Coded). is_bad_listed e Fixup (point_at e c.args.n) c.fixups.result.now) c.places-places.ensures
    ∙ ap (λ (listed : List Place). is_bad_listed o Fixup (point_at o c.args.n) listed) entries in
    or_second _ _ _ _ c.if-is_bad_listed.false first second
