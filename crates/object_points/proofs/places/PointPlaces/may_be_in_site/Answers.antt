use Rattle.std.proofs.Common.{◌≡◌, ℕ, false, List, length, sym, ap, ◌∙◌}
use Rattle.flow_defs.specs.Coded.{Coded}
use Rattle.flow_defs.specs.Sites.{site_holding}
use Rattle.object_points.specs.Marks.{is_marked}
use Rattle.object_points.specs.SiteBlocks.{block_of}
use Rattle.object_points.proofs.places.PointPlaces.may_be_in_site.Goals as goal

pub returns : goal.returns
returns c = λ no.
    let marks : List ℕ = c.self.inside.site_marks.items in
    let unset : is_marked (length marks) marks (block_of c.args.place) ≡ false = sym (ap (λ (list : List ℕ). is_marked (length list) list (block_of c.args.place)) c.deref.ensures.value) ∙ sym c.may_hold.ensures ∙ no in
    sym (ap (λ (o : Coded). site_holding o c.args.place) c.self.view_is) ∙ c.self.invariant.unmarked c.args.place unset
