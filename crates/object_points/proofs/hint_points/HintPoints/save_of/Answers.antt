use Rattle.std.proofs.Common.{◌≡◌, sym, ap, ◌∙◌}
use Rattle.flow_defs.specs.Coded.{Coded}
use Rattle.flow_defs.specs.Code.{point_at}
use Rattle.flow_defs.specs.Hints.{is_restore}
use Rattle.object_points.specs.HintedCode.{HintedCode}
use Rattle.object_points.specs.Meanings.{nearest_save}
use Rattle.object_points.proofs.Meant.{other_means, restore_means}
use Rattle.object_points.proofs.hint_points.HintPoints.save_of.Goals as goal

pub returns-then-is_restore : goal.returns-then-is_restore
returns-then-is_restore c =
    let o : Coded = c.args.self.now.object in
    let object : c.self.inside.places.now ≡ o = ap (λ (h : HintedCode). h.object) c.self.view_is in
    c.nearest_save.ensures
    ∙ ap (λ (e : Coded). nearest_save e (point_at e c.args.n)) object
    ∙ sym (restore_means o (point_at o c.args.n) (sym (c.is_restore.ensures ∙ ap is_restore c.hint.ensures) ∙ c.if-is_restore.true))

pub returns-else-is_restore : goal.returns-else-is_restore
returns-else-is_restore c =
    let o : Coded = c.args.self.now.object in
    sym (other_means o (point_at o c.args.n) (sym (c.is_restore.ensures ∙ ap is_restore c.hint.ensures) ∙ c.if-is_restore.false))
