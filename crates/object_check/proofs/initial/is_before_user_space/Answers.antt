use Rattle.std.proofs.Common.{◌&&◌, sym, ap, ◌∙◌}
use Rattle.alternatives.specs.declared.point.Point.{Point}
use Rattle.flow_defs.specs.Coded.{Coded}
use Rattle.flow_defs.specs.Code.{point_at}
use Rattle.object_check.specs.Allowances.{is_before_user_space, is_init_text}
use Rattle.object_check.proofs.InitTexts.{listed}
use Rattle.object_check.proofs.initial.is_before_user_space.Goals as goal

pub returns-then-not-options : goal.returns-then-not-options
unfolding is_before_user_space
returns-then-not-options c =
    let o : Coded = c.args.places.now in
    c.is_listed.ensures
    ∙ listed o.elf c.args.init_texts.now c.point.result.place.sec c.requires.init_texts
    ∙ ap (λ (p : Point). is_init_text o.elf p.place.sec) c.point.ensures
    ∙ ap (λ b. b && is_init_text o.elf (point_at o c.args.n).place.sec) (sym c.if-not-options.true)

pub returns-else-not-options : goal.returns-else-not-options
unfolding is_before_user_space
returns-else-not-options c =
    let o : Coded = c.args.places.now in
    c.if-not-options.false ∙ ap (λ b. b && is_init_text o.elf (point_at o c.args.n).place.sec) (sym c.if-not-options.false)
