use Rattle.std.proofs.Common.{eqb, length, sym, ap, ◌∙◌}
use Rattle.orc_walk.proofs.LineLemmas.{last_part}
use Rattle.orc_walk.proofs.lines.ends_empty.Goals as goal

pub returns-in-Some : goal.returns-in-Some
returns-in-Some c =
    c.is_empty.ensures
    ∙ ap (λ part. eqb (length part) 0) (sym (last_part (λ part. part.now) c.args.parts.now c.in-Some.last.now (sym c.in-Some.ensures.value)))
