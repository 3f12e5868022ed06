use Rattle.std.proofs.Common.{◌-◌, length, map, take, sym, ap, ◌∙◌}
use Rattle.orc_walk.specs.Lines.{lines, ends_empty}
use Rattle.orc_walk.proofs.LineLemmas.{shorter, as_long}
use Rattle.orc_walk.proofs.lines.lines_of.Goals as goal
use Rattle.orc_walk.proofs.lines.lines_of.Goals.{then-ends_empty, else-ends_empty}

pub returns : goal.returns
unfolding lines
returns c =
    let same = ap (λ parts. ends_empty (map (λ part. part.now) parts)) c.deref.ensures.value in
    let long = sym c.deref.ensures.len ∙ ap length c.deref.ensures.value in
    elim c.if-ends_empty.branch [
      | then-ends_empty w ↦ shorter (λ line. line.now) c.in_ok-lines.lines.items c.if-ends_empty.lines.items _ c.in_ok-lines.ensures (sym same ∙ sym c.ends_empty.ensures ∙ w.if-ends_empty.true) (ap (λ v. v.items) w.lines-is ∙ w.pop.ensures.rest ∙ ap (λ n. take (n - 1) c.in_ok-lines.lines.items) long)
      | else-ends_empty w ↦ ap (λ v. map (λ line. line.now) v.items) w.lines-is ∙ as_long (λ line. line.now) c.in_ok-lines.lines.items _ c.in_ok-lines.ensures (sym same ∙ sym c.ends_empty.ensures ∙ w.if-ends_empty.false)
    ]
