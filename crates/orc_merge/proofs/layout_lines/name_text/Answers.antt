use Rattle.std.proofs.Common.{sym, ◌∙◌}
use Rattle.orc_merge.proofs.LayoutLemmas.{name_is_text}
use Rattle.orc_merge.proofs.layout_lines.name_text.Goals as goal

pub returns-in-Err : goal.returns-in-Err
returns-in-Err c = absurd (c.in-Err.ensures.cases.0 (name_is_text c.args.name.now (sym c.is_name.ensures ∙ c.if-not-is_name.false)))
