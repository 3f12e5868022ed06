use Rattle.std.proofs.Common.{map, ap, arith, ◌∙◌}
use Rattle.std.proofs.lemmas.List.{take_all}
use Rattle.special_sections.specs.Nested.{nested, with_longest}
use Rattle.special_sections.proofs.nested.nest.Goals as goal

pub returns-clause-ok : goal.returns-clause-ok
unfolding nested
returns-clause-ok c =
    c.loop-entry.invariant ∙ ap (map (with_longest c.args.entries.now)) (take_all c.loop-entry.entry-index c.args.entries.now (omega (arith, c.loop-entry-test.false)))
