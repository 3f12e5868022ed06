use Rattle.std.proofs.Common.{◌-◌, Some, min, ap, sym, ◌∙◌}
use Rattle.symbols_relocs.proofs.Stems.{digits_of_name, stem_is}
use Rattle.symbols_relocs.proofs.part.stem_end.Goals as goal

pub part_name-requires : goal.part_name-requires
part_name-requires c =
    c.min.ensures
    ∙ ap (λ n. min n (c.args.end - c.args.start)) c.digits_before-digits.ensures.value
    ∙ sym (digits_of_name c.args.table.now c.args.start c.args.end c.requires.order c.requires.inside)

pub returns-clause-stem : goal.returns-clause-stem
returns-clause-stem c = ap Some (stem_is c.args.table.now c.args.start c.args.end c.requires.order c.requires.inside c.in_ok-stem.stem.now c.in_ok-stem.ensures) ∙ c.in_ok-stem.ensures
