use Rattle.std.proofs.Common.{sym, arith}
use Rattle.symbols_relocs.proofs.NamePlaces.{table_known}
use Rattle.symbols_relocs.proofs.strings.strings.Goals as goal

pub returns-then-table-sections-clause-value : goal.returns-then-table-sections-clause-value
returns-then-table-sections-clause-value c =
    let low = table_known _ c.args.object.now c.sections.ensures.object c.in-Some.table (sym c.in-Some.ensures) in
    absurd (omega (arith, low, c.sections.ensures.value, c.if-table-sections.true))
