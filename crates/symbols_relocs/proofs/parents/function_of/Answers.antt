use Rattle.std.proofs.Common.{ap, sym, ◌∙◌}
use Rattle.symbols_relocs.specs.Functions.{starts_at}
use Rattle.symbols_relocs.proofs.Found.{no_index, starts_nowhere}
use Rattle.symbols_relocs.proofs.parents.function_of.Goals as goal

pub returns-in_err-index : goal.returns-in_err-index
returns-in_err-index c =
    rw c.from_residual.ensures (no_index c.args.functions.now _ (
    ap (starts_at c.args.object.now) (sym c.start_of.ensures)
    ∙ starts_nowhere c.args.object.now c.args.functions.now c.requires.all c.start_of.result c.in_err-index.ensures))
