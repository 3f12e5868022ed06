use Rattle.std.proofs.Common.{◌≡◌, Some, subst, sym}
use Rattle.symbols_relocs.specs.Functions.{function_at}
use Rattle.symbols_relocs.specs.Lists.{IsIndexOfSymbol}
use Rattle.command_base.proofs.HolderLemmas.{holder_is}
use Rattle.command_base.proofs.backtrace_holder.holder_of.Goals as goal

pub returns : goal.returns
returns c =
    let same : c.functions.result.now ≡ c.args.index.now.functions = c.functions.ensures.value in
    holder_is c.args.index.now.elf c.functions.result.now c.args.place c.in_ok-number.number c.saturating_sub.result c.functions.ensures.all
    (subst (λ fs. IsIndexOfSymbol fs (Some c.in_ok-number.number) (function_at c.args.index.now.elf c.args.place)) (sym same) c.in_ok-number.ensures) c.saturating_sub.ensures
