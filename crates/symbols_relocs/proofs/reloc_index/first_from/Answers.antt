use Rattle.std.proofs.Common.{sym, arith}
use Rattle.symbols_relocs.proofs.Runs.{first_none}
use Rattle.symbols_relocs.proofs.reloc_index.first_from.Goals as goal

pub returns-else-start-relocs : goal.returns-else-start-relocs
returns-else-start-relocs c = sym (first_none c.args.off c.args.relocs.now c.args.start c.requires.start.below (λ k d from inside. absurd (omega (arith, c.if-start-relocs.false, from, inside))))
