use Rattle.std.proofs.Common.{◌<◌, arith}
use Rattle.std.proofs.lemmas.Bool.{ltb-true}
use Rattle.symbols_relocs.proofs.Bounds.{behind, none, offset_at}
use Rattle.symbols_relocs.proofs.reloc_index.are_above.Goals as goal

pub returns-else-from-relocs-clause-yes : goal.returns-else-from-relocs-clause-yes
returns-else-from-relocs-clause-yes c = λ is k d from inside. (
    let first : c.args.off < offset_at c.args.relocs.now c.args.from none = ltb-true _ _ is in
    let order = behind c.args.relocs.now c.requires.sorted c.args.from k d from inside in
    omega (arith, first, order))
