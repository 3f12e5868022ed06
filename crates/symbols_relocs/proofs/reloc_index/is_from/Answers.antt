use Rattle.std.proofs.Common.{◌≤◌, arith}
use Rattle.std.proofs.lemmas.Bool.{leb-true}
use Rattle.symbols_relocs.proofs.Bounds.{behind, none, offset_at}
use Rattle.symbols_relocs.proofs.reloc_index.is_from.Goals as goal

pub returns-then-index-relocs-clause-above : goal.returns-then-index-relocs-clause-above
returns-then-index-relocs-clause-above c = λ is k d from inside. (
    let first : c.args.off ≤ offset_at c.args.relocs.now c.args.index none = leb-true _ _ is in
    let order = behind c.args.relocs.now c.requires c.args.index k d from inside in
    omega (arith, first, order))
