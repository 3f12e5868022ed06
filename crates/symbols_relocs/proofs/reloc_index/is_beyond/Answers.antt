use Rattle.std.proofs.Common.{◌≤◌, ◌+◌, arith}
use Rattle.std.proofs.lemmas.Bool.{leb-true}
use Rattle.symbols_relocs.proofs.Bounds.{behind, none, offset_at}
use Rattle.symbols_relocs.proofs.Runs.{none_at}
use Rattle.symbols_relocs.proofs.reloc_index.is_beyond.Goals as goal

pub returns : goal.returns
returns c = λ is i lower.
    let first : c.args.off + c.from.result ≤ offset_at c.args.relocs.now c.args.start none = leb-true _ _ is in
    none_at (c.args.off + i) c.args.relocs.now c.args.start
    (λ k d h. let low = c.requires.start.below k d h in omega (arith, low))
    (λ k d from inside. let order = behind c.args.relocs.now c.requires.sorted c.args.start k d from inside in omega (arith, first, order, lower, c.from.ensures))
