use Rattle.std.proofs.Common.{◌≡◌, ◌≤◌, sym, arith}
use Rattle.symbols_relocs.proofs.Bounds.{behind, none, offset_at}
use Rattle.symbols_relocs.proofs.Runs.{first_here, first_none}
use Rattle.symbols_relocs.proofs.reloc_index.first_at.Goals as goal

pub returns-then-relocs-start : goal.returns-then-relocs-start
returns-then-relocs-start c =
    sym (first_here c.args.off c.args.relocs.now c.args.start none c.requires.inside c.requires.start.below c.if-relocs-start.true)

pub returns-else-relocs-start : goal.returns-else-relocs-start
returns-else-relocs-start c = sym (first_none c.args.off c.args.relocs.now c.args.start c.requires.start.below (λ k d from inside.
    let first : c.args.off ≤ offset_at c.args.relocs.now c.args.start none = c.requires.start.above c.args.start none (omega arith) c.requires.inside in
    let other : offset_at c.args.relocs.now c.args.start none ≡ c.args.off → ⊥ = c.if-relocs-start.false in
    let order = behind c.args.relocs.now c.requires.sorted c.args.start k d from inside in
    omega (arith, first, other, order)))
