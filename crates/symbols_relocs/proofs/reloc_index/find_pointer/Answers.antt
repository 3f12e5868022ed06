use Rattle.std.proofs.Common.{pos}
use Rattle.elf_objects.specs.declared.symbol.Reloc.{Reloc}
use Rattle.symbols_relocs.specs.Relocs.{is_pointer_kind}
use Rattle.symbols_relocs.proofs.Finding.{found, found_none}
use Rattle.symbols_relocs.proofs.reloc_index.find_pointer.Goals as goal

none : Reloc
none = record { offset = 0; kind = 0; sym = 0; addend = pos 0 }

pub returns-then-is_pointer : goal.returns-then-is_pointer
unfolding none
returns-then-is_pointer c =
    found (λ (r : Reloc). is_pointer_kind r.kind) c.args.relocs.now c.loop-reloc.reloc-index none c.loop-reloc-test.true c.loop-reloc.invariant c.if-is_pointer.ensures

pub loop-reloc-preserved : goal.loop-reloc-preserved
unfolding none
loop-reloc-preserved c =
    found_none (λ (r : Reloc). is_pointer_kind r.kind) c.args.relocs.now c.loop-reloc.reloc-index none c.loop-reloc-test.true c.loop-reloc.invariant c.if-is_pointer.ensures
