use Rattle.std.proofs.Common.{◌≡◌, find, None, take}
use Rattle.symbols_relocs.specs.Relocs.{is_pointer_kind}
use Rattle.symbols_relocs.proofs.reloc_index.find_pointer.Given as goal

abbrev pub invariant-loop-reloc : goal.invariant-loop-reloc
invariant-loop-reloc l = find (λ r. is_pointer_kind r.kind) (take l.reloc-index l.relocs) ≡ None
