use Rattle.std.proofs.Common.{◌≡◌, drop}
use Rattle.std.specs.List.{filter_map, slice_get}
use Rattle.flow_defs.specs.TableRegisters.{table_taken}
use Rattle.jump_tables.proofs.taken.first_by.Given as goal

abbrev pub invariant-loop-reloc : goal.invariant-loop-reloc
invariant-loop-reloc l =
    let taken = table_taken l.index.elf l.texts l.owner l.end in
    slice_get (filter_map taken l.relocs) 0 ≡ slice_get (filter_map taken (drop l.reloc-index l.relocs)) 0
