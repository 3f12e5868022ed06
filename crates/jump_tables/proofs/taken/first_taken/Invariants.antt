use Rattle.std.proofs.Common.{◌≡◌, ℕ, ◌-◌, ◌+◌, List}
use Rattle.std.specs.List.{filter_map, flat_map, range_with_len, slice_get}
use Rattle.ot_base.specs.declared.place.Place.{Place}
use Rattle.elf_objects.specs.Contents.{relocs_at}
use Rattle.symbols_relocs.specs.Relocs.{at_offset}
use Rattle.flow_defs.specs.TableRegisters.{table_taken, tables_taken}
use Rattle.jump_tables.proofs.taken.first_taken.Given as goal

abbrev pub invariant-loop-off : goal.invariant-loop-off
invariant-loop-off l =
    let o = l.code.index.now.elf in
    let given : ℕ → List Place = λ at. filter_map (table_taken o l.code.texts.now l.owner (l.fn.placed.off + l.fn.placed.insn.len)) (at_offset at (relocs_at o l.sec)) in
    slice_get (tables_taken o l.code.texts.now l.owner l.sec l.fn.placed) 0 ≡ slice_get (flat_map given (range_with_len l.off (l.fn.placed.off + l.fn.placed.insn.len - l.off))) 0
