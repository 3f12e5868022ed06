use Rattle.std.proofs.Common.{◌≡◌, ◌≤◌, length, take}
use Rattle.std.specs.Prelude.{filter, ◌==◌}
use Rattle.elf_objects.specs.declared.TheConstants.{STT_FILE}
use Rattle.symbols_relocs.proofs.code_names.is_linked.Given as goal

abbrev pub invariant-loop-k : goal.invariant-loop-k
invariant-loop-k l = record {
  files : l.files ≡ length (filter (λ s. s.kind == STT_FILE) (take l.k l.object.symbols));
  few : l.files ≤ l.k;
}
