use Rattle.std.proofs.Common.{◌≡◌, ◌==◌, find, None, take}
use Rattle.jump_tables.proofs.field.find_kind.Given as goal

abbrev pub invariant-loop-reloc : goal.invariant-loop-reloc
invariant-loop-reloc l = find (λ r. r.kind == l.kind) (take l.reloc-index l.relocs) ≡ None
