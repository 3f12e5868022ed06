use Rattle.std.proofs.Common.{◌≡◌, ◌∷◌, ◌++◌, drop}
use Rattle.elf_write.specs.Layout.{new_names}
use Rattle.elf_write.specs.New.{entries}
use Rattle.demo_objects.proofs.sections.names_of.Given as goal

abbrev pub invariant-loop-section : goal.invariant-loop-section
invariant-loop-section l = l.names.items ++ new_names (entries (drop l.section-index l.sections)) ≡ 0 ∷ new_names (entries l.sections)
