use Rattle.std.proofs.Common.{◌≡◌, ◌++◌, map, take}
use Rattle.elf_write.specs.New.{entries}
use Rattle.demo_objects.specs.Made.{rela_entry}
use Rattle.demo_objects.specs.Spec.{spec_of}
use Rattle.demo_objects.proofs.sections.push_relas.Given as goal

abbrev pub invariant-loop-sec : goal.invariant-loop-sec
invariant-loop-sec l = entries l.all.items ≡ entries l.initial.all.items ++ map (rela_entry (spec_of l.spec)) (take l.sec-index l.targets)
