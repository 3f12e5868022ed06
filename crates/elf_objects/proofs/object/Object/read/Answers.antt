use Rattle.std.proofs.Common.{ap, subst}
use Rattle.elf_objects.specs.Contents.{elf_of}
use Rattle.elf_objects.specs.Object.{IsWellFormed}
use Rattle.elf_objects.proofs.Linked.{strings-inside}
use Rattle.elf_objects.proofs.object.Object.read.Goals as goal

pub list_ends-requires-clause-inside : goal.list_ends-requires-clause-inside
list_ends-requires-clause-inside c =
    let formed = c.in_ok-check_contents.ensures.ok in
    rw c.strings-strings.ensures (strings-inside _ formed.table formed.bodies formed.links)

pub returns : goal.returns
returns c = record {
  ok = record {
    well_formed = subst IsWellFormed c.new-symbols.ensures c.in_ok-check_contents.ensures.ok;
    says = ap elf_of c.new-symbols.ensures;
  };
  err = tt;
}
