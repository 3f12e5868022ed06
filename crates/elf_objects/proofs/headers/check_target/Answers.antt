use Rattle.std.proofs.Common.{refl}
use Rattle.elf_objects.specs.File.{wrong_field}
use Rattle.elf_objects.specs.File.TableFault.{other_target}
use Rattle.elf_objects.proofs.headers.check_target.Goals as goal

pub returns-in-Some : goal.returns-in-Some
unfolding wrong_field
returns-in-Some c = other_target c.requires (c.in-Some.at, c.in-Some.field-0-1, c.in-Some.field-0-2) (cc) refl
