-- How much code an object has.
use Rattle.std.specs.Prelude.{◌≡◌, ℕ, List, length, count_by, filter}
use Rattle.std.specs.List.{sum_by}
use Rattle.elf_objects.specs.Contents.{is_text}
use Rattle.elf_objects.specs.Elf.{Elf}
use Rattle.flow_defs.specs.Coded.{Coded}
use Rattle.symbols_relocs.specs.declared.function.Function.{Function}
use Rattle.symbols_relocs.specs.Lists.{AreFunctions}
use Rattle.flow_defs.specs.Code.{is_plain, points_of_object}
use Rattle.object_check.specs.declared.counts.CodeCounts.{CodeCounts}

-- the object has so many functions, parts included
pub record CountsFunctions (o : Elf) (count : ℕ) : Type 0 where
  pub functions : List Function
  pub are : AreFunctions o functions
  pub counted : count ≡ length functions

-- the instructions of the text sections: the points of the code as it is assembled
abbrev pub instructions_of : Coded → ℕ
instructions_of o = count_by is_plain (points_of_object o)

-- the sum of the sizes of the text sections
abbrev pub object_text_bytes : Elf → ℕ
object_text_bytes o = sum_by (λ s. s.size) (filter is_text o.sections)

-- the object has so much code
pub record IsCounted (o : Coded) (counts : CodeCounts) : Type 0 where
  pub functions : CountsFunctions o.elf counts.functions
  pub instructions : counts.instructions ≡ instructions_of o
  pub text : counts.text_bytes ≡ object_text_bytes o.elf
