-- Sections that an object's symbols name.
use Rattle.std.specs.Prelude.{◌≡◌, ℕ, ◌<◌, length}
use Rattle.elf_objects.specs.declared.symbol.Home.TheVariants as home
use Rattle.flow_defs.specs.Coded.{Coded}
use Rattle.elf_objects.specs.Contents.{symbol_at}

-- a symbol of the object is defined in the section
pub record IsNamed (o : Coded) (sec : ℕ) : Type 0 where
  pub symbol : ℕ
  pub known : symbol < length o.elf.symbols
  pub here : (symbol_at o.elf symbol).home ≡ home.Section sec
