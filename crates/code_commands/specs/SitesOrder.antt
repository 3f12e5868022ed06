-- Which objects get site lists.
use Rattle.std.specs.Prelude.{◌≡◌, ℕ, ◌-◌, ◌≤◌, length, None}
use Rattle.ot_base.specs.NameLists.{NameLists}
use Rattle.elf_objects.specs.declared.TheConstants.{MAX_SECTIONS, MAX_SYMBOLS}
use Rattle.flow_defs.specs.Coded.{Coded}
use Rattle.command_base.specs.Code.{IsInOrder}
use Rattle.site_lists.specs.declared.options.ListOptions.{ListOptions}
use Rattle.site_lists.specs.Sites.{sites_of}
use Rattle.site_lists.specs.SiteOutput.{site_section}
use Rattle.site_lists.specs.Tables as output

-- so many sections an object may have, so that the six of its site lists still find room
abbrev pub most_sections : ℕ
most_sections = MAX_SECTIONS - 6

-- how many symbols the object has with the section symbols that the lists of its sites need
abbrev pub symbols_needed : ListOptions → Coded → ℕ
symbols_needed options o = output.symbols_needed o.elf (sites_of options o)

-- The object gets site lists: it is in order under the lists of names, has none yet, and room for them and for the section symbols that they need.
pub record GetsSites (options : ListOptions) (o : Coded) (lists : NameLists) : Type 0 where
  pub in_order : IsInOrder o lists
  pub new : site_section o.elf ≡ None
  pub few : length o.elf.sections ≤ most_sections
  pub few_symbols : symbols_needed options o ≤ MAX_SYMBOLS
