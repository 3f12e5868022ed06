-- Where the functions of an object start.
use Rattle.std.specs.Prelude.{◌≡◌, false, List, None}
use Rattle.ot_base.specs.declared.place.Place.{Place}
use Rattle.elf_objects.specs.Elf.{Elf}
use Rattle.symbols_relocs.specs.Functions.{starts_at}
use Rattle.object_points.specs.Places.{is_among}

-- no function starts at any other place than these
abbrev pub AreStarts : Elf → List Place → Type 0
AreStarts o starts = (place : Place) → is_among starts place ≡ false → starts_at o place ≡ None
