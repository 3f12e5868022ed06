use Rattle.std.proofs.Common.{◌≡◌}
use Rattle.ot_base.specs.declared.place.Place.{Place}
use Rattle.elf_objects.specs.Below.{least_below}
use Rattle.symbols_relocs.specs.CodeNames.{first_symbol_at}
use Rattle.symbols_relocs.specs.NamedCode.{is_returning_symbol_at}
use Rattle.symbols_relocs.proofs.returning.list_starts.Given as goal

abbrev pub invariant-loop-k : goal.invariant-loop-k
invariant-loop-k l = (place : Place) → first_symbol_at l.starts.items place ≡ least_below (is_returning_symbol_at l.object place) l.k
