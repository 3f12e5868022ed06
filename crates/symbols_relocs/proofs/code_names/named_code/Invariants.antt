use Rattle.std.proofs.Common.{◌≡◌}
use Rattle.std.specs.List.{list_any, range_with_len}
use Rattle.ot_base.specs.declared.place.Place.{Place}
use Rattle.symbols_relocs.specs.CodeNames.{names_of}
use Rattle.symbols_relocs.specs.Extents.{have_byte}
use Rattle.symbols_relocs.specs.NamedCode.{is_named_byte}
use Rattle.symbols_relocs.proofs.code_names.named_code.Given as goal

abbrev pub invariant-loop-k : goal.invariant-loop-k
invariant-loop-k l = (place : Place) → have_byte l.extents.items place ≡ list_any (is_named_byte l.object (names_of l.lists l.of) place) (range_with_len 0 l.k)
