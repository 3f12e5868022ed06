-- The items of the functions of places.
use Rattle.std.proofs.Common.{ℕ, List, length, Option, Some, None, arith, subst}
use Rattle.std.specs.Prelude.{option_map, unwrap_or}
use Rattle.ot_base.specs.declared.place.Place.{Place}
use Rattle.elf_objects.specs.Elf.{Elf}
use Rattle.symbols_relocs.specs.declared.function.Function.{Function}
use Rattle.symbols_relocs.specs.Functions.{function_at}
use Rattle.symbols_relocs.specs.Lists.{IsIndexOfSymbol}
use Rattle.symbols_relocs.specs.Parts.{owner_of}
use Rattle.object_points.specs.declared.code_owners.CodeOwner.{CodeOwner}
use Rattle.object_points.specs.CodeOwners.{AreItems, IsItemBy, TellsOwner}

pub item_of : (o : Elf) (fs : List Function) (items : List CodeOwner) (place : Place) (found : Option ℕ) → AreItems o fs items → IsIndexOfSymbol fs found (function_at o place) → TellsOwner o items place (unwrap_or found (length fs))
item_of o fs items place None are is = record {
  inside = omega (arith, are.long);
  is = λ x at. subst (λ (f : Option ℕ). IsItemBy o f (option_map (owner_of o) f) x) is.symbol (are.last x at);
}
item_of o fs items place (Some i) are is = record {
  inside = omega (arith, is.inside, are.long);
  is = λ x at. subst (λ (f : Option ℕ). IsItemBy o f (option_map (owner_of o) f) x) is.symbol (are.each i x is.inside at);
}
