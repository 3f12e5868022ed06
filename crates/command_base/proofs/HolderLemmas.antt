-- The function that holds a place.
use Rattle.std.proofs.Common.{◌≡◌, ℕ, ◌-◌, ◌<◌, Bool, true, false, ◌&&◌, eqb, List, length, get_or, Option, Some, None, arith, refl, sym, ap, ◌∙◌}
use Rattle.std.specs.Prelude.{option_map}
use Rattle.std.proofs.lemmas.Bool.Decides.{nat_tests}
use Rattle.ot_base.specs.declared.place.Place.{Place}
use Rattle.elf_objects.specs.Elf.{Elf}
use Rattle.elf_objects.specs.Contents.{symbol_at}
use Rattle.elf_objects.proofs.LeastBelow.{least_below-some}
use Rattle.symbols_relocs.specs.declared.function.Function.{Function}
use Rattle.symbols_relocs.specs.Functions.{function_at, is_function, is_symbol_at, start_of}
use Rattle.symbols_relocs.specs.Lists.{AreFunctions, IsIndexOfSymbol, function}
use Rattle.command_base.specs.declared.backtrace_holder.Holder.{Holder}
use Rattle.command_base.specs.Backtrace.{holder_of}

right : (a b : Bool) → (a && b) ≡ true → b ≡ true
right true b e = e
right false b e = cc

same_off : (a b c d : ℕ) → (eqb a c && eqb b d) ≡ true → b ≡ d
same_off a b c d h = grind (arith, nat_tests)

-- a function starts at the value of its lowest symbol
starts_there : (o : Elf) (fs : List Function) (i : ℕ) → AreFunctions o fs → i < length fs → (symbol_at o (function fs i).sym).value ≡ (function fs i).start.off
starts_there o fs i all inside =
    let f : Function = function fs i in
    let least = least_below-some (is_symbol_at o f.start) (length o.symbols) f.sym (all.each i inside).sym in
    same_off (start_of o f.sym).sec (start_of o f.sym).off f.start.sec f.start.off (right (is_function o f.sym) _ least.passes)

pub holder_is : (o : Elf) (fs : List Function) (place : Place) (i off : ℕ) → AreFunctions o fs → IsIndexOfSymbol fs (Some i) (function_at o place) → off ≡ place.off - (function fs i).start.off → Some (record { sym = (function fs i).sym; off = off }) ≡ holder_of o place
holder_is o fs place i off all index far =
    ap (λ (n : ℕ). Some (record { sym = (function fs i).sym; off = n })) (far ∙ ap (λ n. place.off - n) (sym (starts_there o fs i all index.inside)))
    ∙ ap (option_map (λ (sym : ℕ). record { sym = sym; off = place.off - (symbol_at o sym).value })) index.symbol
