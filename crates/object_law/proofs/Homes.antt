-- Symbols are defined in the sections of the places that relocations name, and of those at which functions start.
use Rattle.std.proofs.Common.{◌≡◌, ℕ, true, not, Option, Some, None, length, refl, sym, ap, ◌∙◌, inl, inr}
use Rattle.std.specs.Prelude.{option_and_then, ◌==◌}
use Rattle.std.proofs.lemmas.Bool.{cases_lt, false≢true}
use Rattle.std.proofs.lemmas.List.{get_or_past}
use Rattle.ot_base.specs.declared.place.Place.{Place}
use Rattle.ot_base.specs.Places.{same_place}
use Rattle.elf_objects.specs.declared.TheConstants.{STT_FUNC}
use Rattle.elf_objects.specs.declared.symbol.Home.{Home}
use Rattle.elf_objects.specs.declared.symbol.Home.TheVariants as home
use Rattle.elf_objects.specs.declared.symbol.Reloc.{Reloc}
use Rattle.elf_objects.specs.Elf.{Elf, SymbolEntry}
use Rattle.flow_defs.specs.Coded.{Coded}
use Rattle.elf_objects.specs.Contents.{no_symbol, symbol_at}
use Rattle.elf_objects.proofs.LeastBelow.{least_below-some}
use Rattle.symbols_relocs.specs.NamedPlaces.{place_in, place_named, pointer_at, place_held_at}
use Rattle.symbols_relocs.specs.Functions.{is_code, is_function, is_symbol_at, start_of, starts_at}
use Rattle.symbols_relocs.specs.Places.{home_section, is_text_home}
use Rattle.special_sections.specs.declared.fields.Bound.{Bound}
use Rattle.special_sections.specs.Fields.{holds_text_place, names_text, or_nowhere}
use Rattle.table_law.proofs.Equal.{same_place_is}
use Rattle.table_law.proofs.Lists.{some_is}
use Rattle.object_law.proofs.Levels.{and_true}
use Rattle.object_law.specs.Named.{IsNamed}

-- a symbol that is defined in a section is one of the object
pub named_by : (o : Coded) (k sec : ℕ) → (symbol_at o.elf k).home ≡ home.Section sec → IsNamed o sec
named_by o k sec here = elim (cases_lt k (length o.elf.symbols)) [
  | inl known ↦ record { symbol = k; known = known; here = here }
  | inr beyond ↦ absurd (let none : home.Undefined ≡ home.Section sec = ap (λ (s : SymbolEntry). s.home) (sym (get_or_past o.elf.symbols k no_symbol beyond)) ∙ here in let z : ⊥ = cc in z)
]

home_of : (of_symbol : Home) (off : Option ℕ) (place : Place) → place_in of_symbol off ≡ Some place → of_symbol ≡ home.Section place.sec
home_of (home.Section i) (Some off) place is = ap (λ (p : Place). home.Section p.sec) (some_is is)
home_of (home.Section i) None place is = absurd (let z : ⊥ = cc in z)
home_of home.Undefined off place is = absurd (let z : ⊥ = cc in z)
home_of home.Absolute off place is = absurd (let z : ⊥ = cc in z)
home_of home.Common off place is = absurd (let z : ⊥ = cc in z)

-- the place that a relocation names
pub place_is_named : (o : Coded) (r : Reloc) (place : Place) → place_named o.elf r ≡ Some place → IsNamed o place.sec
place_is_named o r place is = named_by o r.sym place.sec (home_of (symbol_at o.elf r.sym).home _ place is)

-- and so the one that a field holds, where it is in a text section
pub held_is_named : (o : Coded) (bound : Bound) (field : Place) → holds_text_place o.elf bound field ≡ true → IsNamed o (or_nowhere (place_held_at o.elf field)).sec
held_is_named o bound field holds = by_place (place_held_at o.elf field) refl holds
  where
    by_reloc : (r : Option Reloc) (place : Place) → option_and_then (place_named o.elf) r ≡ Some place → IsNamed o place.sec
    by_reloc None place is = absurd (let z : ⊥ = cc in z)
    by_reloc (Some r) place is = place_is_named o r place is

    by_place : (found : Option Place) → place_held_at o.elf field ≡ found → names_text o.elf bound found ≡ true → IsNamed o (or_nowhere found).sec
    by_place None is e = absurd (false≢true e)
    by_place (Some place) is e = by_reloc (pointer_at o.elf field) place is

text_home : (o : Elf) (of_symbol : Home) → is_text_home o of_symbol ≡ true → of_symbol ≡ home.Section (home_section of_symbol)
text_home o (home.Section i) e = refl
text_home o home.Undefined e = absurd (false≢true e)
text_home o home.Absolute e = absurd (false≢true e)
text_home o home.Common e = absurd (false≢true e)

-- the place at which a function starts
pub start_is_named : (o : Coded) (place : Place) (f : ℕ) → starts_at o.elf place ≡ Some f → IsNamed o place.sec
start_is_named o place f is =
    let least = least_below-some (is_symbol_at o.elf place) (length o.elf.symbols) f is in
    let own = and_true (is_function o.elf f) (same_place (start_of o.elf f) place) least.passes in
    let code = and_true (is_code o.elf f) (not ((symbol_at o.elf f).size == 0)) own.0 in
    let text = and_true ((symbol_at o.elf f).kind == STT_FUNC) (is_text_home o.elf (symbol_at o.elf f).home) code.0 in
    let there = same_place_is (start_of o.elf f) place own.1 in
    named_by o f place.sec (text_home o.elf (symbol_at o.elf f).home text.1 ∙ ap (λ (p : Place). home.Section p.sec) there)
