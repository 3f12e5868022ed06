-- Where a table places what lies in a text section.
use Rattle.std.proofs.Common.{◌≡◌, ℕ, ◌+◌, List, Some, Contains, sym, ap, ◌∙◌}
use Rattle.std.specs.Prelude.{◌==◌, option_map}
use Rattle.std.proofs.lemmas.Bool.{eq-eqb, eqb-true}
use Rattle.std.proofs.lemmas.List.Elements.{All-contains}
use Rattle.ot_base.specs.declared.place.Place.{Place}
use Rattle.machine_defs.specs.Program.{Program, TextSection}
use Rattle.machine_defs.specs.Machine.{Bases}
use Rattle.table_defs.specs.declared.range.Range.{Range}
use Rattle.table_defs.specs.Placement.{address_of}
use Rattle.table_defs.specs.Placement as placement
use Rattle.table_defs.specs.Placed.{IsPlacedBy}
use Rattle.table_law.proofs.PlacedTables.{has_range}
use Rattle.table_law.proofs.Lists.{finds_one}

-- a place of a text section is placed where the bases say
pub address_in : (p : Program) (bases : Bases) (ranges : List Range) → IsPlacedBy p bases ranges → (text : TextSection) (place : Place) → Contains p.texts text → place.sec ≡ text.sec → address_of ranges place ≡ Some (bases place.sec + place.off)
address_in p bases ranges placed text place c e =
    let h = has_range p bases ranges placed text c in
    let sec : h.range.sec ≡ place.sec = ap (λ (s : placement.TextSection). s.sec) h.is ∙ sym e in
    let f = finds_one (λ (range : Range). range.sec == place.sec) ranges h.range h.among (eq-eqb h.range.sec place.sec sec) in
    let base : (f.0).base ≡ bases place.sec = All-contains (λ (range : Range). range.base ≡ bases range.sec) ranges f.0 placed.begin f.2 ∙ ap bases (eqb-true (f.0).sec place.sec f.3) in
    ap (option_map (λ (range : Range). range.base + place.off)) f.1 ∙ ap (λ (n : ℕ). Some (n + place.off)) base
