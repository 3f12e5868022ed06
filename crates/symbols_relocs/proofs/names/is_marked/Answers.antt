use Rattle.std.proofs.Common.{◌≡◌, List, ℕ, false, slice_index_or, slice_range, ap, ◌∙◌}
use Rattle.text_numbers.specs.Ends.{end_from}
use Rattle.elf_objects.specs.Contents.{symbol_at}
use Rattle.symbols_relocs.specs.Names.{name_slot, strings}
use Rattle.symbols_relocs.proofs.NamePlaces.{name_range}
use Rattle.symbols_relocs.proofs.names.is_marked.Goals as goal

pub returns : goal.returns
returns c =
    let table : List ℕ = strings c.args.object.now in
    let start : ℕ = c.name_start-start.result in
    let end : ℕ = c.end_of-end.result in
    let name : List ℕ = (symbol_at c.args.object.now c.args.k).name in
    let is : slice_range table start end ≡ name = name_range table start end name (c.end_of-end.ensures.value ∙ ap (λ t. end_from t start) c.requires.ends) c.name_start-start.ensures.name in
    let lent : c.table.result.now ≡ table = c.table.ensures.value ∙ c.requires.ends in
    ap (λ i. slice_index_or c.args.marks.now i false) (c.slot_of.ensures.value ∙ ap (λ t. name_slot (slice_range t start end)) lent ∙ ap name_slot is)
