use Rattle.std.proofs.Common.{◌≡◌, List, ℕ, Some, slice_get, slice_range, ap, subst, ◌∙◌}
use Rattle.text_numbers.specs.Ends.{end_from}
use Rattle.elf_objects.specs.Contents.{symbol_at}
use Rattle.symbols_relocs.specs.Names.{strings}
use Rattle.symbols_relocs.proofs.NamePlaces.{name_range}
use Rattle.symbols_relocs.proofs.names.number_name.Goals as goal

pub returns-clause-number : goal.returns-clause-number
returns-clause-number c =
    let start : ℕ = c.name_start-start.result in
    let end : ℕ = c.end_of-end.result in
    let name : List ℕ = (symbol_at c.args.object.now c.args.k).name in
    let it : slice_range c.args.texts.now.table start end ≡ name =
    ap (λ t. slice_range t start end) c.requires.table
    ∙ name_range (strings c.args.object.now) start end name (c.end_of-end.ensures.value ∙ ap (λ t. end_from t start) c.requires.ends) c.name_start-start.ensures.name in
    subst (λ t. slice_get c.number.new.self.texts c.in_ok-number.number ≡ Some t) it c.in_ok-number.ensures.number
