use Rattle.std.proofs.Common.{◌≡◌, ℕ, ◌<◌, List, Bool, false, length, slice_index_or, sym, ap, ◌∙◌, arith}
use Rattle.std.proofs.lemmas.Result.{IfOk-weaker}
use Rattle.elf_objects.specs.Elf.{Elf}
use Rattle.orc_output.specs.Needed.{has_row, needed_symbols, unnamed}
use Rattle.orc_output.proofs.NeededSections.{needed-is, unnamed_nameless}
use Rattle.orc_output.proofs.symbols.needed_symbols.Goals as goal

pub returns : goal.returns
returns c =
    let o : Elf = c.args.object.now in
    let rows = c.args.rows.now in
    let marks : List Bool = c.deref.result.now in
    let marked : (sec : ℕ) → sec < length o.sections → slice_index_or marks sec false ≡ has_row rows sec =
    λ sec inside. ap (λ (m : List Bool). slice_index_or m sec false) c.deref.ensures.value ∙ c.in_ok-marks.ensures.marks sec false (omega (arith, inside, c.sections.ensures.value)) in
    IfOk-weaker c.unnamed_sections.result (λ secs. secs.items ≡ unnamed o marks) (λ secs. secs.items ≡ needed_symbols o rows)
    (λ secs e. e ∙ unnamed_nameless o (has_row rows) marks marked ∙ sym (needed-is o rows)) c.unnamed_sections.ensures
