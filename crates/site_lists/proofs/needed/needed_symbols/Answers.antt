use Rattle.std.proofs.Common.{◌≡◌, ℕ, ◌<◌, List, Bool, false, length, slice_index_or, sym, ap, ◌∙◌, arith}
use Rattle.std.proofs.lemmas.Result.{IfOk-weaker}
use Rattle.elf_objects.specs.Elf.{Elf}
use Rattle.orc_output.specs.Needed.{unnamed}
use Rattle.orc_output.proofs.NeededSections.{unnamed_nameless}
use Rattle.site_lists.specs.Listed.{listed}
use Rattle.site_lists.specs.Needed.{is_listed, needed_symbols}
use Rattle.site_lists.proofs.NeededSections.{needed-is}
use Rattle.site_lists.proofs.needed.needed_symbols.Goals as goal

pub returns : goal.returns
returns c =
    let o : Elf = c.args.object.now in
    let lists = listed c.args.lists.now in
    let marks : List Bool = c.deref.result.now in
    let marked : (sec : ℕ) → sec < length o.sections → slice_index_or marks sec false ≡ is_listed lists sec =
    λ sec inside. ap (λ (m : List Bool). slice_index_or m sec false) c.deref.ensures.value ∙ c.in_ok-marks.ensures.marks sec (omega (arith, inside, c.sections.ensures.value)) in
    IfOk-weaker c.unnamed_sections.result (λ secs. secs.items ≡ unnamed o marks) (λ secs. secs.items ≡ needed_symbols o lists)
    (λ secs e. e ∙ unnamed_nameless o (is_listed lists) marks marked ∙ sym (needed-is o lists)) c.unnamed_sections.ensures
