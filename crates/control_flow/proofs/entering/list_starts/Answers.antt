use Rattle.std.proofs.Common.{◌≡◌, ◌++◌, List, map, ap, ◌∙◌, subst}
use Rattle.ot_base.specs.declared.place.Place.{Place}
use Rattle.elf_objects.specs.Elf.{Elf}
use Rattle.special_sections.specs.declared.entries.AltEntry.{AltEntry}
use Rattle.special_sections.specs.Special.{special_of}
use Rattle.symbols_relocs.specs.declared.function.Function.{Function}
use Rattle.symbols_relocs.specs.Lists.{AreFunctions}
use Rattle.flow_defs.specs.Coded.{Coded}
use Rattle.flow_defs.specs.Code.{alternatives_of}
use Rattle.control_flow.proofs.entering.list_starts.Goals as goal

pub returns : goal.returns
returns c =
    let o : Coded = c.args.places.now in
    let fs : List Function = c.functions.result.now in
    let own : c.index.result.now.elf ≡ o.elf = c.index.ensures ∙ ap (λ (e : Coded). e.elf) c.linked-linked.ensures in
    let all : AreFunctions o.elf fs = subst (λ (e : Elf). AreFunctions e fs) own c.functions.ensures.all in
    let entries : c.alternatives.result.now ≡ alternatives_of o = c.alternatives.ensures ∙ ap (λ s. s.alternatives) (c.special.ensures ∙ ap (λ (e : Coded). special_of e.elf) c.linked-linked.ensures) in
    let originals : c.deref.result.now ≡ map (λ (a : AltEntry). a.original) (alternatives_of o) = c.deref.ensures.value ∙ c.in_ok-originals.ensures ∙ ap (map (λ (a : AltEntry). a.original)) entries in
    (fs, all, c.in_ok-extend_from_slice.ensures.items ∙ ap (λ (xs : List Place). xs ++ c.deref.result.now) c.in_ok-starts.ensures ∙ ap (λ (ys : List Place). map (λ (f : Function). f.start) fs ++ ys) originals)
