use Rattle.std.proofs.Common.{◌≡◌, [], ◌∷◌, List, length, None, refl, sym, ap, ◌∙◌, subst, arith}
use Rattle.std.specs.Prelude.{option_map}
use Rattle.std.proofs.lemmas.Bool.{eqb-true}
use Rattle.elf_objects.specs.Elf.{Elf}
use Rattle.flow_defs.specs.Coded.{Coded}
use Rattle.symbols_relocs.specs.declared.function.Function.{Function}
use Rattle.symbols_relocs.specs.Functions.{first_bad}
use Rattle.symbols_relocs.specs.Lists.{AreFunctions}
use Rattle.alternatives.specs.declared.texts.SectionText.{SectionText}
use Rattle.flow_defs.specs.declared.fault.FlowFault.TheVariants.{FuncStart}
use Rattle.flow_defs.specs.Code.{texts_of}
use Rattle.object_points.specs.Linked.{IsLinked}
use Rattle.control_flow.proofs.StartPlaces.{fault_of, first_start, no_start}
use Rattle.control_flow.proofs.starts.find_bad_start.Goals as goal

none_there : (texts : List SectionText) → length texts ≡ 0 → texts ≡ []
none_there [] none = refl
none_there (t ∷ texts) none = absurd (omega arith)

pub returns-then-is_empty-clause-first : goal.returns-then-is_empty-clause-first
returns-then-is_empty-clause-first c =
    sym (no_start c.args.places.now
    (ap texts_of (sym c.linked-linked.ensures) ∙ sym c.texts.ensures.value ∙ none_there c.texts.result.now (eqb-true (length c.texts.result.now) 0 (sym c.if-is_empty.ensures))))

pub returns-in_err-function-clause-first : goal.returns-in_err-function-clause-first
returns-in_err-function-clause-first c =
    let o : Coded = c.args.places.now in
    let fs : List Function = c.functions.result.now in
    let all : AreFunctions o.elf fs = subst (λ (e : Elf). AreFunctions e fs) (c.index.ensures ∙ ap (λ (e : Coded). e.elf) c.linked-linked.ensures) c.functions.ensures.all in
    let right : first_bad o.elf ≡ None = subst (λ (e : Coded). first_bad e.elf ≡ None) c.linked-linked.ensures c.texts.ensures.linked.1.before.functions in
    ap (option_map FuncStart) c.from_residual.ensures
    ∙ sym (first_start o fs all c.requires right ∙ ap (option_map fault_of) (sym c.find_misplaced.ensures ∙ c.in_err-function.was))

pub returns-clause-first : goal.returns-clause-first
returns-clause-first c =
    let o : Coded = c.args.places.now in
    let fs : List Function = c.functions.result.now in
    let all : AreFunctions o.elf fs = subst (λ (e : Elf). AreFunctions e fs) (c.index.ensures ∙ ap (λ (e : Coded). e.elf) c.linked-linked.ensures) c.functions.ensures.all in
    let right : first_bad o.elf ≡ None = subst (λ (e : Coded). first_bad e.elf ≡ None) c.linked-linked.ensures c.texts.ensures.linked.1.before.functions in
    sym (first_start o fs all c.requires right ∙ ap (option_map fault_of) (sym c.find_misplaced.ensures ∙ c.in_ok-function.was))

pub returns-then-is_empty-clause-linked : goal.returns-then-is_empty-clause-linked
returns-then-is_empty-clause-linked c = (c.texts.ensures.linked.0, subst (λ (e : Coded). IsLinked e c.texts.ensures.linked.0) c.linked-linked.ensures c.texts.ensures.linked.1)

pub returns-in_err-function-clause-linked : goal.returns-in_err-function-clause-linked
returns-in_err-function-clause-linked c = (c.texts.ensures.linked.0, subst (λ (e : Coded). IsLinked e c.texts.ensures.linked.0) c.linked-linked.ensures c.texts.ensures.linked.1)

pub returns-clause-linked : goal.returns-clause-linked
returns-clause-linked c = (c.texts.ensures.linked.0, subst (λ (e : Coded). IsLinked e c.texts.ensures.linked.0) c.linked-linked.ensures c.texts.ensures.linked.1)
