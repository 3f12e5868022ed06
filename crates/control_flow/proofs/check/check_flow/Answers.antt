use Rattle.std.proofs.Common.{◌≡◌, Some, None, length, sym, ap, ◌∙◌, subst, arith, List, ℕ}
use Rattle.std.specs.Prelude.{option_map}
use Rattle.elf_objects.specs.Elf.{Elf}
use Rattle.flow_defs.specs.Coded.{Coded}
use Rattle.elf_objects.specs.Object.{IsObject}
use Rattle.special_sections.specs.declared.entries.BranchEntry.{BranchEntry}
use Rattle.special_sections.specs.Special.{SpecialEntries, special_of}
use Rattle.flow_defs.specs.declared.fault.FlowFault.TheVariants.{FuncStart, NotBoundary, NotCall, NotFunction, StaticSite}
use Rattle.control_flow.specs.Few.{AreFew}
use Rattle.control_flow.specs.Judged.{fault_in, is_no_branch, is_no_call, is_no_function}
use Rattle.control_flow.proofs.FewEntries.{branches_fit, numbers_fit}
use Rattle.control_flow.proofs.InOrder.{of_calls, of_functions, of_none, of_places, of_starts, of_statics}
use Rattle.control_flow.proofs.ToldFaults.{number_fits, told}
use Rattle.control_flow.proofs.check.check_flow.Goals as goal

pub returns-in-Some-clause-err : goal.returns-in-Some-clause-err
returns-in-Some-clause-err c = of_starts c.args.places.now (FuncStart c.in-Some.sym) (sym c.find_bad_start.ensures.first ∙ ap (option_map FuncStart) c.in-Some.is)

pub prove-unreachable-requires : goal.prove-unreachable-requires
prove-unreachable-requires c =
    let o : Coded = c.args.places.now in
    let own : c.object.result.now ≡ o.elf = c.object.ensures ∙ ap (λ (e : Coded). e.elf) c.linked-linked.ensures in
    let is : IsObject o.elf.bytes o.elf = subst (λ (e : Elf). IsObject e.bytes e) own (subst (λ (b : List ℕ). IsObject b c.object.result.now) c.bytes-bytes.ensures.value c.bytes-bytes.ensures.object) in
    let size : length c.bytes-bytes.result.now ≡ length o.elf.bytes = ap length (c.bytes-bytes.ensures.value ∙ ap (λ (e : Elf). e.bytes) own) in
    omega (arith, c.if-prove.true, size, branches_fit o.elf c.find_bad_start.ensures.linked.0 is c.find_bad_start.ensures.linked.1.before.before.special, ap length (c.branches.ensures ∙ ap (λ (s : SpecialEntries). s.branches) (c.special-special.ensures ∙ ap (λ (e : Coded). special_of e.elf) c.linked-linked.ensures)))

pub find_bad_place-requires : goal.find_bad_place-requires
find_bad_place-requires c =
    let o : Coded = c.args.places.now in
    let own : c.object.result.now ≡ o.elf = c.object.ensures ∙ ap (λ (e : Coded). e.elf) c.linked-linked.ensures in
    let is : IsObject o.elf.bytes o.elf = subst (λ (e : Elf). IsObject e.bytes e) own (subst (λ (b : List ℕ). IsObject b c.object.result.now) c.bytes-bytes.ensures.value c.bytes-bytes.ensures.object) in
    let size : length c.bytes-bytes.result.now ≡ length o.elf.bytes = ap length (c.bytes-bytes.ensures.value ∙ ap (λ (e : Elf). e.bytes) own) in
    let few : AreFew (special_of o.elf) = numbers_fit o.elf c.find_bad_start.ensures.linked.0 is c.find_bad_start.ensures.linked.1.before.before.special (omega (arith, c.bytes-bytes.ensures.short, size)) in
    few

pub returns-in-Some-find_bad_place-clause-err : goal.returns-in-Some-find_bad_place-clause-err
returns-in-Some-find_bad_place-clause-err c =
    of_places c.args.places.now (NotBoundary c.in-Some-find_bad_place.list c.in-Some-find_bad_place.entry) (sym c.find_bad_start.ensures.first ∙ ap (option_map FuncStart) c.in_default.is) (sym c.in-Some-find_bad_place.ensures)

pub overflow_cast-result : goal.overflow_cast-result
overflow_cast-result c =
    let o : Coded = c.args.places.now in
    let own : c.object.result.now ≡ o.elf = c.object.ensures ∙ ap (λ (e : Coded). e.elf) c.linked-linked.ensures in
    let is : IsObject o.elf.bytes o.elf = subst (λ (e : Elf). IsObject e.bytes e) own (subst (λ (b : List ℕ). IsObject b c.object.result.now) c.bytes-bytes.ensures.value c.bytes-bytes.ensures.object) in
    let size : length c.bytes-bytes.result.now ≡ length o.elf.bytes = ap length (c.bytes-bytes.ensures.value ∙ ap (λ (e : Elf). e.bytes) own) in
    let few : AreFew (special_of o.elf) = numbers_fit o.elf c.find_bad_start.ensures.linked.0 is c.find_bad_start.ensures.linked.1.before.before.special (omega (arith, c.bytes-bytes.ensures.short, size)) in
    omega (arith, number_fits (λ (b : BranchEntry). is_no_branch o b.code) (special_of o.elf).branches c.branches-2.result.now c.branch_off_site.result c.in-Some-branch_off_site.entry c.branch_off_site.ensures c.in-Some-branch_off_site.is (c.branches-2.ensures ∙ ap (λ (s : SpecialEntries). s.branches) (c.special-special.ensures ∙ ap (λ (e : Coded). special_of e.elf) c.linked-linked.ensures)) few.branches)

pub returns-in-Some-branch_off_site-clause-err : goal.returns-in-Some-branch_off_site-clause-err
returns-in-Some-branch_off_site-clause-err c =
    of_statics c.args.places.now (StaticSite c.in-Some-branch_off_site.entry) (sym c.find_bad_start.ensures.first ∙ ap (option_map FuncStart) c.in_default.is)
    (sym c.find_bad_place.ensures ∙ ap (option_map fault_in) c.in_default-find_bad_place.is)
    (told (λ (b : BranchEntry). is_no_branch c.args.places.now b.code) StaticSite (special_of c.args.places.now.elf).branches c.branches-2.result.now c.branch_off_site.result (Some c.in-Some-branch_off_site.entry) c.branch_off_site.ensures c.in-Some-branch_off_site.is (c.branches-2.ensures ∙ ap (λ (s : SpecialEntries). s.branches) (c.special-special.ensures ∙ ap (λ (e : Coded). special_of e.elf) c.linked-linked.ensures)))

pub overflow_cast-result-in-Some-place_off_call : goal.overflow_cast-result-in-Some-place_off_call
overflow_cast-result-in-Some-place_off_call c =
    let o : Coded = c.args.places.now in
    let own : c.object.result.now ≡ o.elf = c.object.ensures ∙ ap (λ (e : Coded). e.elf) c.linked-linked.ensures in
    let is : IsObject o.elf.bytes o.elf = subst (λ (e : Elf). IsObject e.bytes e) own (subst (λ (b : List ℕ). IsObject b c.object.result.now) c.bytes-bytes.ensures.value c.bytes-bytes.ensures.object) in
    let size : length c.bytes-bytes.result.now ≡ length o.elf.bytes = ap length (c.bytes-bytes.ensures.value ∙ ap (λ (e : Elf). e.bytes) own) in
    let few : AreFew (special_of o.elf) = numbers_fit o.elf c.find_bad_start.ensures.linked.0 is c.find_bad_start.ensures.linked.1.before.before.special (omega (arith, c.bytes-bytes.ensures.short, size)) in
    omega (arith, number_fits (is_no_call o) (special_of o.elf).intra_calls c.intra_calls.result.now c.place_off_call.result c.in-Some-place_off_call.entry c.place_off_call.ensures c.in-Some-place_off_call.is (c.intra_calls.ensures ∙ ap (λ (s : SpecialEntries). s.intra_calls) (c.special-special.ensures ∙ ap (λ (e : Coded). special_of e.elf) c.linked-linked.ensures)) few.intra_calls)

pub returns-in-Some-place_off_call-clause-err : goal.returns-in-Some-place_off_call-clause-err
returns-in-Some-place_off_call-clause-err c =
    of_calls c.args.places.now (NotCall c.in-Some-place_off_call.entry) (sym c.find_bad_start.ensures.first ∙ ap (option_map FuncStart) c.in_default.is)
    (sym c.find_bad_place.ensures ∙ ap (option_map fault_in) c.in_default-find_bad_place.is)
    (told (λ (b : BranchEntry). is_no_branch c.args.places.now b.code) StaticSite (special_of c.args.places.now.elf).branches c.branches-2.result.now c.branch_off_site.result None c.branch_off_site.ensures c.in_default-branch_off_site.is (c.branches-2.ensures ∙ ap (λ (s : SpecialEntries). s.branches) (c.special-special.ensures ∙ ap (λ (e : Coded). special_of e.elf) c.linked-linked.ensures)))
    (told (is_no_call c.args.places.now) NotCall (special_of c.args.places.now.elf).intra_calls c.intra_calls.result.now c.place_off_call.result (Some c.in-Some-place_off_call.entry) c.place_off_call.ensures c.in-Some-place_off_call.is (c.intra_calls.ensures ∙ ap (λ (s : SpecialEntries). s.intra_calls) (c.special-special.ensures ∙ ap (λ (e : Coded). special_of e.elf) c.linked-linked.ensures)))

pub overflow_cast-result-in-Some-place_off_function : goal.overflow_cast-result-in-Some-place_off_function
overflow_cast-result-in-Some-place_off_function c =
    let o : Coded = c.args.places.now in
    let own : c.object.result.now ≡ o.elf = c.object.ensures ∙ ap (λ (e : Coded). e.elf) c.linked-linked.ensures in
    let is : IsObject o.elf.bytes o.elf = subst (λ (e : Elf). IsObject e.bytes e) own (subst (λ (b : List ℕ). IsObject b c.object.result.now) c.bytes-bytes.ensures.value c.bytes-bytes.ensures.object) in
    let size : length c.bytes-bytes.result.now ≡ length o.elf.bytes = ap length (c.bytes-bytes.ensures.value ∙ ap (λ (e : Elf). e.bytes) own) in
    let few : AreFew (special_of o.elf) = numbers_fit o.elf c.find_bad_start.ensures.linked.0 is c.find_bad_start.ensures.linked.1.before.before.special (omega (arith, c.bytes-bytes.ensures.short, size)) in
    omega (arith, number_fits (is_no_function o) (special_of o.elf).unchecked c.unchecked.result.now c.place_off_function.result c.in-Some-place_off_function.entry c.place_off_function.ensures c.in-Some-place_off_function.is (c.unchecked.ensures ∙ ap (λ (s : SpecialEntries). s.unchecked) (c.special-special.ensures ∙ ap (λ (e : Coded). special_of e.elf) c.linked-linked.ensures)) few.unchecked)

pub returns-in-Some-place_off_function-clause-err : goal.returns-in-Some-place_off_function-clause-err
returns-in-Some-place_off_function-clause-err c =
    of_functions c.args.places.now (NotFunction c.in-Some-place_off_function.entry) (sym c.find_bad_start.ensures.first ∙ ap (option_map FuncStart) c.in_default.is)
    (sym c.find_bad_place.ensures ∙ ap (option_map fault_in) c.in_default-find_bad_place.is)
    (told (λ (b : BranchEntry). is_no_branch c.args.places.now b.code) StaticSite (special_of c.args.places.now.elf).branches c.branches-2.result.now c.branch_off_site.result None c.branch_off_site.ensures c.in_default-branch_off_site.is (c.branches-2.ensures ∙ ap (λ (s : SpecialEntries). s.branches) (c.special-special.ensures ∙ ap (λ (e : Coded). special_of e.elf) c.linked-linked.ensures)))
    (told (is_no_call c.args.places.now) NotCall (special_of c.args.places.now.elf).intra_calls c.intra_calls.result.now c.place_off_call.result None c.place_off_call.ensures c.in_default-place_off_call.is (c.intra_calls.ensures ∙ ap (λ (s : SpecialEntries). s.intra_calls) (c.special-special.ensures ∙ ap (λ (e : Coded). special_of e.elf) c.linked-linked.ensures)))
    (told (is_no_function c.args.places.now) NotFunction (special_of c.args.places.now.elf).unchecked c.unchecked.result.now c.place_off_function.result (Some c.in-Some-place_off_function.entry) c.place_off_function.ensures c.in-Some-place_off_function.is (c.unchecked.ensures ∙ ap (λ (s : SpecialEntries). s.unchecked) (c.special-special.ensures ∙ ap (λ (e : Coded). special_of e.elf) c.linked-linked.ensures)))

pub returns-clause-ok : goal.returns-clause-ok
returns-clause-ok c =
    of_none c.args.places.now (sym c.find_bad_start.ensures.first ∙ ap (option_map FuncStart) c.in_default.is)
    (sym c.find_bad_place.ensures ∙ ap (option_map fault_in) c.in_default-find_bad_place.is)
    (told (λ (b : BranchEntry). is_no_branch c.args.places.now b.code) StaticSite (special_of c.args.places.now.elf).branches c.branches-2.result.now c.branch_off_site.result None c.branch_off_site.ensures c.in_default-branch_off_site.is (c.branches-2.ensures ∙ ap (λ (s : SpecialEntries). s.branches) (c.special-special.ensures ∙ ap (λ (e : Coded). special_of e.elf) c.linked-linked.ensures)))
    (told (is_no_call c.args.places.now) NotCall (special_of c.args.places.now.elf).intra_calls c.intra_calls.result.now c.place_off_call.result None c.place_off_call.ensures c.in_default-place_off_call.is (c.intra_calls.ensures ∙ ap (λ (s : SpecialEntries). s.intra_calls) (c.special-special.ensures ∙ ap (λ (e : Coded). special_of e.elf) c.linked-linked.ensures)))
    (told (is_no_function c.args.places.now) NotFunction (special_of c.args.places.now.elf).unchecked c.unchecked.result.now c.place_off_function.result None c.place_off_function.ensures c.in_default-place_off_function.is (c.unchecked.ensures ∙ ap (λ (s : SpecialEntries). s.unchecked) (c.special-special.ensures ∙ ap (λ (e : Coded). special_of e.elf) c.linked-linked.ensures)))
