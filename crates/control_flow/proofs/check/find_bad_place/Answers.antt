use Rattle.std.proofs.Common.{Some, None, ap, ◌∙◌, arith}
use Rattle.flow_defs.specs.Coded.{Coded}
use Rattle.special_sections.specs.declared.entries.BranchEntry.{BranchEntry}
use Rattle.special_sections.specs.declared.entries.FixEntry.{FixEntry}
use Rattle.special_sections.specs.declared.entries.HintEntry.{HintEntry}
use Rattle.special_sections.specs.Special.{SpecialEntries, special_of}
use Rattle.flow_defs.specs.declared.fault.FlowFault.TheVariants.{NotBoundary}
use Rattle.flow_defs.specs.Faults.{is_no_boundary, is_no_end}
use Rattle.control_flow.proofs.InOrder.{first_of_branches, first_of_fixes, first_of_hints, first_of_reachable, first_of_unreachable, first_of_safe, first_of_intra, in_branches, in_fixes, in_hints, in_reachable, in_unreachable, in_safe, in_intra, in_none}
use Rattle.control_flow.proofs.ToldFaults.{number_fits}
use Rattle.control_flow.proofs.check.find_bad_place.Goals as goal

pub overflow_cast-result : goal.overflow_cast-result
overflow_cast-result c = omega (arith, number_fits (λ (b : BranchEntry). is_no_boundary c.args.places.now b.code) (special_of c.args.places.now.elf).branches c.branches.result.now c.branch_off_boundary.result c.in-Some.entry c.branch_off_boundary.ensures c.in-Some.is (c.branches.ensures ∙ ap (λ (s : SpecialEntries). s.branches) (c.special-special.ensures ∙ ap (λ (e : Coded). special_of e.elf) c.linked.ensures)) c.requires.branches)

pub overflow_cast-result-in-Some-fix_off_boundary : goal.overflow_cast-result-in-Some-fix_off_boundary
overflow_cast-result-in-Some-fix_off_boundary c = omega (arith, number_fits (λ (f : FixEntry). is_no_boundary c.args.places.now f.insn) (special_of c.args.places.now.elf).fixes c.fixes.result.now c.fix_off_boundary.result c.in-Some-fix_off_boundary.entry c.fix_off_boundary.ensures c.in-Some-fix_off_boundary.is (c.fixes.ensures ∙ ap (λ (s : SpecialEntries). s.fixes) (c.special-special.ensures ∙ ap (λ (e : Coded). special_of e.elf) c.linked.ensures)) c.requires.fixes)

pub overflow_cast-result-in-Some-hint_off_boundary : goal.overflow_cast-result-in-Some-hint_off_boundary
overflow_cast-result-in-Some-hint_off_boundary c = omega (arith, number_fits (λ (h : HintEntry). is_no_boundary c.args.places.now h.place) (special_of c.args.places.now.elf).hints c.hints.result.now c.hint_off_boundary.result c.in-Some-hint_off_boundary.entry c.hint_off_boundary.ensures c.in-Some-hint_off_boundary.is (c.hints.ensures ∙ ap (λ (s : SpecialEntries). s.hints) (c.special-special.ensures ∙ ap (λ (e : Coded). special_of e.elf) c.linked.ensures)) c.requires.hints)

pub overflow_cast-result-in-Some-place_off_end : goal.overflow_cast-result-in-Some-place_off_end
overflow_cast-result-in-Some-place_off_end c = omega (arith, number_fits (is_no_end c.args.places.now) (special_of c.args.places.now.elf).after_reachable c.after_reachable.result.now c.place_off_end.result c.in-Some-place_off_end.entry c.place_off_end.ensures c.in-Some-place_off_end.is (c.after_reachable.ensures ∙ ap (λ (s : SpecialEntries). s.after_reachable) (c.special-special.ensures ∙ ap (λ (e : Coded). special_of e.elf) c.linked.ensures)) c.requires.after_reachable)

pub overflow_cast-result-in-Some-place_off_end-2 : goal.overflow_cast-result-in-Some-place_off_end-2
overflow_cast-result-in-Some-place_off_end-2 c = omega (arith, number_fits (is_no_end c.args.places.now) (special_of c.args.places.now.elf).after_unreachable c.after_unreachable.result.now c.place_off_end-2.result c.in-Some-place_off_end-2.entry c.place_off_end-2.ensures c.in-Some-place_off_end-2.is (c.after_unreachable.ensures ∙ ap (λ (s : SpecialEntries). s.after_unreachable) (c.special-special.ensures ∙ ap (λ (e : Coded). special_of e.elf) c.linked.ensures)) c.requires.after_unreachable)

pub overflow_cast-result-in-Some-place_off_boundary : goal.overflow_cast-result-in-Some-place_off_boundary
overflow_cast-result-in-Some-place_off_boundary c = omega (arith, number_fits (is_no_boundary c.args.places.now) (special_of c.args.places.now.elf).safe_branches c.safe_branches.result.now c.place_off_boundary.result c.in-Some-place_off_boundary.entry c.place_off_boundary.ensures c.in-Some-place_off_boundary.is (c.safe_branches.ensures ∙ ap (λ (s : SpecialEntries). s.safe_branches) (c.special-special.ensures ∙ ap (λ (e : Coded). special_of e.elf) c.linked.ensures)) c.requires.safe_branches)

pub returns-in-Some : goal.returns-in-Some
returns-in-Some c =
    in_branches c.args.places.now (NotBoundary 1 c.in-Some.entry)
    (first_of_branches c.args.places.now c.branches.result.now c.branch_off_boundary.result (Some c.in-Some.entry) c.branch_off_boundary.ensures c.in-Some.is (c.branches.ensures ∙ ap (λ (s : SpecialEntries). s.branches) (c.special-special.ensures ∙ ap (λ (e : Coded). special_of e.elf) c.linked.ensures)))

pub returns-in-Some-fix_off_boundary : goal.returns-in-Some-fix_off_boundary
returns-in-Some-fix_off_boundary c =
    in_fixes c.args.places.now (NotBoundary 2 c.in-Some-fix_off_boundary.entry)
    (first_of_branches c.args.places.now c.branches.result.now c.branch_off_boundary.result None c.branch_off_boundary.ensures c.in_default.is (c.branches.ensures ∙ ap (λ (s : SpecialEntries). s.branches) (c.special-special.ensures ∙ ap (λ (e : Coded). special_of e.elf) c.linked.ensures)))
    (first_of_fixes c.args.places.now c.fixes.result.now c.fix_off_boundary.result (Some c.in-Some-fix_off_boundary.entry) c.fix_off_boundary.ensures c.in-Some-fix_off_boundary.is (c.fixes.ensures ∙ ap (λ (s : SpecialEntries). s.fixes) (c.special-special.ensures ∙ ap (λ (e : Coded). special_of e.elf) c.linked.ensures)))

pub returns-in-Some-hint_off_boundary : goal.returns-in-Some-hint_off_boundary
returns-in-Some-hint_off_boundary c =
    in_hints c.args.places.now (NotBoundary 3 c.in-Some-hint_off_boundary.entry)
    (first_of_branches c.args.places.now c.branches.result.now c.branch_off_boundary.result None c.branch_off_boundary.ensures c.in_default.is (c.branches.ensures ∙ ap (λ (s : SpecialEntries). s.branches) (c.special-special.ensures ∙ ap (λ (e : Coded). special_of e.elf) c.linked.ensures)))
    (first_of_fixes c.args.places.now c.fixes.result.now c.fix_off_boundary.result None c.fix_off_boundary.ensures c.in_default-fix_off_boundary.is (c.fixes.ensures ∙ ap (λ (s : SpecialEntries). s.fixes) (c.special-special.ensures ∙ ap (λ (e : Coded). special_of e.elf) c.linked.ensures)))
    (first_of_hints c.args.places.now c.hints.result.now c.hint_off_boundary.result (Some c.in-Some-hint_off_boundary.entry) c.hint_off_boundary.ensures c.in-Some-hint_off_boundary.is (c.hints.ensures ∙ ap (λ (s : SpecialEntries). s.hints) (c.special-special.ensures ∙ ap (λ (e : Coded). special_of e.elf) c.linked.ensures)))

pub returns-in-Some-place_off_end : goal.returns-in-Some-place_off_end
returns-in-Some-place_off_end c =
    in_reachable c.args.places.now (NotBoundary 4 c.in-Some-place_off_end.entry)
    (first_of_branches c.args.places.now c.branches.result.now c.branch_off_boundary.result None c.branch_off_boundary.ensures c.in_default.is (c.branches.ensures ∙ ap (λ (s : SpecialEntries). s.branches) (c.special-special.ensures ∙ ap (λ (e : Coded). special_of e.elf) c.linked.ensures)))
    (first_of_fixes c.args.places.now c.fixes.result.now c.fix_off_boundary.result None c.fix_off_boundary.ensures c.in_default-fix_off_boundary.is (c.fixes.ensures ∙ ap (λ (s : SpecialEntries). s.fixes) (c.special-special.ensures ∙ ap (λ (e : Coded). special_of e.elf) c.linked.ensures)))
    (first_of_hints c.args.places.now c.hints.result.now c.hint_off_boundary.result None c.hint_off_boundary.ensures c.in_default-hint_off_boundary.is (c.hints.ensures ∙ ap (λ (s : SpecialEntries). s.hints) (c.special-special.ensures ∙ ap (λ (e : Coded). special_of e.elf) c.linked.ensures)))
    (first_of_reachable c.args.places.now c.after_reachable.result.now c.place_off_end.result (Some c.in-Some-place_off_end.entry) c.place_off_end.ensures c.in-Some-place_off_end.is (c.after_reachable.ensures ∙ ap (λ (s : SpecialEntries). s.after_reachable) (c.special-special.ensures ∙ ap (λ (e : Coded). special_of e.elf) c.linked.ensures)))

pub returns-in-Some-place_off_end-2 : goal.returns-in-Some-place_off_end-2
returns-in-Some-place_off_end-2 c =
    in_unreachable c.args.places.now (NotBoundary 5 c.in-Some-place_off_end-2.entry)
    (first_of_branches c.args.places.now c.branches.result.now c.branch_off_boundary.result None c.branch_off_boundary.ensures c.in_default.is (c.branches.ensures ∙ ap (λ (s : SpecialEntries). s.branches) (c.special-special.ensures ∙ ap (λ (e : Coded). special_of e.elf) c.linked.ensures)))
    (first_of_fixes c.args.places.now c.fixes.result.now c.fix_off_boundary.result None c.fix_off_boundary.ensures c.in_default-fix_off_boundary.is (c.fixes.ensures ∙ ap (λ (s : SpecialEntries). s.fixes) (c.special-special.ensures ∙ ap (λ (e : Coded). special_of e.elf) c.linked.ensures)))
    (first_of_hints c.args.places.now c.hints.result.now c.hint_off_boundary.result None c.hint_off_boundary.ensures c.in_default-hint_off_boundary.is (c.hints.ensures ∙ ap (λ (s : SpecialEntries). s.hints) (c.special-special.ensures ∙ ap (λ (e : Coded). special_of e.elf) c.linked.ensures)))
    (first_of_reachable c.args.places.now c.after_reachable.result.now c.place_off_end.result None c.place_off_end.ensures c.in_default-place_off_end.is (c.after_reachable.ensures ∙ ap (λ (s : SpecialEntries). s.after_reachable) (c.special-special.ensures ∙ ap (λ (e : Coded). special_of e.elf) c.linked.ensures)))
    (first_of_unreachable c.args.places.now c.after_unreachable.result.now c.place_off_end-2.result (Some c.in-Some-place_off_end-2.entry) c.place_off_end-2.ensures c.in-Some-place_off_end-2.is (c.after_unreachable.ensures ∙ ap (λ (s : SpecialEntries). s.after_unreachable) (c.special-special.ensures ∙ ap (λ (e : Coded). special_of e.elf) c.linked.ensures)))

pub returns-in-Some-place_off_boundary : goal.returns-in-Some-place_off_boundary
returns-in-Some-place_off_boundary c =
    in_safe c.args.places.now (NotBoundary 6 c.in-Some-place_off_boundary.entry)
    (first_of_branches c.args.places.now c.branches.result.now c.branch_off_boundary.result None c.branch_off_boundary.ensures c.in_default.is (c.branches.ensures ∙ ap (λ (s : SpecialEntries). s.branches) (c.special-special.ensures ∙ ap (λ (e : Coded). special_of e.elf) c.linked.ensures)))
    (first_of_fixes c.args.places.now c.fixes.result.now c.fix_off_boundary.result None c.fix_off_boundary.ensures c.in_default-fix_off_boundary.is (c.fixes.ensures ∙ ap (λ (s : SpecialEntries). s.fixes) (c.special-special.ensures ∙ ap (λ (e : Coded). special_of e.elf) c.linked.ensures)))
    (first_of_hints c.args.places.now c.hints.result.now c.hint_off_boundary.result None c.hint_off_boundary.ensures c.in_default-hint_off_boundary.is (c.hints.ensures ∙ ap (λ (s : SpecialEntries). s.hints) (c.special-special.ensures ∙ ap (λ (e : Coded). special_of e.elf) c.linked.ensures)))
    (first_of_reachable c.args.places.now c.after_reachable.result.now c.place_off_end.result None c.place_off_end.ensures c.in_default-place_off_end.is (c.after_reachable.ensures ∙ ap (λ (s : SpecialEntries). s.after_reachable) (c.special-special.ensures ∙ ap (λ (e : Coded). special_of e.elf) c.linked.ensures)))
    (first_of_unreachable c.args.places.now c.after_unreachable.result.now c.place_off_end-2.result None c.place_off_end-2.ensures c.in_default-place_off_end-2.is (c.after_unreachable.ensures ∙ ap (λ (s : SpecialEntries). s.after_unreachable) (c.special-special.ensures ∙ ap (λ (e : Coded). special_of e.elf) c.linked.ensures)))
    (first_of_safe c.args.places.now c.safe_branches.result.now c.place_off_boundary.result (Some c.in-Some-place_off_boundary.entry) c.place_off_boundary.ensures c.in-Some-place_off_boundary.is (c.safe_branches.ensures ∙ ap (λ (s : SpecialEntries). s.safe_branches) (c.special-special.ensures ∙ ap (λ (e : Coded). special_of e.elf) c.linked.ensures)))

pub overflow_cast-result-in-Some-place_off_boundary-2 : goal.overflow_cast-result-in-Some-place_off_boundary-2
overflow_cast-result-in-Some-place_off_boundary-2 c = omega (arith, number_fits (is_no_boundary c.args.places.now) (special_of c.args.places.now.elf).intra_calls c.intra_calls.result.now c.place_off_boundary-2.result c.in-Some-place_off_boundary-2.entry c.place_off_boundary-2.ensures c.in-Some-place_off_boundary-2.is (c.intra_calls.ensures ∙ ap (λ (s : SpecialEntries). s.intra_calls) (c.special-special.ensures ∙ ap (λ (e : Coded). special_of e.elf) c.linked.ensures)) c.requires.intra_calls)

pub returns-in-Some-place_off_boundary-2 : goal.returns-in-Some-place_off_boundary-2
returns-in-Some-place_off_boundary-2 c =
    in_intra c.args.places.now (NotBoundary 7 c.in-Some-place_off_boundary-2.entry)
    (first_of_branches c.args.places.now c.branches.result.now c.branch_off_boundary.result None c.branch_off_boundary.ensures c.in_default.is (c.branches.ensures ∙ ap (λ (s : SpecialEntries). s.branches) (c.special-special.ensures ∙ ap (λ (e : Coded). special_of e.elf) c.linked.ensures)))
    (first_of_fixes c.args.places.now c.fixes.result.now c.fix_off_boundary.result None c.fix_off_boundary.ensures c.in_default-fix_off_boundary.is (c.fixes.ensures ∙ ap (λ (s : SpecialEntries). s.fixes) (c.special-special.ensures ∙ ap (λ (e : Coded). special_of e.elf) c.linked.ensures)))
    (first_of_hints c.args.places.now c.hints.result.now c.hint_off_boundary.result None c.hint_off_boundary.ensures c.in_default-hint_off_boundary.is (c.hints.ensures ∙ ap (λ (s : SpecialEntries). s.hints) (c.special-special.ensures ∙ ap (λ (e : Coded). special_of e.elf) c.linked.ensures)))
    (first_of_reachable c.args.places.now c.after_reachable.result.now c.place_off_end.result None c.place_off_end.ensures c.in_default-place_off_end.is (c.after_reachable.ensures ∙ ap (λ (s : SpecialEntries). s.after_reachable) (c.special-special.ensures ∙ ap (λ (e : Coded). special_of e.elf) c.linked.ensures)))
    (first_of_unreachable c.args.places.now c.after_unreachable.result.now c.place_off_end-2.result None c.place_off_end-2.ensures c.in_default-place_off_end-2.is (c.after_unreachable.ensures ∙ ap (λ (s : SpecialEntries). s.after_unreachable) (c.special-special.ensures ∙ ap (λ (e : Coded). special_of e.elf) c.linked.ensures)))
    (first_of_safe c.args.places.now c.safe_branches.result.now c.place_off_boundary.result None c.place_off_boundary.ensures c.in_default-place_off_boundary.is (c.safe_branches.ensures ∙ ap (λ (s : SpecialEntries). s.safe_branches) (c.special-special.ensures ∙ ap (λ (e : Coded). special_of e.elf) c.linked.ensures)))
    (first_of_intra c.args.places.now c.intra_calls.result.now c.place_off_boundary-2.result (Some c.in-Some-place_off_boundary-2.entry) c.place_off_boundary-2.ensures c.in-Some-place_off_boundary-2.is (c.intra_calls.ensures ∙ ap (λ (s : SpecialEntries). s.intra_calls) (c.special-special.ensures ∙ ap (λ (e : Coded). special_of e.elf) c.linked.ensures)))

pub returns : goal.returns
returns c =
    in_none c.args.places.now
    (first_of_branches c.args.places.now c.branches.result.now c.branch_off_boundary.result None c.branch_off_boundary.ensures c.in_default.is (c.branches.ensures ∙ ap (λ (s : SpecialEntries). s.branches) (c.special-special.ensures ∙ ap (λ (e : Coded). special_of e.elf) c.linked.ensures)))
    (first_of_fixes c.args.places.now c.fixes.result.now c.fix_off_boundary.result None c.fix_off_boundary.ensures c.in_default-fix_off_boundary.is (c.fixes.ensures ∙ ap (λ (s : SpecialEntries). s.fixes) (c.special-special.ensures ∙ ap (λ (e : Coded). special_of e.elf) c.linked.ensures)))
    (first_of_hints c.args.places.now c.hints.result.now c.hint_off_boundary.result None c.hint_off_boundary.ensures c.in_default-hint_off_boundary.is (c.hints.ensures ∙ ap (λ (s : SpecialEntries). s.hints) (c.special-special.ensures ∙ ap (λ (e : Coded). special_of e.elf) c.linked.ensures)))
    (first_of_reachable c.args.places.now c.after_reachable.result.now c.place_off_end.result None c.place_off_end.ensures c.in_default-place_off_end.is (c.after_reachable.ensures ∙ ap (λ (s : SpecialEntries). s.after_reachable) (c.special-special.ensures ∙ ap (λ (e : Coded). special_of e.elf) c.linked.ensures)))
    (first_of_unreachable c.args.places.now c.after_unreachable.result.now c.place_off_end-2.result None c.place_off_end-2.ensures c.in_default-place_off_end-2.is (c.after_unreachable.ensures ∙ ap (λ (s : SpecialEntries). s.after_unreachable) (c.special-special.ensures ∙ ap (λ (e : Coded). special_of e.elf) c.linked.ensures)))
    (first_of_safe c.args.places.now c.safe_branches.result.now c.place_off_boundary.result None c.place_off_boundary.ensures c.in_default-place_off_boundary.is (c.safe_branches.ensures ∙ ap (λ (s : SpecialEntries). s.safe_branches) (c.special-special.ensures ∙ ap (λ (e : Coded). special_of e.elf) c.linked.ensures)))
    (first_of_intra c.args.places.now c.intra_calls.result.now c.place_off_boundary-2.result None c.place_off_boundary-2.ensures c.in_default-place_off_boundary-2.is (c.intra_calls.ensures ∙ ap (λ (s : SpecialEntries). s.intra_calls) (c.special-special.ensures ∙ ap (λ (e : Coded). special_of e.elf) c.linked.ensures)))
