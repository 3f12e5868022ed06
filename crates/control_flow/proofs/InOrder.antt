-- The faults of an object, list after list.
use Rattle.std.proofs.Common.{◌≡◌, ℕ, List, [], ◌++◌, Option, Some, None, sym, ◌∙◌}
use Rattle.std.specs.Prelude.{option_map, slice_get}
use Rattle.std.specs.List.{position_from}
use Rattle.ot_base.specs.declared.place.Place.{Place}
use Rattle.flow_defs.specs.Coded.{Coded}
use Rattle.special_sections.specs.declared.entries.BranchEntry.{BranchEntry}
use Rattle.special_sections.specs.declared.entries.FixEntry.{FixEntry}
use Rattle.special_sections.specs.declared.entries.HintEntry.{HintEntry}
use Rattle.special_sections.specs.Special.{special_of}
use Rattle.flow_defs.specs.declared.fault.FlowFault.{FlowFault}
use Rattle.flow_defs.specs.declared.fault.FlowFault.TheVariants.{NotBoundary}
use Rattle.flow_defs.specs.Faults.{boundary_faults, call_faults, faults_of_list, flow_faults, function_faults, is_no_boundary, is_no_end, start_faults, static_faults}
use Rattle.control_flow.proofs.FirstFaults.{first_here, first_later, no_first}
use Rattle.control_flow.proofs.ToldFaults.{told}

module _ (o : Coded) where
  abbrev pub of_branches : List FlowFault
  of_branches = faults_of_list (λ (b : BranchEntry). is_no_boundary o b.code) (NotBoundary 1) (special_of o.elf).branches

  abbrev pub of_fixes : List FlowFault
  of_fixes = faults_of_list (λ (f : FixEntry). is_no_boundary o f.insn) (NotBoundary 2) (special_of o.elf).fixes

  abbrev pub of_hints : List FlowFault
  of_hints = faults_of_list (λ (h : HintEntry). is_no_boundary o h.place) (NotBoundary 3) (special_of o.elf).hints

  abbrev pub of_reachable : List FlowFault
  of_reachable = faults_of_list (is_no_end o) (NotBoundary 4) (special_of o.elf).after_reachable

  abbrev pub of_unreachable : List FlowFault
  of_unreachable = faults_of_list (is_no_end o) (NotBoundary 5) (special_of o.elf).after_unreachable

  abbrev pub of_safe : List FlowFault
  of_safe = faults_of_list (is_no_boundary o) (NotBoundary 6) (special_of o.elf).safe_branches

  abbrev pub of_intra : List FlowFault
  of_intra = faults_of_list (is_no_boundary o) (NotBoundary 7) (special_of o.elf).intra_calls

  pub first_of_branches : (list : List BranchEntry) (found known : Option ℕ) → found ≡ position_from (λ (b : BranchEntry). is_no_boundary o b.code) 0 list → found ≡ known → list ≡ (special_of o.elf).branches → slice_get of_branches 0 ≡ option_map (NotBoundary 1) known
  first_of_branches list found known is here same = told (λ (b : BranchEntry). is_no_boundary o b.code) (NotBoundary 1) (special_of o.elf).branches list found known is here same

  pub first_of_fixes : (list : List FixEntry) (found known : Option ℕ) → found ≡ position_from (λ (f : FixEntry). is_no_boundary o f.insn) 0 list → found ≡ known → list ≡ (special_of o.elf).fixes → slice_get of_fixes 0 ≡ option_map (NotBoundary 2) known
  first_of_fixes list found known is here same = told (λ (f : FixEntry). is_no_boundary o f.insn) (NotBoundary 2) (special_of o.elf).fixes list found known is here same

  pub first_of_hints : (list : List HintEntry) (found known : Option ℕ) → found ≡ position_from (λ (h : HintEntry). is_no_boundary o h.place) 0 list → found ≡ known → list ≡ (special_of o.elf).hints → slice_get of_hints 0 ≡ option_map (NotBoundary 3) known
  first_of_hints list found known is here same = told (λ (h : HintEntry). is_no_boundary o h.place) (NotBoundary 3) (special_of o.elf).hints list found known is here same

  pub first_of_reachable : (list : List Place) (found known : Option ℕ) → found ≡ position_from (is_no_end o) 0 list → found ≡ known → list ≡ (special_of o.elf).after_reachable → slice_get of_reachable 0 ≡ option_map (NotBoundary 4) known
  first_of_reachable list found known is here same = told (is_no_end o) (NotBoundary 4) (special_of o.elf).after_reachable list found known is here same

  pub first_of_unreachable : (list : List Place) (found known : Option ℕ) → found ≡ position_from (is_no_end o) 0 list → found ≡ known → list ≡ (special_of o.elf).after_unreachable → slice_get of_unreachable 0 ≡ option_map (NotBoundary 5) known
  first_of_unreachable list found known is here same = told (is_no_end o) (NotBoundary 5) (special_of o.elf).after_unreachable list found known is here same

  pub first_of_safe : (list : List Place) (found known : Option ℕ) → found ≡ position_from (is_no_boundary o) 0 list → found ≡ known → list ≡ (special_of o.elf).safe_branches → slice_get of_safe 0 ≡ option_map (NotBoundary 6) known
  first_of_safe list found known is here same = told (is_no_boundary o) (NotBoundary 6) (special_of o.elf).safe_branches list found known is here same

  pub first_of_intra : (list : List Place) (found known : Option ℕ) → found ≡ position_from (is_no_boundary o) 0 list → found ≡ known → list ≡ (special_of o.elf).intra_calls → slice_get of_intra 0 ≡ option_map (NotBoundary 7) known
  first_of_intra list found known is here same = told (is_no_boundary o) (NotBoundary 7) (special_of o.elf).intra_calls list found known is here same

  pub in_branches : (x : FlowFault) → slice_get of_branches 0 ≡ Some x → Some x ≡ slice_get (boundary_faults o) 0
  in_branches x here = sym (first_here of_branches (of_fixes ++ (of_hints ++ (of_reachable ++ (of_unreachable ++ (of_safe ++ of_intra))))) x here)

  pub in_fixes : (x : FlowFault) → slice_get of_branches 0 ≡ None → slice_get of_fixes 0 ≡ Some x → Some x ≡ slice_get (boundary_faults o) 0
  in_fixes x none_branches here = sym (first_later of_branches (of_fixes ++ (of_hints ++ (of_reachable ++ (of_unreachable ++ (of_safe ++ of_intra))))) none_branches ∙ first_here of_fixes (of_hints ++ (of_reachable ++ (of_unreachable ++ (of_safe ++ of_intra)))) x here)

  pub in_hints : (x : FlowFault) → slice_get of_branches 0 ≡ None → slice_get of_fixes 0 ≡ None → slice_get of_hints 0 ≡ Some x → Some x ≡ slice_get (boundary_faults o) 0
  in_hints x none_branches none_fixes here = sym (first_later of_branches (of_fixes ++ (of_hints ++ (of_reachable ++ (of_unreachable ++ (of_safe ++ of_intra))))) none_branches ∙ first_later of_fixes (of_hints ++ (of_reachable ++ (of_unreachable ++ (of_safe ++ of_intra)))) none_fixes ∙ first_here of_hints (of_reachable ++ (of_unreachable ++ (of_safe ++ of_intra))) x here)

  pub in_reachable : (x : FlowFault) → slice_get of_branches 0 ≡ None → slice_get of_fixes 0 ≡ None → slice_get of_hints 0 ≡ None → slice_get of_reachable 0 ≡ Some x → Some x ≡ slice_get (boundary_faults o) 0
  in_reachable x none_branches none_fixes none_hints here = sym (first_later of_branches (of_fixes ++ (of_hints ++ (of_reachable ++ (of_unreachable ++ (of_safe ++ of_intra))))) none_branches ∙ first_later of_fixes (of_hints ++ (of_reachable ++ (of_unreachable ++ (of_safe ++ of_intra)))) none_fixes ∙ first_later of_hints (of_reachable ++ (of_unreachable ++ (of_safe ++ of_intra))) none_hints ∙ first_here of_reachable (of_unreachable ++ (of_safe ++ of_intra)) x here)

  pub in_unreachable : (x : FlowFault) → slice_get of_branches 0 ≡ None → slice_get of_fixes 0 ≡ None → slice_get of_hints 0 ≡ None → slice_get of_reachable 0 ≡ None → slice_get of_unreachable 0 ≡ Some x → Some x ≡ slice_get (boundary_faults o) 0
  in_unreachable x none_branches none_fixes none_hints none_reachable here = sym (first_later of_branches (of_fixes ++ (of_hints ++ (of_reachable ++ (of_unreachable ++ (of_safe ++ of_intra))))) none_branches ∙ first_later of_fixes (of_hints ++ (of_reachable ++ (of_unreachable ++ (of_safe ++ of_intra)))) none_fixes ∙ first_later of_hints (of_reachable ++ (of_unreachable ++ (of_safe ++ of_intra))) none_hints ∙ first_later of_reachable (of_unreachable ++ (of_safe ++ of_intra)) none_reachable ∙ first_here of_unreachable (of_safe ++ of_intra) x here)

  pub in_safe : (x : FlowFault) → slice_get of_branches 0 ≡ None → slice_get of_fixes 0 ≡ None → slice_get of_hints 0 ≡ None → slice_get of_reachable 0 ≡ None → slice_get of_unreachable 0 ≡ None → slice_get of_safe 0 ≡ Some x → Some x ≡ slice_get (boundary_faults o) 0
  in_safe x none_branches none_fixes none_hints none_reachable none_unreachable here = sym (first_later of_branches (of_fixes ++ (of_hints ++ (of_reachable ++ (of_unreachable ++ (of_safe ++ of_intra))))) none_branches ∙ first_later of_fixes (of_hints ++ (of_reachable ++ (of_unreachable ++ (of_safe ++ of_intra)))) none_fixes ∙ first_later of_hints (of_reachable ++ (of_unreachable ++ (of_safe ++ of_intra))) none_hints ∙ first_later of_reachable (of_unreachable ++ (of_safe ++ of_intra)) none_reachable ∙ first_later of_unreachable (of_safe ++ of_intra) none_unreachable ∙ first_here of_safe of_intra x here)

  pub in_intra : (x : FlowFault) → slice_get of_branches 0 ≡ None → slice_get of_fixes 0 ≡ None → slice_get of_hints 0 ≡ None → slice_get of_reachable 0 ≡ None → slice_get of_unreachable 0 ≡ None → slice_get of_safe 0 ≡ None → slice_get of_intra 0 ≡ Some x → Some x ≡ slice_get (boundary_faults o) 0
  in_intra x none_branches none_fixes none_hints none_reachable none_unreachable none_safe here = sym (first_later of_branches (of_fixes ++ (of_hints ++ (of_reachable ++ (of_unreachable ++ (of_safe ++ of_intra))))) none_branches ∙ first_later of_fixes (of_hints ++ (of_reachable ++ (of_unreachable ++ (of_safe ++ of_intra)))) none_fixes ∙ first_later of_hints (of_reachable ++ (of_unreachable ++ (of_safe ++ of_intra))) none_hints ∙ first_later of_reachable (of_unreachable ++ (of_safe ++ of_intra)) none_reachable ∙ first_later of_unreachable (of_safe ++ of_intra) none_unreachable ∙ first_later of_safe of_intra none_safe ∙ here)

  pub in_none : slice_get of_branches 0 ≡ None → slice_get of_fixes 0 ≡ None → slice_get of_hints 0 ≡ None → slice_get of_reachable 0 ≡ None → slice_get of_unreachable 0 ≡ None → slice_get of_safe 0 ≡ None → slice_get of_intra 0 ≡ None → None ≡ slice_get (boundary_faults o) 0
  in_none none_branches none_fixes none_hints none_reachable none_unreachable none_safe none_intra = sym (first_later of_branches (of_fixes ++ (of_hints ++ (of_reachable ++ (of_unreachable ++ (of_safe ++ of_intra))))) none_branches ∙ first_later of_fixes (of_hints ++ (of_reachable ++ (of_unreachable ++ (of_safe ++ of_intra)))) none_fixes ∙ first_later of_hints (of_reachable ++ (of_unreachable ++ (of_safe ++ of_intra))) none_hints ∙ first_later of_reachable (of_unreachable ++ (of_safe ++ of_intra)) none_reachable ∙ first_later of_unreachable (of_safe ++ of_intra) none_unreachable ∙ first_later of_safe of_intra none_safe ∙ none_intra)

-- ---- all of them
module _ (o : Coded) where
  abbrev behind_places : List FlowFault
  behind_places = static_faults o ++ (call_faults o ++ function_faults o)

  pub of_starts : (x : FlowFault) → slice_get (start_faults o) 0 ≡ Some x → slice_get (flow_faults o) 0 ≡ Some x
  unfolding flow_faults
  of_starts x here = first_here (start_faults o) (boundary_faults o ++ behind_places) x here

  pub of_places : (x : FlowFault) → slice_get (start_faults o) 0 ≡ None → slice_get (boundary_faults o) 0 ≡ Some x → slice_get (flow_faults o) 0 ≡ Some x
  unfolding flow_faults
  of_places x starts here =
      first_later (start_faults o) (boundary_faults o ++ behind_places) starts
      ∙ first_here (boundary_faults o) behind_places x here

  of_behind : slice_get (start_faults o) 0 ≡ None → slice_get (boundary_faults o) 0 ≡ None → slice_get (flow_faults o) 0 ≡ slice_get behind_places 0
  unfolding flow_faults
  of_behind starts places =
      first_later (start_faults o) (boundary_faults o ++ behind_places) starts
      ∙ first_later (boundary_faults o) behind_places places

  pub of_statics : (x : FlowFault) → slice_get (start_faults o) 0 ≡ None → slice_get (boundary_faults o) 0 ≡ None → slice_get (static_faults o) 0 ≡ Some x → slice_get (flow_faults o) 0 ≡ Some x
  of_statics x starts places here = of_behind starts places ∙ first_here (static_faults o) (call_faults o ++ function_faults o) x here

  pub of_calls : (x : FlowFault) → slice_get (start_faults o) 0 ≡ None → slice_get (boundary_faults o) 0 ≡ None → slice_get (static_faults o) 0 ≡ None → slice_get (call_faults o) 0 ≡ Some x → slice_get (flow_faults o) 0 ≡ Some x
  of_calls x starts places statics here =
      of_behind starts places
      ∙ first_later (static_faults o) (call_faults o ++ function_faults o) statics
      ∙ first_here (call_faults o) (function_faults o) x here

  of_rest : slice_get (start_faults o) 0 ≡ None → slice_get (boundary_faults o) 0 ≡ None → slice_get (static_faults o) 0 ≡ None → slice_get (call_faults o) 0 ≡ None → slice_get (flow_faults o) 0 ≡ slice_get (function_faults o) 0
  of_rest starts places statics calls =
      of_behind starts places
      ∙ first_later (static_faults o) (call_faults o ++ function_faults o) statics
      ∙ first_later (call_faults o) (function_faults o) calls

  pub of_functions : (x : FlowFault) → slice_get (start_faults o) 0 ≡ None → slice_get (boundary_faults o) 0 ≡ None → slice_get (static_faults o) 0 ≡ None → slice_get (call_faults o) 0 ≡ None → slice_get (function_faults o) 0 ≡ Some x → slice_get (flow_faults o) 0 ≡ Some x
  of_functions x starts places statics calls here = of_rest starts places statics calls ∙ here

  pub of_none : slice_get (start_faults o) 0 ≡ None → slice_get (boundary_faults o) 0 ≡ None → slice_get (static_faults o) 0 ≡ None → slice_get (call_faults o) 0 ≡ None → slice_get (function_faults o) 0 ≡ None → flow_faults o ≡ []
  of_none starts places statics calls none = no_first (flow_faults o) (of_rest starts places statics calls ∙ none)
