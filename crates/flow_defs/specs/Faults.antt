-- What keeps an object's program from being checked: faults in order, of which the first is told.
use Rattle.std.specs.Prelude.{◌≡◌, ℕ, ◌==◌, ◌||◌, not, Bool, true, false, List, ◌++◌, filter_map, slice_get, Option, Some, None, option_map, is_none, if◌then◌else◌}
use Rattle.std.specs.List.{enumerate_from}
use Rattle.ot_base.specs.declared.place.Place.{Place}
use Rattle.operation_defs.specs.declared.insn.Insn.{Insn}
use Rattle.operation_defs.specs.declared.op.Op.{Op}
use Rattle.operation_defs.specs.declared.op.Op.TheVariants.{Nop, Call, Jmp}
use Rattle.flow_defs.specs.Coded.{Coded}
use Rattle.symbols_relocs.specs.Functions.{starts_at}
use Rattle.special_sections.specs.Special.{special_of}
use Rattle.alternatives.specs.Texts.{is_cut, insn_at, is_boundary}
use Rattle.flow_defs.specs.declared.fault.FlowFault.{FlowFault}
use Rattle.flow_defs.specs.declared.fault.FlowFault.TheVariants.{FuncStart, NotBoundary, StaticSite, NotCall, NotFunction, NoMemory}
use Rattle.flow_defs.specs.Code.{texts_of}
use Rattle.flow_defs.specs.Sites.{is_past_start, places_of, site_holding}

-- a function can't start there: at no boundary, or inside a site
abbrev pub is_no_start : Coded → Place → Bool
is_no_start o place = not (is_boundary (texts_of o) place) || is_past_start place (site_holding o place)

-- the functions that start there, in the order of their starts
abbrev pub start_faults : Coded → List FlowFault
start_faults o = filter_map (λ place. if is_no_start o place then option_map FuncStart (starts_at o.elf place) else None) (places_of o)

-- the entries of a list that are refused, by their numbers
abbrev pub faults_of_list : {A : Type 0} → (A → Bool) → (ℕ → FlowFault) → List A → List FlowFault
faults_of_list is_wrong fault list = filter_map (λ e. if is_wrong e.1 then Some (fault e.0) else None) (enumerate_from 0 list)

-- the place is no boundary, and no end of an instruction
abbrev pub is_no_boundary : Coded → Place → Bool
is_no_boundary o place = not (is_boundary (texts_of o) place)

abbrev pub is_no_end : Coded → Place → Bool
is_no_end o place = (place.off == 0) || not (is_cut (texts_of o) place)

abbrev pub boundary_faults : Coded → List FlowFault
boundary_faults o =
    let s = special_of o.elf in
    faults_of_list (λ b. is_no_boundary o b.code) (NotBoundary 1) s.branches
    ++ (faults_of_list (λ f. is_no_boundary o f.insn) (NotBoundary 2) s.fixes
    ++ (faults_of_list (λ h. is_no_boundary o h.place) (NotBoundary 3) s.hints
    ++ (faults_of_list (is_no_end o) (NotBoundary 4) s.after_reachable
    ++ (faults_of_list (is_no_end o) (NotBoundary 5) s.after_unreachable
    ++ (faults_of_list (is_no_boundary o) (NotBoundary 6) s.safe_branches
    ++ faults_of_list (is_no_boundary o) (NotBoundary 7) s.intra_calls)))))

-- the code of a static branch is a Nop or a Jmp
abbrev pub is_branch_op : Op → Bool
is_branch_op Nop = true
is_branch_op (Jmp rel wide) = true
is_branch_op _ = false

abbrev pub is_direct_call : Op → Bool
is_direct_call (Call rel) = true
is_direct_call _ = false

abbrev pub is_branch_site : Option Insn → Bool
is_branch_site None = false
is_branch_site (Some insn) = is_branch_op insn.op

abbrev pub static_faults : Coded → List FlowFault
static_faults o = faults_of_list (λ b. not (is_branch_site (insn_at (texts_of o) b.code))) StaticSite (special_of o.elf).branches

-- the instruction of a call within a function is a direct call
abbrev pub is_call_insn : Option Insn → Bool
is_call_insn None = false
is_call_insn (Some insn) = is_direct_call insn.op

abbrev pub call_faults : Coded → List FlowFault
call_faults o = faults_of_list (λ place. not (is_call_insn (insn_at (texts_of o) place))) NotCall (special_of o.elf).intra_calls

abbrev pub function_faults : Coded → List FlowFault
function_faults o = faults_of_list (λ place. is_none (starts_at o.elf place)) NotFunction (special_of o.elf).unchecked

-- all of them, in the order in which they are told
unfoldable pub flow_faults : Coded → List FlowFault
flow_faults o = start_faults o ++ (boundary_faults o ++ (static_faults o ++ (call_faults o ++ function_faults o)))

-- the fault is the first of them; want of memory says nothing of the object
abbrev pub IsFirstFlowFault : Coded → FlowFault → Type 0
IsFirstFlowFault o NoMemory = Unit {0}
IsFirstFlowFault o fault = slice_get (flow_faults o) 0 ≡ Some fault
