-- Each reason for a warning that an option asks for, in one worked program of three functions, the second of which is listed as safe.
use Rattle.std.specs.Prelude.{ℕ, true, false, List, [], ◌∷◌, Option, Some, None, slice_index_or, filter, if◌then◌else◌, ◌==◌, pos}
use Rattle.ot_base.specs.declared.options.Options.{Options}
use Rattle.ot_base.specs.declared.rules.TheConstants.{INDIRECT_BRANCH, NAKED_RETURN, CALL_WITH_ACCESS, RETURN_WITH_ACCESS, RETURN_WITHOUT_ACCESS, ACCESS_ON_TWICE, ACCESS_OFF_TWICE, SAFE_FUNCTION_ACCESS_OFF, POPF_WITH_ACCESS_TRACKED}
use Rattle.ot_base.specs.Places.{same_place}
use Rattle.operation_defs.specs.declared.op.Op.{Op}
use Rattle.operation_defs.specs.declared.op.Op.TheVariants.{Popf, Call, CallInd, Ret, Stac, Clac}
use Rattle.machine_defs.specs.declared.flow.Edge.{Edge}
use Rattle.machine_defs.specs.declared.flow.EdgeKind.TheVariants.{Next}
use Rattle.machine_defs.specs.declared.flow.Role.{Role}
use Rattle.machine_defs.specs.declared.flow.Role.TheVariants.{Plain, CallIn, CallAny, Return}
use Rattle.state_defs.specs.declared.state.EndKind.TheVariants.{Undefined}
use Rattle.state_defs.specs.declared.state.State.TheVariants.{Ended}
use Rattle.state_defs.specs.declared.state.HintState.TheVariants.{Set}
use Rattle.machine_defs.specs.Program.{Program, Site, below, edge}
use Rattle.machine_defs.specs.Ways.{MayCall}
use Rattle.machine_defs.specs.Allowances.{Allowances}
use Rattle.machine_defs.specs.AccessRules.{AccessWarns}
use Rattle.machine_defs.specs.Asked.{IsWarned}
use Rattle.machine_defs.specs.Worked.{at, insn, framed}

-- what is told of a point: its function, its instruction of one byte, its role and its edges
pub record WorkedAccessPoint : Type 0 where
  pub function : Option ℕ
  pub op : Op
  pub role : Role
  pub goes : List Edge

abbrev pub goes_on : ℕ → Op → Role → ℕ → WorkedAccessPoint
goes_on function op role next = record { function = Some function; op = op; role = role; goes = edge next Next ∷ [] }

abbrev pub returns : ℕ → WorkedAccessPoint
returns function = record { function = Some function; op = Ret; role = Return; goes = [] }

abbrev pub access_points : List WorkedAccessPoint
access_points =
    goes_on 0 Stac Plain 1
    ∷ goes_on 0 Stac Plain 2
    ∷ goes_on 0 Popf Plain 3
    ∷ goes_on 0 (Call (pos 3)) (CallIn 7) 4
    ∷ returns 0
    ∷ goes_on 5 Clac Plain 6
    ∷ returns 5
    ∷ goes_on 7 Clac Plain 8
    ∷ goes_on 7 Popf Plain 9
    ∷ goes_on 7 CallInd CallAny 10
    ∷ returns 7
    -- of no function: what may be called at a site's start, where a hint stands; its replacement, where that counts; and what
    -- follows this
    ∷ record { function = None; op = Clac; role = Return; goes = [] }
    ∷ record { function = None; op = Stac; role = Plain; goes = edge 13 Next ∷ [] }
    ∷ record { function = None; op = Stac; role = Return; goes = [] }
    ∷ []

abbrev pub access_point : ℕ → WorkedAccessPoint
access_point q = slice_index_or access_points q (returns 7)

abbrev pub site : Site
site = record { start = at 11; len = 1 }

abbrev pub accessed : Program
accessed = record framed {
  count = 14;
  insn = λ q. insn (access_point q).op 1;
  place = at;
  address = λ q. if q == 12 then at 11 else at q;
  variant = λ q. if q == 12 then 1 else 0;
  function = λ q. (access_point q).function;
  owner = λ q. (access_point q).function;
  hint = λ q. if q == 11 then Some (Set (Ended Undefined)) else (if q == 12 then Some (Set (Ended Undefined)) else None);
  own_hint = λ q. q == 11;
  goes = λ q. (access_point q).goes;
  role = λ q. (access_point q).role;
  names = λ q. if q == 3 then Some 7 else None;
  arrive = λ wanted. if same_place (at 11) wanted then 11 ∷ 12 ∷ [] else filter (λ q. same_place (at q) wanted) (below 14);
  entries = 0 ∷ 5 ∷ 7 ∷ [];
  sites = site ∷ [];
  texts = record { sec = 1; size = 14 } ∷ [];
}

-- the name of the second function is listed, and no branch
abbrev pub one_safe : Allowances
one_safe = record { safe_branch = λ _. false; before_user_space = λ _. false; safe_name = λ symbol. symbol == 5; lacks_smap = λ _. false }

abbrev pub all_asked : Options
all_asked = record { fp = true; retpoline = true; rethunk = true; uaccess = true; unreachable = true; link = false; «module» = false }

abbrev pub WarnsOfAccessAt : ℕ → ℕ → Type 0
WarnsOfAccessAt off rule = AccessWarns accessed one_safe (at off) rule (pos 0) (pos 0)

pub record WarnsWhereAsked : Type 0 where
  pub on_twice : WarnsOfAccessAt 1 ACCESS_ON_TWICE
  -- a call of code of no function, with user access off, finds the replacement at its site's start, which turns it on
  pub may_call : MayCall accessed 3 11
  pub on_twice_called : WarnsOfAccessAt 13 ACCESS_ON_TWICE
  -- the third function is called, which isn't safe
  pub call_with_access : AccessWarns accessed one_safe (at 3) CALL_WITH_ACCESS (pos 7) (pos 0)
  pub return_with_access : WarnsOfAccessAt 4 RETURN_WITH_ACCESS
  pub safe_turns_off : WarnsOfAccessAt 5 SAFE_FUNCTION_ACCESS_OFF
  pub return_without_access : WarnsOfAccessAt 6 RETURN_WITHOUT_ACCESS
  -- in a function, and not in code of no function, where a hint stands
  pub off_twice : WarnsOfAccessAt 7 ACCESS_OFF_TWICE
  pub off_in_no_function : WarnsOfAccessAt 11 ACCESS_OFF_TWICE → ⊥
  -- with user access on, and not with it off
  pub popf : WarnsOfAccessAt 2 POPF_WITH_ACCESS_TRACKED
  pub popf_off : WarnsOfAccessAt 8 POPF_WITH_ACCESS_TRACKED → ⊥
  pub indirect_branch : IsWarned accessed one_safe all_asked (at 9) INDIRECT_BRANCH (pos 0) (pos 0)
  pub naked_return : IsWarned accessed one_safe all_asked (at 10) NAKED_RETURN (pos 0) (pos 0)
