-- The order of states: by their variants and fields as they are declared, None before Some.
use Rattle.std.specs.Prelude.{Bool, true, false, List, [], ◌∷◌, Option, Some, None, if◌then◌else◌, ℤ, pos, int_lt}
use Rattle.state_defs.specs.declared.state.Depth.{Depth}
use Rattle.state_defs.specs.declared.state.Depth.TheVariants.{Known, AtLeast}
use Rattle.state_defs.specs.declared.state.BpHome.{BpHome}
use Rattle.state_defs.specs.declared.state.BpHome.TheVariants.{Same, Saved}
use Rattle.state_defs.specs.declared.state.EndKind.TheVariants.{Undefined, EndOfStack}
use Rattle.state_defs.specs.declared.state.State.{State}
use Rattle.state_defs.specs.declared.state.State.TheVariants.{Live, Ended, Regs}

-- A state as the list of its parts: for each part the place of its variant, and its number.
abbrev pub depth_key : Depth → List ℤ
depth_key (Known n) = pos 0 ∷ n ∷ []
depth_key (AtLeast n) = pos 1 ∷ n ∷ []

abbrev pub fp_key : Option ℤ → List ℤ
fp_key None = pos 0 ∷ pos 0 ∷ []
fp_key (Some m) = pos 1 ∷ m ∷ []

abbrev pub home_key : BpHome → List ℤ
home_key Same = pos 0 ∷ pos 0 ∷ []
home_key (Saved o) = pos 1 ∷ o ∷ []

abbrev pub joined : List ℤ → List ℤ → List ℤ
joined [] ys = ys
joined (x ∷ xs) ys = x ∷ joined xs ys

abbrev pub state_key : State → List ℤ
state_key (Live depth fp bp) = pos 0 ∷ joined (depth_key depth) (joined (fp_key fp) (home_key bp))
state_key (Ended Undefined) = pos 1 ∷ pos 0 ∷ []
state_key (Ended EndOfStack) = pos 1 ∷ pos 1 ∷ []
state_key (Regs full depth) = pos 2 ∷ (if full then pos 1 else pos 0) ∷ depth ∷ []

-- whether a list of numbers comes before another: at the first place where they differ
abbrev pub key_before : List ℤ → List ℤ → Bool
key_before [] [] = false
key_before [] (y ∷ ys) = true
key_before (x ∷ xs) [] = false
key_before (x ∷ xs) (y ∷ ys) = if int_lt x y then true else (if int_lt y x then false else key_before xs ys)

-- whether a state comes before another
abbrev pub comes_before : State → State → Bool
comes_before one other = key_before (state_key one) (state_key other)

-- the lesser of two states
abbrev pub lesser : State → State → State
lesser one other = if comes_before other one then other else one

-- the least of a list of states, where there is one
abbrev pub least_with : State → List State → State
least_with best [] = best
least_with best (s ∷ states) = least_with (lesser best s) states

abbrev pub least : List State → Option State
least [] = None
least (s ∷ states) = Some (least_with s states)
