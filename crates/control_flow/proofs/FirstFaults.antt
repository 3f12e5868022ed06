-- The first of some faults.
use Rattle.std.proofs.Common.{◌≡◌, ℕ, ◌+◌, Bool, true, false, cond, List, [], ◌∷◌, ◌++◌, find, Some, None, refl}
use Rattle.std.specs.Prelude.{filter_map, option_map, slice_get, if◌then◌else◌}
use Rattle.std.specs.List.{cons_option, enumerate_from, position_from}
use Rattle.flow_defs.specs.declared.fault.FlowFault.{FlowFault}
use Rattle.flow_defs.specs.Faults.{faults_of_list}

listed_from : {A : Type 0} (p : A → Bool) (fault : ℕ → FlowFault) (i : ℕ) (xs : List A) → slice_get (filter_map (λ e. if p e.1 then Some (fault e.0) else None) (enumerate_from i xs)) 0 ≡ option_map fault (position_from p i xs)
listed_from p fault i [] = refl
listed_from p fault i (x ∷ xs) =
    elim (p x) as (λ b. slice_get (cons_option (cond b (Some (fault i)) None) (filter_map (λ e. if p e.1 then Some (fault e.0) else None) (enumerate_from (i + 1) xs))) 0 ≡ option_map fault (cond b (Some i) (position_from p (i + 1) xs))) [
      | true ↦ refl
      | false ↦ listed_from p fault (i + 1) xs
    ]

-- of those of a list, the one of the first entry that is refused
pub first_listed : {A : Type 0} (p : A → Bool) (fault : ℕ → FlowFault) (xs : List A) → slice_get (faults_of_list p fault xs) 0 ≡ option_map fault (position_from p 0 xs)
first_listed p fault xs = listed_from p fault 0 xs

pub first_made : {X : Type 0} (p : X → Bool) (fault : X → FlowFault) (xs : List X) → slice_get (filter_map (λ x. if p x then Some (fault x) else None) xs) 0 ≡ option_map fault (find p xs)
first_made p fault [] = refl
first_made p fault (x ∷ xs) =
    elim (p x) as (λ b. slice_get (cons_option (cond b (Some (fault x)) None) (filter_map (λ y. if p y then Some (fault y) else None) xs)) 0 ≡ option_map fault (cond b (Some x) (find p xs))) [
      | true ↦ refl
      | false ↦ first_made p fault xs
    ]

-- the first of two lists together
pub first_here : (xs ys : List FlowFault) (x : FlowFault) → slice_get xs 0 ≡ Some x → slice_get (xs ++ ys) 0 ≡ Some x
first_here [] ys x first = cc
first_here (y ∷ xs) ys x first = first

pub first_later : (xs ys : List FlowFault) → slice_get xs 0 ≡ None → slice_get (xs ++ ys) 0 ≡ slice_get ys 0
first_later [] ys none = refl
first_later (x ∷ xs) ys none = cc

pub no_first : (xs : List FlowFault) → slice_get xs 0 ≡ None → xs ≡ []
no_first [] none = refl
no_first (x ∷ xs) none = cc
