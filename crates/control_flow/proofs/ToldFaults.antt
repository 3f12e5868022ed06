-- The fault of a list, by the first entry that is refused.
use Rattle.std.proofs.Common.{◌≡◌, ℕ, ◌+◌, ◌^◌, ◌<◌, Bool, true, false, cond, List, [], ◌∷◌, length, Option, Some, sym, ap, ◌∙◌, arith}
use Rattle.std.specs.Prelude.{option_map, slice_get}
use Rattle.std.specs.List.{position_from}
use Rattle.flow_defs.specs.declared.fault.FlowFault.{FlowFault}
use Rattle.flow_defs.specs.Faults.{faults_of_list}
use Rattle.control_flow.proofs.FirstFaults.{first_listed}

-- what is looked for in a list that is the object's
pub told : {A : Type 0} (p : A → Bool) (fault : ℕ → FlowFault) (xs ys : List A) (found known : Option ℕ) → found ≡ position_from p 0 ys → found ≡ known → ys ≡ xs → slice_get (faults_of_list p fault xs) 0 ≡ option_map fault known
told p fault xs ys found known is here same =
    first_listed p fault xs
    ∙ ap (λ zs. option_map fault (position_from p 0 zs)) (sym same)
    ∙ ap (option_map fault) (sym is ∙ here)

below_step : {A : Type 0} (p : A → Bool) (x : A) (xs : List A) (i n : ℕ) (b : Bool) → cond b (Some i) (position_from p (i + 1) xs) ≡ Some n → (position_from p (i + 1) xs ≡ Some n → n < i + 1 + length xs) → n < i + length (x ∷ xs)
below_step p x xs i n true is later = let same : i ≡ n = cc in omega arith
below_step p x xs i n false is later = let rest : n < i + 1 + length xs = later is in omega arith

below_end : {A : Type 0} (p : A → Bool) (i : ℕ) (xs : List A) (n : ℕ) → position_from p i xs ≡ Some n → n < i + length xs
below_end p i [] n is = absurd (let bad : ⊥ = cc in bad)
below_end p i (x ∷ xs) n is = below_step p x xs i n (p x) is (below_end p (i + 1) xs n)

-- its number has 32 bits
pub number_fits : {A : Type 0} (p : A → Bool) (xs ys : List A) (found : Option ℕ) (n : ℕ) → found ≡ position_from p 0 ys → found ≡ Some n → ys ≡ xs → length xs < 2 ^ 32 → n < 2 ^ 32
number_fits p xs ys found n is some same few =
    let inside : n < 0 + length ys = below_end p 0 ys n (sym is ∙ some) in
    omega (arith, inside, ap length same, few)
