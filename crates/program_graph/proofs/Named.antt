-- What points name by numbers.
use Rattle.std.proofs.Common.{◌≡◌, ◌<◌, ℕ, List, Some, length, get_or, slice_get, ap, ◌∙◌, sym}
use Rattle.std.proofs.lemmas.Option.{slice_get-get_or}

-- what stands at a number of the list is what each has that stands at a number which is the same
pub stands_so : {A : Type 0} (all : List A) (number usual : ℕ) (one : A) → number < length all → number ≡ usual → ((x : A) → slice_get all usual ≡ Some x → x ≡ one) → slice_get all number ≡ Some one
stands_so all number usual one inside same each =
    let at = slice_get-get_or all number one inside in
    at ∙ ap Some (each (get_or all number one) (ap (slice_get all) (sym same) ∙ at))
