-- What holds of the state that a step was chosen to.
use Rattle.std.proofs.Common.{◌≡◌, Option, Some, None, Result, Ok, Err, IfOk, subst}
use Rattle.std.specs.Prelude.{IfSome}

-- what holds of a value that is there
pub at_some : {A : Type 0} (P : A → Type 0) (o : Option A) (x : A) → o ≡ Some x → IfSome o P → P x
at_some P o x e h = subst (λ (p : Option _). IfSome p P) e h

-- a weaker fact of the value of a result, where it has one
pub weaker : {A E : Type 0} (P Q : A → Type 0) → ((x : A) → P x → Q x) → (r : Result (Option A) E) → IfOk r (λ o. IfSome o P) → IfOk r (λ o. IfSome o Q)
weaker P Q f (Ok (Some x)) h = f x h
weaker P Q f (Ok None) h = h
weaker P Q f (Err e) h = h
