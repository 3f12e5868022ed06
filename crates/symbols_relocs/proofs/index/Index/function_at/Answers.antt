use Rattle.std.proofs.Common.{◌≡◌, ℕ, ◌<◌, true, false, List, length, subst}
use Rattle.symbols_relocs.specs.declared.function.Function.{Function}
use Rattle.symbols_relocs.specs.Lists.{function, in_function}
use Rattle.symbols_relocs.proofs.Found.{no_index, an_index, no_function_at, function_here}
use Rattle.symbols_relocs.proofs.index.Index.function_at.Goals as goal

pub returns-in_err-index : goal.returns-in_err-index
returns-in_err-index c =
    let P : List Function → Type 0 = λ fs. (k : ℕ) → k < length fs → in_function (function fs k) c.args.place ≡ false in
    rw (c.from_residual.ensures, ← c.self.view_is)
    (no_index c.self.inside.functions.items _ (no_function_at c.self.inside.object.now c.self.inside.functions.items c.self.invariant.functions c.args.place (subst P c.deref.ensures.value c.in_err-index.ensures)))

pub returns : goal.returns
returns c =
    let i : ℕ = c.in_ok-index.index in
    let P : List Function → Type 0 = λ fs. (i < length fs) × (in_function (function fs i) c.args.place ≡ true) × ((k : ℕ) → i < k → k < length fs → in_function (function fs k) c.args.place ≡ false) in
    let it = subst P c.deref.ensures.value c.in_ok-index.ensures in
    rw (← c.self.view_is)
    (an_index c.self.inside.functions.items i _ it.0 (function_here c.self.inside.object.now c.self.inside.functions.items c.self.invariant.functions c.args.place i it.0 it.1 it.2))
