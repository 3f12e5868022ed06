use Rattle.std.proofs.Common.{◌≡◌, ℕ, ◌<◌, false, List, length, subst}
use Rattle.ot_base.specs.Places.{same_place}
use Rattle.symbols_relocs.specs.declared.function.Function.{Function}
use Rattle.symbols_relocs.specs.Lists.{function}
use Rattle.symbols_relocs.proofs.Found.{no_index, starts_nowhere}
use Rattle.symbols_relocs.proofs.index.Index.starts_at.Goals as goal

pub returns-in_err-index : goal.returns-in_err-index
returns-in_err-index c =
    let P : List Function → Type 0 = λ fs. (k : ℕ) → k < length fs → same_place (function fs k).start c.args.place ≡ false in
    rw (c.from_residual.ensures, ← c.self.view_is)
    (no_index c.self.inside.functions.items _ (starts_nowhere c.self.inside.object.now c.self.inside.functions.items c.self.invariant.functions c.args.place (subst P c.deref.ensures.value c.in_err-index.ensures)))
