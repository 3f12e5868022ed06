use Rattle.std.proofs.Common.{List, subst}
use Rattle.ot_base.specs.declared.place.Place.{Place}
use Rattle.symbols_relocs.specs.declared.function.Function.{Function}
use Rattle.symbols_relocs.specs.Spans.{place_at, IsHolderOf}
use Rattle.symbols_relocs.proofs.Spans.{holder_is}
use Rattle.symbols_relocs.proofs.index.Index.span_from.Goals as goal

pub returns-clause-function : goal.returns-clause-function
returns-clause-function c = λ off from to.
    let place : Place = place_at c.args.place.sec off in
    rw (← c.self.view_is)
    (holder_is c.self.inside.object.now c.self.inside.functions.items c.self.invariant.functions place c.find_span.result.function
    (subst (λ (fs : List Function). IsHolderOf fs place c.find_span.result.function) c.deref.ensures.value (c.find_span.ensures.holder off from to)))
