use Rattle.std.proofs.Common.{ℕ, List, length, sym, subst}
use Rattle.std.specs.Prelude.{unwrap_or}
use Rattle.elf_objects.specs.Elf.{Elf}
use Rattle.symbols_relocs.specs.Spans.{place_at}
use Rattle.symbols_relocs.specs.declared.function.Function.{Function}
use Rattle.object_points.specs.declared.code_owners.CodeOwner.{CodeOwner}
use Rattle.object_points.specs.CodeOwners.{TellsOwner}
use Rattle.object_points.proofs.ItemSpans.{item_of}
use Rattle.object_points.proofs.code_owners.span_from.Goals as goal

pub returns-clause-tells : goal.returns-clause-tells
returns-clause-tells c = λ place between.
    let o : Elf = c.args.index.now.elf in
    let fs : List Function = c.args.index.now.functions in
    let items : List CodeOwner = c.args.items.now in
    let number : ℕ = unwrap_or c.span_from-span.result.function (length fs) in
    let here : TellsOwner o items (place_at c.args.place.sec place.off) number = item_of o fs items (place_at c.args.place.sec place.off) c.span_from-span.result.function c.requires (c.span_from-span.ensures.function place.off between.from between.to) in
    subst (λ (n : ℕ). TellsOwner o items place n) (sym c.number_of.ensures)
    (subst (λ (sec : ℕ). TellsOwner o items (place_at sec place.off) number) (sym between.section) here)
