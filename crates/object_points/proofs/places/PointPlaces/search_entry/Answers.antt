use Rattle.std.proofs.Common.{◌≡◌, ℕ, List, ap, ◌∙◌}
use Rattle.std.specs.Prelude.{is_some}
use Rattle.elf_objects.specs.Elf.{Elf}
use Rattle.flow_defs.specs.Coded.{Coded}
use Rattle.symbols_relocs.specs.declared.function.Function.{Function}
use Rattle.symbols_relocs.specs.Lists.{symbol_of}
use Rattle.symbols_relocs.specs.Parts.{parent_of}
use Rattle.flow_defs.specs.Owners.{is_unchecked_owner}
use Rattle.object_points.specs.Unchecked.{is_among}
use Rattle.object_points.proofs.Starts.{checked_entry, no_entry, none_starts, part_no_entry, start_known}
use Rattle.object_points.proofs.places.PointPlaces.search_entry.Goals as goal

pub returns-in_default : goal.returns-in_default
returns-in_default c =
    no_entry c.args.self.now.elf c.args.place (none_starts c.args.self.now.elf c.index-index.result.now.elf c.index-index.result.now.functions c.args.place c.starts_at.result (c.index-index.ensures ∙ ap (λ (e : Coded). e.elf) c.self.view_is) c.starts_at.ensures.symbol c.in_default.is)

pub returns-then-is_part : goal.returns-then-is_part
returns-then-is_part c =
    let o : Coded = c.args.self.now in
    let fs : List Function = c.index-index.result.now.functions in
    let same : c.index-index.result.now.elf ≡ o.elf = c.index-index.ensures ∙ ap (λ (e : Coded). e.elf) c.self.view_is in
    let f : ℕ = symbol_of fs c.in-Some.function in
    part_no_entry o.elf c.args.place f c.is_part.result
    (start_known o.elf c.index-index.result.now.elf fs c.args.place c.starts_at.result c.in-Some.function same c.starts_at.ensures.symbol c.in-Some.is)
    (c.is_part.ensures ∙ ap (λ (e : Elf). is_some (parent_of e f)) same) c.if-is_part.true

pub returns : goal.returns
returns c =
    let o : Coded = c.args.self.now in
    let fs : List Function = c.index-index.result.now.functions in
    let same : c.index-index.result.now.elf ≡ o.elf = c.index-index.ensures ∙ ap (λ (e : Coded). e.elf) c.self.view_is in
    let f : ℕ = symbol_of fs c.in-Some.function in
    let read : symbol_of c.functions.result.now c.in-Some.function ≡ f = ap (λ (gs : List Function). symbol_of gs c.in-Some.function) c.functions.ensures.value in
    checked_entry o.elf c.args.place f c.is_part.result c.is_among.result
    (start_known o.elf c.index-index.result.now.elf fs c.args.place c.starts_at.result c.in-Some.function same c.starts_at.ensures.symbol c.in-Some.is)
    (c.is_part.ensures ∙ ap (λ (e : Elf). is_some (parent_of e f)) same) c.if-is_part.false
    (c.is_among.ensures ∙ ap (λ (list : List ℕ). is_among list (symbol_of c.functions.result.now c.in-Some.function)) c.deref.ensures.value ∙ ap (is_among c.self.inside.unchecked.items) read ∙ c.self.invariant.unchecked.all f ∙ ap (λ (e : Coded). is_unchecked_owner e.elf f) c.self.view_is)
