use Rattle.std.proofs.Common.{◌≡◌, ℕ, List, Some, None, Bool, if◌then◌else◌, sym, ap, ◌∙◌}
use Rattle.elf_objects.specs.Elf.{Elf}
use Rattle.flow_defs.specs.Coded.{Coded}
use Rattle.symbols_relocs.specs.declared.function.Function.{Function}
use Rattle.symbols_relocs.specs.Lists.{symbol_of}
use Rattle.symbols_relocs.specs.Parts.{owner_of}
use Rattle.flow_defs.specs.Owners.{is_unchecked_owner}
use Rattle.object_points.specs.Unchecked.{is_among}
use Rattle.object_points.proofs.Starts.{no_unchecked, none_starts, start_known, unchecked_is}
use Rattle.object_points.proofs.places.PointPlaces.search_unchecked_start.Goals as goal

pub returns-in_default : goal.returns-in_default
returns-in_default c =
    no_unchecked c.args.self.now.elf c.args.place (none_starts c.args.self.now.elf c.index-index.result.now.elf c.index-index.result.now.functions c.args.place c.starts_at.result (c.index-index.ensures ∙ ap (λ (e : Coded). e.elf) c.self.view_is) c.starts_at.ensures.symbol c.in_default.is)

pub returns-then-is_among : goal.returns-then-is_among
returns-then-is_among c =
    let o : Coded = c.args.self.now in
    let fs : List Function = c.index-index.result.now.functions in
    let same : c.index-index.result.now.elf ≡ o.elf = c.index-index.ensures ∙ ap (λ (e : Coded). e.elf) c.self.view_is in
    let f : ℕ = symbol_of fs c.in-Some.function in
    let owner : c.owner_of.result ≡ owner_of o.elf f = c.owner_of.ensures ∙ ap (λ (e : Elf). owner_of e f) same in
    let among : c.is_among.result ≡ is_unchecked_owner o.elf (owner_of o.elf f) =
    c.is_among.ensures ∙ ap (λ (list : List ℕ). is_among list c.owner_of.result) c.deref.ensures.value ∙ c.self.invariant.unchecked.all c.owner_of.result ∙ ap (λ (e : Coded). is_unchecked_owner e.elf c.owner_of.result) c.self.view_is ∙ ap (is_unchecked_owner o.elf) owner in
    ap (λ (gs : List Function). Some (symbol_of gs c.in-Some.function)) c.functions.ensures.value
    ∙ ap (λ (b : Bool). if b then Some f else None) (sym c.if-is_among.true)
    ∙ unchecked_is o.elf c.args.place f c.is_among.result
    (start_known o.elf c.index-index.result.now.elf fs c.args.place c.starts_at.result c.in-Some.function same c.starts_at.ensures.symbol c.in-Some.is) among

pub returns-else-is_among : goal.returns-else-is_among
returns-else-is_among c =
    let o : Coded = c.args.self.now in
    let fs : List Function = c.index-index.result.now.functions in
    let same : c.index-index.result.now.elf ≡ o.elf = c.index-index.ensures ∙ ap (λ (e : Coded). e.elf) c.self.view_is in
    let f : ℕ = symbol_of fs c.in-Some.function in
    let owner : c.owner_of.result ≡ owner_of o.elf f = c.owner_of.ensures ∙ ap (λ (e : Elf). owner_of e f) same in
    let among : c.is_among.result ≡ is_unchecked_owner o.elf (owner_of o.elf f) =
    c.is_among.ensures ∙ ap (λ (list : List ℕ). is_among list c.owner_of.result) c.deref.ensures.value ∙ c.self.invariant.unchecked.all c.owner_of.result ∙ ap (λ (e : Coded). is_unchecked_owner e.elf c.owner_of.result) c.self.view_is ∙ ap (is_unchecked_owner o.elf) owner in
    ap (λ (b : Bool). if b then Some f else None) (sym c.if-is_among.false)
    ∙ unchecked_is o.elf c.args.place f c.is_among.result
    (start_known o.elf c.index-index.result.now.elf fs c.args.place c.starts_at.result c.in-Some.function same c.starts_at.ensures.symbol c.in-Some.is) among
