use Rattle.std.proofs.Common.{◌≡◌, ◌≤◌, List, ℕ, Some, length, slice_range, ap, sym, subst, ◌∙◌, arith}
use Rattle.text_numbers.specs.Ends.{end_from}
use Rattle.elf_objects.specs.Contents.{symbol_at}
use Rattle.symbols_relocs.specs.Names.{strings, AreRuns}
use Rattle.symbols_relocs.specs.Parts.{part_name}
use Rattle.symbols_relocs.proofs.NamePlaces.{name_range}
use Rattle.symbols_relocs.proofs.names.number_stem.Goals as goal

pub returns-in_ok-number-in-Some-clause-number : goal.returns-in_ok-number-in-Some-clause-number
returns-in_ok-number-in-Some-clause-number c =
    let table : List ℕ = strings c.args.object.now in
    let start : ℕ = c.name_start-start.result in
    let end : ℕ = c.end_of-end.result in
    let stem : ℕ = c.in-Some.end in
    let name : List ℕ = (symbol_at c.args.object.now c.args.k).name in
    let is : slice_range table start end ≡ name = name_range table start end name (c.end_of-end.ensures.value ∙ ap (λ t. end_from t start) c.requires.ends) c.name_start-start.ensures.name in
    let lent : c.table.result.now ≡ table = c.table.ensures.value ∙ c.requires.ends in
    let part : part_name name ≡ Some (slice_range table start stem) =
    ap part_name (sym is ∙ ap (λ t. slice_range t start end) (sym lent)) ∙ sym c.in-Some.ensures.stem ∙ ap (λ t. Some (slice_range t start stem)) lent in
    (slice_range table start stem, part, c.in_ok-number-in-Some.ensures.number ∙ ap (λ t. Some (slice_range t start stem)) c.requires.table)

pub returns-in-None-clause-number : goal.returns-in-None-clause-number
returns-in-None-clause-number c =
    let table : List ℕ = strings c.args.object.now in
    let start : ℕ = c.name_start-start.result in
    let end : ℕ = c.end_of-end.result in
    let name : List ℕ = (symbol_at c.args.object.now c.args.k).name in
    let is : slice_range table start end ≡ name = name_range table start end name (c.end_of-end.ensures.value ∙ ap (λ t. end_from t start) c.requires.ends) c.name_start-start.ensures.name in
    let lent : c.table.result.now ≡ table = c.table.ensures.value ∙ c.requires.ends in
    ap part_name (sym is ∙ ap (λ t. slice_range t start end) (sym lent)) ∙ sym c.in-None.ensures.stem

pub stem_end-requires-clause-runs : goal.stem_end-requires-clause-runs
stem_end-requires-clause-runs c =
    subst (λ (t : List ℕ). AreRuns t c.args.runs.now.items) (sym (c.table.ensures.value ∙ c.requires.ends)) c.requires.runs

pub stem_end-requires-clause-inside : goal.stem_end-requires-clause-inside
stem_end-requires-clause-inside c = subst (λ (t : List ℕ). c.end_of-end.result ≤ length t) (sym c.table.ensures.value) c.end_of-end.ensures.within

pub number-requires-clause-order : goal.number-requires-clause-order
number-requires-clause-order c = c.in-Some.ensures.from

pub number-requires-clause-inside : goal.number-requires-clause-inside
number-requires-clause-inside c =
    let within = subst (λ (t : List ℕ). c.end_of-end.result ≤ length t) (c.requires.ends ∙ sym c.requires.table) c.end_of-end.ensures.within in
    omega (arith, within, c.in-Some.ensures.to)

pub returns-in_err-number-in-Some-clause-runs : goal.returns-in_err-number-in-Some-clause-runs
returns-in_err-number-in-Some-clause-runs c = subst (λ (t : List ℕ). AreRuns t c.stem_end.new.runs.items) (c.table.ensures.value ∙ c.requires.ends) c.stem_end.ensures.runs

pub returns-in_ok-number-in-Some-clause-runs : goal.returns-in_ok-number-in-Some-clause-runs
returns-in_ok-number-in-Some-clause-runs c = subst (λ (t : List ℕ). AreRuns t c.stem_end.new.runs.items) (c.table.ensures.value ∙ c.requires.ends) c.stem_end.ensures.runs

pub returns-in-None-clause-runs : goal.returns-in-None-clause-runs
returns-in-None-clause-runs c = subst (λ (t : List ℕ). AreRuns t c.stem_end.new.runs.items) (c.table.ensures.value ∙ c.requires.ends) c.stem_end.ensures.runs
