use Rattle.std.proofs.Common.{ℕ, List, Some, None, get_or, sym, ap, subst, ◌∙◌}
use Rattle.ot_base.specs.declared.place.Place.{Place}
use Rattle.jump_tables.specs.declared.table.Table.{Table}
use Rattle.jump_tables.specs.Kept.{kept_for, of_start, of_table, table_at, AreByPlace, IsFirstOf, KeptTables}
use Rattle.jump_tables.proofs.Order.{is_same, no_place}
use Rattle.jump_tables.proofs.Starting.{by_place}
use Rattle.jump_tables.proofs.Whole.{table_found, table_missing}
use Rattle.jump_tables.proofs.tables.JumpTables.of.Goals as goal

pub find_first-requires : goal.find_first-requires
find_first-requires c = subst AreByPlace (sym c.deref.ensures.value) (by_place c.self.inside.starts.items c.self.invariant.rising)

pub returns-in_default-find_first : goal.returns-in_default-find_first
returns-in_default-find_first c =
    let starts : List Place = c.self.inside.starts.items in
    let tables : List Table = c.self.inside.tables.items in
    let start : Place = c.in-Some.start in
    let own : KeptTables = c.args.self.now in
    let first : IsFirstOf starts start c.find_first.result = subst (λ places. IsFirstOf places start c.find_first.result) c.deref.ensures.value c.find_first.ensures in
    let none : IsFirstOf starts start None = subst (IsFirstOf starts start) c.in_default-find_first.is first in
    sym
    (ap (of_start own.starts own.tables c.args.owner) (sym c.in-Some.ensures)
    ∙ ap (λ (k : KeptTables). of_table c.args.owner (table_at k.starts k.tables start)) (sym c.self.view_is)
    ∙ ap (of_table c.args.owner) (table_missing starts tables start no_place (λ k inside. none k no_place inside)))

pub returns : goal.returns
returns c =
    let starts : List Place = c.self.inside.starts.items in
    let tables : List Table = c.self.inside.tables.items in
    let start : Place = c.in-Some.start in
    let own : KeptTables = c.args.self.now in
    let at : ℕ = c.in-Some-find_first.at in
    let first : IsFirstOf starts start c.find_first.result = subst (λ places. IsFirstOf places start c.find_first.result) c.deref.ensures.value c.find_first.ensures in
    let some : IsFirstOf starts start (Some at) = subst (IsFirstOf starts start) c.in-Some-find_first.is first in
    c.entries_for.ensures
    ∙ ap (λ t. kept_for t c.args.owner) c.index.ensures
    ∙ sym
    (ap (of_start own.starts own.tables c.args.owner) (sym c.in-Some.ensures)
    ∙ ap (λ (k : KeptTables). of_table c.args.owner (table_at k.starts k.tables start)) (sym c.self.view_is)
    ∙ ap (of_table c.args.owner) (table_found starts tables start no_place at c.index.result.now c.self.invariant.len some.0 (is_same start (get_or starts at no_place) (some.1 no_place)) (λ k lower. some.2 k no_place lower)))
