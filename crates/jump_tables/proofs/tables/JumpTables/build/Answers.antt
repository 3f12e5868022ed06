use Rattle.std.proofs.Common.{List, map, sym, ap, subst, ◌∙◌}
use Rattle.std.specs.List.{list_any}
use Rattle.ot_base.specs.declared.place.Place.{Place}
use Rattle.ot_base.specs.Places.{same_place}
use Rattle.jump_tables.specs.declared.jump.Jump.{Jump}
use Rattle.jump_tables.specs.Kept.{AreByPlace, AreStarts, AreTables}
use Rattle.jump_tables.proofs.Starting.{by_place}
use Rattle.jump_tables.proofs.Whole.{start_kept, starts_are, whole}
use Rattle.jump_tables.proofs.tables.JumpTables.build.Goals as goal

pub list_tables-requires-clause-sorted : goal.list_tables-requires-clause-sorted
list_tables-requires-clause-sorted c = subst AreByPlace (sym c.deref-2.ensures.value) (by_place c.in_ok-starts.starts.items c.in_ok-starts.ensures.rising)

pub list_tables-requires-clause-all : goal.list_tables-requires-clause-all
list_tables-requires-clause-all c =
    let jumps : List Jump = c.in_ok-jumps.jumps.items in
    subst (AreStarts c.args.index.now.elf c.args.texts.now c.args.sites.now.entries) (sym c.deref-2.ensures.value)
    (starts_are c.args.index.now.elf c.args.texts.now c.args.sites.now.entries jumps c.in_ok-starts.starts.items c.in_ok-jumps.ensures.all
    (λ place. c.in_ok-starts.ensures.all place ∙ ap (λ js. list_any (same_place place) (map (λ (j : Jump). j.table) js)) c.deref.ensures.value))

pub returns-clause-tables : goal.returns-clause-tables
returns-clause-tables c =
    let jumps : List Jump = c.in_ok-jumps.jumps.items in
    let starts : List Place = c.in_ok-starts.starts.items in
    let all = starts_are c.args.index.now.elf c.args.texts.now c.args.sites.now.entries jumps starts c.in_ok-jumps.ensures.all
    (λ place. c.in_ok-starts.ensures.all place ∙ ap (λ js. list_any (same_place place) (map (λ (j : Jump). j.table) js)) c.deref.ensures.value) in
    let are = subst (λ places. AreTables c.args.index.now.elf c.args.texts.now c.args.sites.now.entries places c.in_ok-tables.tables.items) c.deref-2.ensures.value c.in_ok-tables.ensures in
    whole c.args.index.now.elf c.args.texts.now c.args.sites.now.entries jumps c.sort_jumps.new.jumps.items starts c.in_ok-tables.tables.items
    c.requires c.in_ok-jumps.ensures.ascending c.in_ok-jumps.ensures.all c.in_ok-sort_jumps.ensures.same all are

pub returns-clause-starts : goal.returns-clause-starts
returns-clause-starts c =
    start_kept c.args.index.now.elf c.args.texts.now c.args.sites.now.entries c.in_ok-jumps.jumps.items c.sort_jumps.new.jumps.items
    c.requires c.in_ok-jumps.ensures.ascending c.in_ok-jumps.ensures.all c.in_ok-sort_jumps.ensures.same
