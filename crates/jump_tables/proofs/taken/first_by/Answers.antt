use Rattle.std.proofs.Common.{◌≡◌, ℕ, List, Option, None, get_or, sym, pos, arith, ◌∙◌}
use Rattle.ot_base.specs.declared.place.Place.{Place}
use Rattle.elf_objects.specs.declared.symbol.Reloc.{Reloc}
use Rattle.flow_defs.specs.TableRegisters.{table_taken}
use Rattle.jump_tables.proofs.Searching.{kept_here, kept_later, kept_nowhere, none_where_not}
use Rattle.jump_tables.proofs.taken.first_by.Goals as goal

abbrev none : Reloc
none = record { offset = 0; kind = 0; sym = 0; addend = pos 0 }

pub returns-in-Some : goal.returns-in-Some
returns-in-Some c =
    let taken : Reloc → Option Place = table_taken c.args.index.now.elf c.args.texts.now c.args.owner c.args.end in
    let relocs : List Reloc = c.args.relocs.now in
    sym (c.loop-reloc.invariant ∙ kept_here taken relocs c.loop-reloc.reloc-index none c.in-Some.table c.loop-reloc-test.true (sym c.in-Some.ensures))

pub loop-reloc-preserved : goal.loop-reloc-preserved
loop-reloc-preserved c =
    let taken : Reloc → Option Place = table_taken c.args.index.now.elf c.args.texts.now c.args.owner c.args.end in
    let relocs : List Reloc = c.args.relocs.now in
    let fails : taken (get_or relocs c.loop-reloc.reloc-index none) ≡ None = sym c.table_taken.ensures ∙ none_where_not c.table_taken.result c.in_default.not-Some in
    c.loop-reloc.invariant ∙ kept_later taken relocs c.loop-reloc.reloc-index none c.loop-reloc-test.true fails

pub returns : goal.returns
returns c =
    let taken : Reloc → Option Place = table_taken c.args.index.now.elf c.args.texts.now c.args.owner c.args.end in
    sym (c.loop-reloc.invariant ∙ kept_nowhere taken c.args.relocs.now c.loop-reloc.reloc-index (omega (arith, c.loop-reloc-test.false)))
