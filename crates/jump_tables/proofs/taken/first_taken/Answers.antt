use Rattle.std.proofs.Common.{◌≡◌, ℕ, ◌+◌, ◌-◌, ◌<◌, List, Option, Some, None, sym, ap, arith, ◌∙◌}
use Rattle.std.specs.List.{filter_map, flat_map, range_with_len, slice_get}
use Rattle.ot_base.specs.declared.place.Place.{Place}
use Rattle.elf_objects.specs.declared.symbol.Reloc.{Reloc}
use Rattle.elf_objects.specs.Contents.{relocs_at}
use Rattle.symbols_relocs.specs.Relocs.{at_offset}
use Rattle.flow_defs.specs.TableRegisters.{table_taken}
use Rattle.jump_tables.proofs.Searching.{found_from, later_from, none_from, none_where_not}
use Rattle.jump_tables.proofs.taken.first_taken.Goals as goal

pub loop-off-init : goal.loop-off-init
loop-off-init c =
    let o = c.args.code.now.index.now.elf in
    let len : ℕ = c.args.placed.insn.len in
    let off : ℕ = c.args.placed.off in
    let given : ℕ → List Place = λ at. filter_map (table_taken o c.args.code.now.texts.now c.args.owner (off + len)) (at_offset at (relocs_at o c.args.sec)) in
    ap (λ (n : ℕ). slice_get (flat_map given (range_with_len off n)) 0) {x = len} {y = off + len - off} (omega arith)

pub returns-in-Some : goal.returns-in-Some
returns-in-Some c =
    let o = c.args.code.now.index.now.elf in
    let end : ℕ = c.args.placed.off + c.args.placed.insn.len in
    let taken : Reloc → Option Place = table_taken o c.args.code.now.texts.now c.args.owner end in
    let given : ℕ → List Place = λ at. filter_map taken (at_offset at (relocs_at o c.args.sec)) in
    let here : slice_get (given c.loop-off.off) 0 ≡ Some c.in-Some.table =
    ap (λ (rs : List Reloc). slice_get (filter_map taken rs) 0) (sym c.relocs_at-relocs.ensures)
    ∙ ap (λ n. slice_get (filter_map (table_taken o c.args.code.now.texts.now c.args.owner (c.args.placed.off + n)) c.relocs_at-relocs.result.now) 0) {x = c.args.placed.insn.len} {y = c.from.result} (omega arith)
    ∙ sym c.in-Some.ensures in
    sym (c.loop-off.invariant ∙ found_from given c.loop-off.off end c.in-Some.table (omega (arith, c.loop-off-test.true)) here)

pub loop-off-preserved : goal.loop-off-preserved
loop-off-preserved c =
    let o = c.args.code.now.index.now.elf in
    let end : ℕ = c.args.placed.off + c.args.placed.insn.len in
    let taken : Reloc → Option Place = table_taken o c.args.code.now.texts.now c.args.owner end in
    let given : ℕ → List Place = λ at. filter_map taken (at_offset at (relocs_at o c.args.sec)) in
    let fails : slice_get (given c.loop-off.off) 0 ≡ None =
    ap (λ (rs : List Reloc). slice_get (filter_map taken rs) 0) (sym c.relocs_at-relocs.ensures)
    ∙ ap (λ n. slice_get (filter_map (table_taken o c.args.code.now.texts.now c.args.owner (c.args.placed.off + n)) c.relocs_at-relocs.result.now) 0) {x = c.args.placed.insn.len} {y = c.from.result} (omega arith)
    ∙ sym c.first_by.ensures
    ∙ none_where_not c.first_by.result c.in_default.not-Some in
    c.loop-off.invariant ∙ later_from given c.loop-off.off end (omega (arith, c.loop-off-test.true)) fails

pub returns : goal.returns
returns c =
    let o = c.args.code.now.index.now.elf in
    let end : ℕ = c.args.placed.off + c.args.placed.insn.len in
    let given : ℕ → List Place = λ at. filter_map (table_taken o c.args.code.now.texts.now c.args.owner end) (at_offset at (relocs_at o c.args.sec)) in
    sym (c.loop-off.invariant ∙ none_from given c.loop-off.off end (omega (arith, c.loop-off-test.false)))
