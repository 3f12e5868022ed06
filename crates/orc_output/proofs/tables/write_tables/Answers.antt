use Rattle.std.proofs.Common.{◌≡◌, sym, subst}
use Rattle.std.proofs.lemmas.Result.{IfOk-weaker}
use Rattle.elf_objects.specs.Elf.{Elf}
use Rattle.elf_write.specs.SymbolObject.{CanInsert}
use Rattle.elf_write.specs.Taken.{AreFree}
use Rattle.elf_write.specs.Object.{appended_to}
use Rattle.orc_output.specs.OrcOutput.{CanHaveOrc, orc_sections}
use Rattle.orc_output.specs.Tables.{HasTables}
use Rattle.orc_output.proofs.Insertable.{all_free, can_insert}
use Rattle.orc_output.proofs.Inserted.{nothing_needed, read_is}
use Rattle.orc_output.proofs.Written.{can_have_orc, has_room, has_tables}
use Rattle.orc_output.proofs.tables.write_tables.Goals as goal

pub with_orc-requires : goal.with_orc-requires
with_orc-requires c =
    let o : Elf = c.args.object.now in
    subst (λ (x : Elf). CanHaveOrc x c.args.rows.now) (sym (nothing_needed o c.args.secs.now _ c.if-is_empty.ensures c.requires.needed)) (can_have_orc o c.args.rows.now c.requires.fit)

pub returns-then-is_empty : goal.returns-then-is_empty
returns-then-is_empty c =
    let o : Elf = c.args.object.now in
    IfOk-weaker c.with_orc.result (λ file. file.items ≡ appended_to o (orc_sections o c.args.rows.now)) (λ file. HasTables o c.args.rows.now file.items)
    (λ file e. has_tables o c.args.rows.now o.bytes o file.items c.requires.fit c.requires.fit.object (nothing_needed o c.args.secs.now _ c.if-is_empty.ensures c.requires.needed) e)
    c.with_orc.ensures.layout

pub insert_symbols-requires-clause-can : goal.insert_symbols-requires-clause-can
insert_symbols-requires-clause-can c =
    subst (CanInsert c.args.object.now) (sym c.requires.needed) (can_insert c.args.object.now c.args.rows.now (has_room c.args.object.now c.args.rows.now c.requires.fit))

pub insert_symbols-requires-clause-free : goal.insert_symbols-requires-clause-free
insert_symbols-requires-clause-free c = subst (AreFree c.args.object.now) (sym c.requires.needed) (all_free c.args.object.now c.args.rows.now)

pub with_orc-requires-2 : goal.with_orc-requires-2
with_orc-requires-2 c =
    let o : Elf = c.args.object.now in
    let is = read_is o _ c.args.secs.now c.in_ok-file.file.items c.deref.result.now c.in_ok-named.named c.requires.needed c.in_ok-file.ensures.object c.deref.ensures.value c.in_ok-named.ensures in
    subst (λ (x : Elf). CanHaveOrc x c.args.rows.now) (sym is) (can_have_orc o c.args.rows.now c.requires.fit)

pub returns : goal.returns
returns c =
    let o : Elf = c.args.object.now in
    let is = read_is o _ c.args.secs.now c.in_ok-file.file.items c.deref.result.now c.in_ok-named.named c.requires.needed c.in_ok-file.ensures.object c.deref.ensures.value c.in_ok-named.ensures in
    IfOk-weaker c.with_orc-2.result (λ file. file.items ≡ appended_to c.in_ok-named.named (orc_sections c.in_ok-named.named c.args.rows.now)) (λ file. HasTables o c.args.rows.now file.items)
    (λ file e. has_tables o c.args.rows.now c.deref.result.now c.in_ok-named.named file.items c.requires.fit c.in_ok-named.ensures is e)
    c.with_orc-2.ensures.layout
