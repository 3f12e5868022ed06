use Rattle.std.proofs.Common.{◌≡◌, sym, subst}
use Rattle.std.proofs.lemmas.Result.{IfOk-weaker}
use Rattle.elf_objects.specs.Elf.{Elf}
use Rattle.elf_write.specs.SymbolObject.{CanInsert}
use Rattle.elf_write.specs.Taken.{AreFree}
use Rattle.elf_write.specs.Object.{appended_to}
use Rattle.site_lists.specs.SiteOutput.{CanHaveLists, site_sections}
use Rattle.site_lists.specs.Tables.{HasSites}
use Rattle.site_lists.specs.Listed.{listed}
use Rattle.site_lists.proofs.Insertable.{all_free, can_insert}
use Rattle.orc_output.proofs.Inserted.{nothing_needed, read_is}
use Rattle.site_lists.proofs.Written.{can_have_lists, has_sites}
use Rattle.site_lists.proofs.tables.write_sites.Goals as goal

pub with_lists-requires : goal.with_lists-requires
with_lists-requires c =
    let o : Elf = c.args.object.now in
    subst (λ (x : Elf). CanHaveLists x (listed c.args.lists.now)) (sym (nothing_needed o c.args.secs.now _ c.if-is_empty.ensures c.requires.needed)) (can_have_lists o (listed c.args.lists.now) c.requires.fit)

pub returns-then-is_empty : goal.returns-then-is_empty
returns-then-is_empty c =
    let o : Elf = c.args.object.now in
    IfOk-weaker c.with_lists.result (λ file. file.items ≡ appended_to o (site_sections o (listed c.args.lists.now))) (λ file. HasSites o (listed c.args.lists.now) file.items)
    (λ file e. has_sites o (listed c.args.lists.now) o.bytes o file.items c.requires.fit c.requires.fit.object (nothing_needed o c.args.secs.now _ c.if-is_empty.ensures c.requires.needed) e)
    c.with_lists.ensures.layout

pub insert_symbols-requires-clause-can : goal.insert_symbols-requires-clause-can
insert_symbols-requires-clause-can c =
    let fit = c.requires.fit in
    subst (CanInsert c.args.object.now) (sym c.requires.needed) (can_insert c.args.object.now (listed c.args.lists.now) fit.object fit.can fit.few)

pub insert_symbols-requires-clause-free : goal.insert_symbols-requires-clause-free
insert_symbols-requires-clause-free c = subst (AreFree c.args.object.now) (sym c.requires.needed) (all_free c.args.object.now (listed c.args.lists.now))

pub with_lists-requires-2 : goal.with_lists-requires-2
with_lists-requires-2 c =
    let o : Elf = c.args.object.now in
    let is = read_is o _ c.args.secs.now c.in_ok-file.file.items c.deref.result.now c.in_ok-named.named c.requires.needed c.in_ok-file.ensures.object c.deref.ensures.value c.in_ok-named.ensures in
    subst (λ (x : Elf). CanHaveLists x (listed c.args.lists.now)) (sym is) (can_have_lists o (listed c.args.lists.now) c.requires.fit)

pub returns : goal.returns
returns c =
    let o : Elf = c.args.object.now in
    let is = read_is o _ c.args.secs.now c.in_ok-file.file.items c.deref.result.now c.in_ok-named.named c.requires.needed c.in_ok-file.ensures.object c.deref.ensures.value c.in_ok-named.ensures in
    IfOk-weaker c.with_lists-2.result (λ file. file.items ≡ appended_to c.in_ok-named.named (site_sections c.in_ok-named.named (listed c.args.lists.now))) (λ file. HasSites o (listed c.args.lists.now) file.items)
    (λ file e. has_sites o (listed c.args.lists.now) c.deref.result.now c.in_ok-named.named file.items c.requires.fit c.in_ok-named.ensures is e)
    c.with_lists-2.ensures.layout
