use Rattle.std.proofs.Common.{◌+◌, length, sym, subst, arith}
use Rattle.elf_objects.specs.Contents.{relocs_at}
use Rattle.jump_tables.proofs.Entering.{rest_ends, rest_more, LeavesRest}
use Rattle.jump_tables.proofs.table.list_entries.Goals as goal

pub returns-in_default : goal.returns-in_default
returns-in_default c =
    rest_ends c.args.code.now.index.now.elf c.args.code.now.texts.now c.args.code.now.sites.now.entries c.args.table c.args.owner c.loop-i.list.items c.loop-i.i (length (relocs_at c.args.code.now.index.now.elf c.args.table.sec)) (omega (arith, c.loop-i-test.true, c.count_relocs-i-end.ensures)) c.loop-i.invariant (sym c.in_default.ensures)

pub loop-i-preserved : goal.loop-i-preserved
loop-i-preserved c =
    let next = rest_more c.args.code.now.index.now.elf c.args.code.now.texts.now c.args.code.now.sites.now.entries c.args.table c.args.owner c.loop-i.list.items c.loop-i.i (length (relocs_at c.args.code.now.index.now.elf c.args.table.sec)) c.in-Some.entry (omega (arith, c.loop-i-test.true, c.count_relocs-i-end.ensures)) c.loop-i.invariant (sym c.in-Some.ensures) in
    subst (λ list. LeavesRest c.args.code.now.index.now.elf c.args.code.now.texts.now c.args.code.now.sites.now.entries c.args.table c.args.owner list (c.loop-i.i + 1) (length (relocs_at c.args.code.now.index.now.elf c.args.table.sec))) (sym c.in_ok-push.ensures.items) next
