use Rattle.std.proofs.Common.{◌<◌, ◌++◌, [], ◌∷◌, length, take, ap, sym, ◌∙◌, arith}
use Rattle.std.proofs.lemmas.List.{take_more}
use Rattle.std.proofs.lemmas.Option.{get_or_from_slice_get}
use Rattle.elf_objects.specs.declared.symbol.Reloc.{Reloc}
use Rattle.elf_objects.specs.Contents.{relocs_at}
use Rattle.symbols_relocs.proofs.reloc_index.list_relocs.Goals as goal

pub loop-i-preserved : goal.loop-i-preserved
loop-i-preserved c =
    let relocs = relocs_at c.args.object.now c.args.sec in
    let r : Reloc = c.reloc.result in
    let inside : c.loop-i.i < length relocs = omega (arith, c.relocs-count.ensures, c.loop-i-test.true) in
    c.in_ok-push.ensures.items
    ∙ ap (λ rs. rs ++ r ∷ []) c.loop-i.invariant
    ∙ ap (λ x. take c.loop-i.i relocs ++ x ∷ []) (sym (get_or_from_slice_get relocs c.loop-i.i r r c.reloc.ensures))
    ∙ sym (take_more relocs c.loop-i.i r inside)
