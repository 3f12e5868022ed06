use Rattle.std.proofs.Common.{◌≡◌, ℕ, ◌+◌, ◌<◌, List, [], ◌∷◌, ◌++◌, length, take, get_or, Some, sym, ◌∙◌, ap, arith}
use Rattle.std.specs.Prelude.{slice_get}
use Rattle.std.proofs.lemmas.List.{take_more}
use Rattle.std.proofs.lemmas.Option.{slice_get-get_or}
use Rattle.elf_objects.specs.declared.symbol.Reloc.{Reloc}
use Rattle.elf_objects.specs.Contents.{relocs_at}
use Rattle.eh_frame.proofs.relocs.list_relocs.Goals as goal

one_more : (relocs old new : List Reloc) (i : ℕ) (reloc : Reloc) → i < length relocs → old ≡ take i relocs → slice_get relocs i ≡ Some reloc → new ≡ old ++ reloc ∷ [] → new ≡ take (i + 1) relocs
one_more relocs old new i reloc h was is more =
    let same : get_or relocs i reloc ≡ reloc = alike (sym (slice_get-get_or relocs i reloc h) ∙ is) in
    more ∙ ap (λ (rs : List Reloc). rs ++ reloc ∷ []) was ∙ ap (λ (r : Reloc). take i relocs ++ r ∷ []) (sym same) ∙ sym (take_more relocs i reloc h)
  where
    alike : {x y : Reloc} → Some x ≡ Some y → x ≡ y
    alike h = cc

pub loop-i-preserved : goal.loop-i-preserved
loop-i-preserved c = one_more (relocs_at c.args.object.now c.args.section) _ _ c.loop-i.i _ (omega arith) c.loop-i.invariant c.reloc.ensures c.in_ok-push.ensures.items
