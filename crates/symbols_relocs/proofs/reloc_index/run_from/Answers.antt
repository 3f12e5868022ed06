use Rattle.std.proofs.Common.{◌≤◌, ◌∙◌, drop, ap, pos, arith}
use Rattle.elf_objects.specs.declared.symbol.Reloc.{Reloc}
use Rattle.symbols_relocs.proofs.Runs.{run_is, below_first}
use Rattle.symbols_relocs.proofs.reloc_index.run_from.Goals as goal

none : Reloc
none = record { offset = 0; kind = 0; sym = 0; addend = pos 0 }

pub split_at-requires-2 : goal.split_at-requires-2
split_at-requires-2 c =
    let order : c.args.start ≤ c.end_of_run-end.result = below_first c.args.off c.args.relocs.now none c.args.start c.end_of_run-end.result c.requires.start.within c.requires.start.below c.end_of_run-end.ensures.above in
    omega (arith, c.split_at.ensures.front_len)

pub returns : goal.returns
returns c =
    let order : c.args.start ≤ c.end_of_run-end.result = below_first c.args.off c.args.relocs.now none c.args.start c.end_of_run-end.result c.requires.start.within c.requires.start.below c.end_of_run-end.ensures.above in
    c.split_at-2.ensures.back
    ∙ ap (drop c.args.start) c.split_at.ensures.front
    ∙ run_is c.args.off c.args.relocs.now c.args.start c.end_of_run-end.result order c.end_of_run-end.ensures.within c.requires.start.below (λ k d later earlier. omega (arith, c.requires.start.above k d later (omega (arith, c.end_of_run-end.ensures.within)), c.end_of_run-end.ensures.below k d earlier)) c.end_of_run-end.ensures.above
