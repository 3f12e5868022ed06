use Rattle.std.proofs.Common.{ℕ, List, length, ap, ◌∙◌, arith}
use Rattle.std.specs.Prelude.{filter, nat_lt, ◌==◌}
use Rattle.std.proofs.lemmas.List.{take_all}
use Rattle.elf_objects.specs.Elf.{Elf, SymbolEntry}
use Rattle.elf_objects.specs.declared.TheConstants.{STT_FILE}
use Rattle.symbols_relocs.specs.Covers.{is_linked}
use Rattle.symbols_relocs.proofs.code_names.is_linked.Goals as goal

pub returns : goal.returns
unfolding is_linked
returns c =
    let o : Elf = c.args.object.now in
    ap (λ (n : ℕ). nat_lt 1 n) (c.loop-k.invariant.files ∙ ap (λ (ss : List SymbolEntry). length (filter (λ s. s.kind == STT_FILE) ss)) (take_all c.loop-k.k o.symbols (omega (arith, c.loop-k-test.false, c.symbols-k-end.ensures.value))))
