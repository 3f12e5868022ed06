use Rattle.std.proofs.Common.{ℕ, ◌<◌, List, length, sym, subst, arith}
use Rattle.std.proofs.lemmas.Bool.Decides.{nat_tests}
use Rattle.elf_objects.specs.Elf.{Elf}
use Rattle.elf_objects.specs.Object.{IsObject}
use Rattle.elf_write.specs.SymbolObject.{extended_object}
use Rattle.elf_write.proofs.SymbolFacts.{object-some}
use Rattle.elf_write.proofs.insert.with_section_symbols.Goals as goal

pub returns-clause-object : goal.returns-clause-object
returns-clause-object c =
    let o = c.args.object.now in
    let secs = c.args.secs.now in
    let file : List ℕ = c.in_ok-insert.field-0.items in
    let some : 0 < length secs = grind (arith, nat_tests) in
    subst (λ (x : Elf). IsObject file x) (sym (object-some o secs some))
    (subst (λ (bytes : List ℕ). IsObject bytes (extended_object o secs)) (sym c.in_ok-insert.ensures.layout) c.in_ok-insert.ensures.object)
