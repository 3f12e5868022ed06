-- No section may be added.
use Rattle.std.proofs.Common.{◌≡◌, ℕ, ◌+◌, ◌*◌, ◌<◌, List, [], length, ap, arith}
use Rattle.elf_write.proofs.Callers.{can_add-plain}
use Rattle.elf_write.proofs.Wide.{can_append}
use Rattle.file_tests.proofs.elf.adding.with_none.Goals as goal

pub append-requires : goal.append-requires
append-requires c =
    let o = c.args.object.now in
    can_append o.bytes o [] c.requires.object
    (can_add-plain o.bytes o [] c.requires.object (omega (arith, c.requires.sections)) (omega (arith, c.requires.size))
    (λ k d h. absurd (omega arith)) (λ k d h. absurd (omega arith)) (λ k d h. absurd (omega arith)))
