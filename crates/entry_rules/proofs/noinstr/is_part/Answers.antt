-- Where the name begins so.
use Rattle.std.proofs.Common.{◌↔◌, true, ◌≡◌, IsTrue, length, take, subst}
use Rattle.elf_objects.specs.Contents.{section_at}
use Rattle.entry_rules.proofs.NamedParts.{is_longer}
use Rattle.entry_rules.proofs.noinstr.is_part.Goals as goal

pub returns-then-section_name_begins : goal.returns-then-section_name_begins
returns-then-section_name_begins c =
    let name = (section_at c.args.object.now c.args.sec).name in
    let prefix = c.args.prefix.now in
    is_longer name prefix true c.section_is_named.result (subst (λ b. IsTrue b ↔ (take (length prefix) name ≡ prefix)) c.if-section_name_begins.true c.section_name_begins.ensures) c.section_is_named.ensures
