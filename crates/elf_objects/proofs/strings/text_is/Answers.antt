use Rattle.elf_objects.proofs.UpToZero.{is-begun, is-end, is-from}
use Rattle.elf_objects.proofs.strings.text_is.Goals as goal

pub returns-then-text_begins : goal.returns-then-text_begins
returns-then-text_begins c = (
  λ ends. is-from c.args.text.now c.args.bytes.now (c.text_begins.ensures.0 c.if-text_begins.true) (c.ends_at.ensures.0 ends),
  λ is. c.ends_at.ensures.1 (is-end c.args.text.now c.args.bytes.now is),
)
