use Rattle.std.proofs.Common.{◌∙◌, sym}
use Rattle.std.proofs.lemmas.Bool.{not-true, not_from_false}
use Rattle.elf_objects.proofs.UpToZero.{begins-from, begins-nonzero, begins-same}
use Rattle.elf_objects.proofs.strings.text_begins.Goals as goal

pub returns-then-starts_with : goal.returns-then-starts_with
returns-then-starts_with c = (
  λ free. begins-from c.args.prefix.now c.args.bytes.now (sym c.starts_with.ensures.value ∙ c.if-starts_with.true) (sym c.contains.ensures.value ∙ not-true c.contains.result free),
  λ begins. not_from_false c.contains.result (c.contains.ensures.value ∙ begins-nonzero c.args.prefix.now c.args.bytes.now begins),
)

pub returns-else-starts_with : goal.returns-else-starts_with
returns-else-starts_with c = (
  λ is. (let no = c.if-starts_with.false in absurd cc),
  λ begins. c.starts_with.ensures.value ∙ begins-same c.args.prefix.now c.args.bytes.now begins,
)
