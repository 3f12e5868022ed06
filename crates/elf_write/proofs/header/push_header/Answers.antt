use Rattle.std.proofs.Common.{rules}
use Rattle.std.proofs.lemmas.List.{append_assoc}
use Rattle.std.proofs.lemmas.Result.{IfOk-equal}
use Rattle.elf_write.specs.Layout.{header_bytes}
use Rattle.elf_write.proofs.header.push_header.Goals as goal

pub returns : goal.returns
unfolding header_bytes
returns c = search (rules, IfOk-equal, append_assoc)
