use Rattle.std.proofs.Common.{◌≡◌, ◌++◌, take}
use Rattle.x86_text.specs.Code.{table_jumps_of}
use Rattle.jump_tables.specs.Jumps.{jumps_among}
use Rattle.jump_tables.proofs.jump.add_jumps.Given as goal

abbrev pub invariant-loop-placed : goal.invariant-loop-placed
invariant-loop-placed l = l.jumps.items ≡ l.initial.jumps.items ++ jumps_among l.code.index.now.elf l.code.texts.now l.code.sites.now.entries l.text.text l.text.sec (take l.placed-index (table_jumps_of l.text.text))
