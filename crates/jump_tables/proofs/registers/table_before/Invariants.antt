use Rattle.std.proofs.Common.{◌≡◌, ◌-◌, ◌≤◌, take, length, reverse}
use Rattle.x86_text.specs.Code.{code_of}
use Rattle.flow_defs.specs.TableRegisters.{is_searched, table_before, tables_taken}
use Rattle.jump_tables.proofs.Searching.{first_given}
use Rattle.jump_tables.proofs.registers.table_before.Given as goal

abbrev pub invariant-loop-step : goal.invariant-loop-step
invariant-loop-step l =
    let o = l.code.index.now.elf in
    let entries = l.code.sites.now.entries in
    let insns = code_of l.text.text in
    (l.next ≤ length insns)
    × (table_before o l.code.texts.now entries l.owner l.text.sec l.text.text l.fn.off ≡ first_given (is_searched o entries l.owner l.text.sec) (tables_taken o l.code.texts.now l.owner l.text.sec) (4 - l._step) (reverse (take l.next insns)))
