-- How places of code are judged, one by one, and what is told of them.
use Rattle.std.specs.Prelude.{ℕ, ◌==◌, ◌&&◌, not, nat_lt, Bool, length, is_none}
use Rattle.ot_base.specs.declared.place.Place.{Place}
use Rattle.alternatives.specs.Texts.{insn_at}
use Rattle.elf_objects.specs.Elf.{Elf}
use Rattle.flow_defs.specs.Coded.{Coded}
use Rattle.elf_objects.specs.Contents.{is_text, section_at}
use Rattle.symbols_relocs.specs.Functions.{starts_at}
use Rattle.flow_defs.specs.Code.{texts_of}
use Rattle.flow_defs.specs.Faults.{is_branch_site, is_call_insn}
use Rattle.flow_defs.specs.declared.fault.FlowFault.{FlowFault}
use Rattle.flow_defs.specs.declared.fault.FlowFault.TheVariants.{NotBoundary}

-- a text section ends at a place
abbrev pub ends_text : Elf → Place → Bool
ends_text o place =
    nat_lt place.sec (length o.sections)
    && (is_text (section_at o place.sec) && place.off == length (section_at o place.sec).body)

-- neither a Nop nor a Jmp begins at a place
abbrev pub is_no_branch : Coded → Place → Bool
is_no_branch o place = not (is_branch_site (insn_at (texts_of o) place))

-- no direct call begins at a place
abbrev pub is_no_call : Coded → Place → Bool
is_no_call o place = not (is_call_insn (insn_at (texts_of o) place))

-- no function starts at a place
abbrev pub is_no_function : Coded → Place → Bool
is_no_function o place = is_none (starts_at o.elf place)

-- an entry of a list has no boundary, by their numbers
abbrev pub fault_in : ℕ × ℕ → FlowFault
fault_in e = NotBoundary e.0 e.1
