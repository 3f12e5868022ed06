-- Why bytes hold no rows, from what reading them ensures.
use Rattle.std.proofs.Common.{◌≡◌, ℕ, List, subst}
use Rattle.ot_base.specs.declared.row.PlacedRow.{PlacedRow}
use Rattle.command_base.specs.declared.status.Status.{Status}
use Rattle.command_base.specs.declared.status.Status.TheVariants as status
use Rattle.command_base.specs.Outside.{Output}
use Rattle.command_base.specs.Printing.{Prints}
use Rattle.elf_objects.specs.Elf.{Elf}
use Rattle.elf_objects.specs.Object as object
use Rattle.elf_objects.specs.Object.{IsObject}
use Rattle.elf_objects.specs.declared.fault.ElfFault.{ElfFault}
use Rattle.orc_bytes.specs.Faults as orc
use Rattle.orc_bytes.specs.declared.fault.OrcFault.{OrcFault}
use Rattle.orc_bytes.specs.declared.fault.OrcFault.TheVariants as orc_fault
use Rattle.command_base.proofs.FaultStops.{fault_of, of_parse}
use Rattle.command_base.specs.Reading.{orc_stop, parse_stop}
use Rattle.command_base.specs.Dump.{Dumps, HoldsNoRows, malformed, no_memory, no_rows, rows_text}

pub no_object : (bytes : List ℕ) (e : ElfFault) → object.Refuses (object.FirstFault bytes) e → HoldsNoRows bytes (parse_stop e)
no_object bytes e h = of_parse (HoldsNoRows bytes) bytes e (λ first fault. malformed fault) no_memory h

pub no_rows_held : (bytes : List ℕ) (o : Elf) (e : OrcFault) → IsObject bytes o → orc.Refuses o e → HoldsNoRows bytes (orc_stop e)
no_rows_held bytes o (orc_fault.NoSection which) is h = no_rows o is (fault_of h (λ x. cc))
no_rows_held bytes o (orc_fault.BadLength which len) is h = no_rows o is (fault_of h (λ x. cc))
no_rows_held bytes o (orc_fault.Counts rows ips) is h = no_rows o is (fault_of h (λ x. cc))
no_rows_held bytes o (orc_fault.BadBits row) is h = no_rows o is (fault_of h (λ x. cc))
no_rows_held bytes o (orc_fault.BadSlot row why) is h = no_rows o is (fault_of h (λ x. cc))
no_rows_held bytes o orc_fault.NoMemory is h = no_memory

-- the rows that are printed are those that were read
pub printed_as : (o : Elf) (one other : List PlacedRow) (before after : Output) (s : Status) → one ≡ other → Prints status.Done (rows_text o one) before after s → Prints status.Done (rows_text o other) before after s
printed_as o one other before after s same h = subst (λ (rows : List PlacedRow). Prints status.Done (rows_text o rows) before after s) same h

-- what is told of the bytes that were read
pub dumped_as : (one other : List ℕ) (before after : Output) (s : Status) → one ≡ other → Dumps one before after s → Dumps other before after s
dumped_as one other before after s same h = subst (λ (bytes : List ℕ). Dumps bytes before after s) same h
