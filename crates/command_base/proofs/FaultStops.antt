-- What holds of a stop that tells a fault of the input, and of want of memory, holds of the stop of each who reads the input.
use Rattle.std.proofs.Common.{◌≡◌, List, ℕ, inl, inr}
use Rattle.std.specs.Prelude.{◌≢◌, ◌⊎◌}
use Rattle.elf_objects.specs.Elf.{Elf}
use Rattle.elf_objects.specs.Object.{FirstFault, Refuses}
use Rattle.elf_objects.specs.declared.fault.ElfFault.{ElfFault}
use Rattle.elf_objects.specs.declared.fault.ElfFault.TheVariants as elf
use Rattle.flow_defs.specs.declared.fault.FlowFault.{FlowFault}
use Rattle.flow_defs.specs.declared.fault.FlowFault.TheVariants as flow
use Rattle.object_points.specs.declared.fault.LinkFault.{LinkFault}
use Rattle.object_points.specs.declared.fault.LinkFault.TheVariants as link
use Rattle.object_points.specs.declared.fault_text.LinkFaultText.{LinkFaultText}
use Rattle.command_base.specs.Code.{IsLinkStop, IsWorded, flow_stop}
use Rattle.command_base.specs.Reading.{parse_stop}
use Rattle.command_base.specs.declared.refusal.Refusal.TheVariants as refusal
use Rattle.command_base.specs.declared.stop.CommandStop.{CommandStop}
use Rattle.command_base.specs.declared.stop.CommandStop.TheVariants as stop

-- who refuses for a fault or for want of memory, and not for want of memory, refuses for the fault
pub fault_of : {A B : Type 0} → A ⊎ B → (A → ⊥) → B
fault_of (inl none) other = absurd (other none)
fault_of (inr fault) other = fault

-- bytes that are no object
pub of_parse : (P : CommandStop → Type 0) (bytes : List ℕ) (e : ElfFault) → ((first : ElfFault) → FirstFault bytes first → P (stop.Refused (refusal.Malformed first))) → P stop.NoMemory → Refuses (FirstFault bytes) e → P (parse_stop e)
of_parse P bytes (elf.Short need have) told memory h = told _ (fault_of h (λ x. cc))
of_parse P bytes (elf.NotElfRel64 at) told memory h = told _ (fault_of h (λ x. cc))
of_parse P bytes (elf.BadTable sec) told memory h = told _ (fault_of h (λ x. cc))
of_parse P bytes (elf.BadRange sec) told memory h = told _ (fault_of h (λ x. cc))
of_parse P bytes (elf.BadName what number) told memory h = told _ (fault_of h (λ x. cc))
of_parse P bytes (elf.BadLink sec) told memory h = told _ (fault_of h (λ x. cc))
of_parse P bytes (elf.BadSymbol sym) told memory h = told _ (fault_of h (λ x. cc))
of_parse P bytes (elf.BadReloc sec number) told memory h = told _ (fault_of h (λ x. cc))
of_parse P bytes (elf.TooMany what count) told memory h = told _ (fault_of h (λ x. cc))
of_parse P bytes elf.NoMemory told memory h = memory

-- an object whose code isn't read
pub of_link : (P : CommandStop → Type 0) (o : Elf) (fault : LinkFault) (s : CommandStop) → ((told : LinkFaultText) → fault ≢ link.NoMemory → told.fault ≡ fault → IsWorded o told → P (stop.Refused (refusal.Unlinked told))) → P stop.NoMemory → IsLinkStop o fault s → P s
of_link P o fault (stop.Usage usage) tells memory h = absurd h
of_link P o fault (stop.Missing told) tells memory h = absurd h
of_link P o fault (stop.TooLong told at) tells memory h = absurd h
of_link P o fault (stop.Refused (refusal.Malformed why)) tells memory h = absurd h
of_link P o fault (stop.Refused (refusal.Orc why)) tells memory h = absurd h
of_link P o fault (stop.Refused (refusal.Lists why)) tells memory h = absurd h
of_link P o fault (stop.Refused (refusal.Image why)) tells memory h = absurd h
of_link P o fault (stop.Refused (refusal.NoText sec)) tells memory h = absurd h
of_link P o fault (stop.Refused (refusal.Unplaced why)) tells memory h = absurd h
of_link P o fault (stop.Refused (refusal.Unlinked told)) tells memory h = tells told h.0 h.1.0 h.1.1
of_link P o fault (stop.Refused (refusal.Unflowed told)) tells memory h = absurd h
of_link P o fault (stop.Refused (refusal.HasOrc sec)) tells memory h = absurd h
of_link P o fault (stop.Refused (refusal.HasSites sec)) tells memory h = absurd h
of_link P o fault (stop.Refused (refusal.Sites why)) tells memory h = absurd h
of_link P o fault (stop.Refused (refusal.HasFrames sec)) tells memory h = absurd h
of_link P o fault (stop.Refused (refusal.Frames why)) tells memory h = absurd h
of_link P o fault (stop.Refused (refusal.TooMany what count)) tells memory h = absurd h
of_link P o fault (stop.Refused (refusal.Layout why)) tells memory h = absurd h
of_link P o fault (stop.Refused (refusal.TooManyFiles count)) tells memory h = absurd h
of_link P o fault (stop.Refused (refusal.Merge why)) tells memory h = absurd h
of_link P o fault (stop.Refused (refusal.Table why)) tells memory h = absurd h
of_link P o fault (stop.Refused (refusal.NoFunction function)) tells memory h = absurd h
of_link P o fault (stop.PartMissing part told) tells memory h = absurd h
of_link P o fault (stop.PartTooLong part told at) tells memory h = absurd h
of_link P o fault (stop.PartRefused part why) tells memory h = absurd h
of_link P o fault (stop.FileFault told) tells memory h = absurd h
of_link P o fault stop.NoMemory tells memory h = memory

-- one that says of its code what doesn't fit it
pub of_flow : (P : CommandStop → Type 0) (fault : FlowFault) → (fault ≢ flow.NoMemory → P (stop.Refused (refusal.Unflowed (record { fault = fault })))) → P stop.NoMemory → P (flow_stop fault)
of_flow P (flow.FuncStart sym) told memory = told (λ e. cc)
of_flow P (flow.NotBoundary list entry) told memory = told (λ e. cc)
of_flow P (flow.StaticSite entry) told memory = told (λ e. cc)
of_flow P (flow.NotCall entry) told memory = told (λ e. cc)
of_flow P (flow.NotFunction entry) told memory = told (λ e. cc)
of_flow P flow.NoMemory told memory = memory
