-- The program of an object in order is one, as the laws ask.
use Rattle.ot_base.specs.NameLists.{NameLists}
use Rattle.flow_defs.specs.Coded.{Coded}
use Rattle.machine_defs.specs.IsProgram.{IsProgram}
use Rattle.flow_defs.specs.Program.{program_of}
use Rattle.object_law.specs.Flows.{ObjectIsInOrder}
use Rattle.object_law.proofs.Callees as of_callees
use Rattle.object_law.proofs.Calls as of_calls
use Rattle.object_law.proofs.Checked as of_checked
use Rattle.object_law.proofs.Decoded as of_decoded
use Rattle.object_law.proofs.Entries as of_entries
use Rattle.object_law.proofs.Fields as of_fields
use Rattle.object_law.proofs.HintStates as of_hints

pub program_is_one : (o : Coded) (lists : NameLists) → ObjectIsInOrder o → IsProgram (program_of o lists)
program_is_one o lists order = record {
  edges = of_fields.edges o lists;
  arrivals = of_fields.arrivals o lists;
  followers = of_fields.followers o lists;
  saves = of_fields.saves o lists;
  arrives_owned = of_calls.arrives_owned o lists;
  checked = of_checked.checked o lists;
  unowned = of_fields.unowned o lists;
  entries_checked = of_calls.entries_checked o lists;
  calls_entry = of_callees.calls_entry o lists order;
  calls_weak_entry = of_callees.calls_weak_entry o lists order;
  siblings = of_entries.siblings o lists;
  calls = of_calls.calls o lists;
  call_next = of_calls.call_next o lists;
  returns = of_fields.returns o lists;
  numbers = of_decoded.numbers o lists order.bytes;
  hints = of_hints.hints o lists;
  may_return = of_fields.may_return o lists;
}
