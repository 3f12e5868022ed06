-- `==` of records is equality.
use Rattle.std.proofs.Common.{◌≡◌, rules}
use Rattle.std.specs.Bool.{Decides}
use Rattle.std.specs.Cmp.Rules.{hashing}
use Rattle.machine_defs.specs.contracts.flow.RolePartialEq.TheImpl as role_impl
use Rattle.machine_defs.specs.contracts.flow.MarksPartialEq.TheImpl as marks_impl
use Rattle.machine_defs.specs.declared.flow.Marks.{Marks}
use Rattle.machine_defs.specs.declared.flow.Role.{Role}
use Rattle.program_graph.specs.contracts.parts.RarePartialEq.TheImpl as rare_impl
use Rattle.program_graph.specs.contracts.parts.TransferPartialEq.TheImpl as transfer_impl
use Rattle.program_graph.specs.declared.parts.Rare.{Rare}
use Rattle.program_graph.specs.declared.parts.Transfer.{Transfer}

pub same_rare : (one other : Rare) → Decides (rare_impl.eq-value.it one other) (one ≡ other)
same_rare = search (hashing, rules)

pub same_role : (one other : Role) → Decides (role_impl.eq-value.it one other) (one ≡ other)
same_role = search (hashing, rules)

pub same_marks : (one other : Marks) → Decides (marks_impl.eq-value.it one other) (one ≡ other)
same_marks = search (hashing, rules)

pub same_transfer : (one other : Transfer) → Decides (transfer_impl.eq-value.it one other) (one ≡ other)
same_transfer = search (hashing, rules, same_role, same_marks)
