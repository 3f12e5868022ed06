use Rattle.std.proofs.Common.{sym, ap, ◌∙◌}
use Rattle.elf_objects.specs.Elf.{Elf}
use Rattle.flow_defs.specs.Coded.{Coded}
use Rattle.flow_defs.specs.Program.{never_returns_by}
use Rattle.control_flow.proofs.Fields.{listed_symbol, no_listed_symbol}
use Rattle.control_flow.proofs.listed.is_listed_by_name.Goals as goal

pub returns-in-Some-clause-is : goal.returns-in-Some-clause-is
returns-in-Some-clause-is c =
    c.is_listed_name.ensures.is
    ∙ ap (λ (e : Elf). never_returns_by e c.args.lists.now c.in-Some.sym) (c.object.ensures ∙ ap (λ (e : Coded). e.elf) c.linked.ensures)
    ∙ sym (listed_symbol c.args.places.now c.args.lists.now c.args.n c.in-Some.sym (sym c.names.ensures ∙ c.in-Some.is))

pub returns-in-None-clause-is : goal.returns-in-None-clause-is
returns-in-None-clause-is c = sym (no_listed_symbol c.args.places.now c.args.lists.now c.args.n (sym c.names.ensures ∙ c.in-None.is))
