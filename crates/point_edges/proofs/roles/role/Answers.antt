use Rattle.std.proofs.Common.{sym, ◌∙◌}
use Rattle.flow_defs.specs.Code.{point_at}
use Rattle.flow_defs.specs.Coded.{Coded}
use Rattle.point_edges.proofs.Entries.{call_inside, role_as_by, role_as_through, not_some, weak_call_inside}
use Rattle.point_edges.proofs.roles.role.Goals as goal

pub returns-in-Some-clause-value : goal.returns-in-Some-clause-value
returns-in-Some-clause-value c =
    let o : Coded = c.args.points.now in
    role_as_through o (point_at o c.args.n) c.args.branch.through c.in-Some.sym c.requires.through c.in-Some.is

pub returns-clause-value : goal.returns-clause-value
returns-clause-value c =
    let o : Coded = c.args.points.now in
    c.role_by.ensures ∙ role_as_by o (point_at o c.args.n) c.args.insn c.args.branch.through c.requires.through (not_some c.args.branch.through c.in_default.not-Some) c.requires.insn

pub returns-clause-known : goal.returns-clause-known
returns-clause-known c = λ entry is. call_inside c.args.points.now (point_at c.args.points.now c.args.n) entry (sym (returns-clause-value c) ∙ is)

pub returns-clause-known_by_weak : goal.returns-clause-known_by_weak
returns-clause-known_by_weak c = λ entry sym_is is. weak_call_inside c.args.points.now (point_at c.args.points.now c.args.n) entry sym_is (sym (returns-clause-value c) ∙ is)
