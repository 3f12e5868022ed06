use Rattle.std.proofs.Common.{◌≡◌, ◌∙◌, ℕ, None, length, subst, sym, arith}
use Rattle.flow_defs.specs.Coded.{Coded, coded_by}
use Rattle.object_check.specs.Order.{IsCheckFault, crowded, has_orc, orc_section}
use Rattle.object_check.specs.declared.fault.CheckFault.TheVariants.{TooManySections}
use Rattle.object_check.proofs.room.check_room.Goals as goal

pub returns-in-Some-clause-err : goal.returns-in-Some-clause-err
returns-in-Some-clause-err c = λ map lists in_order. has_orc c.in-Some.sec in_order (sym c.in-Some.ensures)

pub returns-then-count-clause-err : goal.returns-then-count-clause-err
returns-then-count-clause-err c = λ map lists in_order.
    let o : Coded = coded_by map c.args.object.now in
    let count : c.from-count.result ≡ length o.elf.sections = c.from-count.ensures ∙ c.sections.ensures.value in
    let none : orc_section o.elf ≡ None = cc in
    subst (λ (n : ℕ). IsCheckFault o lists (TooManySections n)) (sym count) (crowded in_order none (omega (arith, count, c.if-count.true)))
