-- Up to the last clear point all are.
use Rattle.std.proofs.Common.{◌≡◌, ◌<◌, ℕ, false, List, get_or, arith, ap, sym, ◌∙◌}
use Rattle.ot_base.specs.declared.place.Place.{Place}
use Rattle.ot_base.specs.Places.{is_before}
use Rattle.machine_defs.specs.Program.{IsPoint}
use Rattle.program_check.proofs.Clear.{clear_below}
use Rattle.program_check.proofs.changes.push_up_to.Goals as goal

pub returns-clause-clear : goal.returns-clause-clear
returns-clause-clear c p t ascending waits k low high plain =
    let more : List ℕ = c.args.more.now in
    let end : ℕ = c.in_ok-end.end in
    let last : ℕ = c.last_clear.result in
    let far : last < p.count = omega (arith, c.last_clear.ensures.within, t.count) in
    let here : is_before c.push_waiting.new.waiting (p.place c.args.n) ≡ false = ap (λ (a : Place). is_before a (p.place c.args.n)) (c.in_ok-end.ensures.waiting p t 0 waits) ∙ (ap (λ (a : Place). is_before (p.address (get_or more end 0)) a) (sym (c.requires.place p t)) ∙ c.in_ok-end.ensures.other p t 0 waits) in
    clear_below p ascending c.push_waiting.new.waiting k last (omega (arith, high)) (let point : IsPoint p last = far in point) plain (c.last_clear.ensures.plain p t (c.requires.plain p t)) (c.last_clear.ensures.clear p t here)
