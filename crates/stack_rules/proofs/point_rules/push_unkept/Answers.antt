-- An entered RESTORE.
use Rattle.std.proofs.Common.{◌≡◌, true, false, arith, ap, ◌∙◌, sym}
use Rattle.std.proofs.lemmas.Result.{on_ok_weaker}
use Rattle.ot_base.specs.Warnings.{bare_warning}
use Rattle.stack_rules.specs.PointWarns.{UnkeptWarns}
use Rattle.stack_rules.proofs.GainsLemmas.{gains_none, gains_same}
use Rattle.stack_rules.proofs.point_rules.push_unkept.Goals as goal

pub returns-then-not-is_entered_restore : goal.returns-then-not-is_entered_restore
returns-then-not-is_entered_restore c p t = gains_none c.args.into.now.items (UnkeptWarns p c.args.n) (λ w k.
    let other : c.is_entered_restore.result ≡ false = (let h = c.if-not-is_entered_restore.true in grind arith) in
    let entered : c.is_entered_restore.result ≡ true = (c.is_entered_restore.ensures p t).1 k.0 in
    cc)

pub returns : goal.returns
returns c = on_ok_weaker c.push.result (λ h p t.
    let entered : c.is_entered_restore.result ≡ true = (let k = c.if-not-is_entered_restore.false in grind arith) in
    let is : c.bare_warning.result ≡ bare_warning (p.place c.args.n) 18 = c.bare_warning.ensures ∙ ap (λ place. bare_warning place 18) (c.place.ensures p t) in
    gains_same c.args.into.now.items c.push.new.into.items (λ w. w ≡ c.bare_warning.result) (UnkeptWarns p c.args.n) h (λ w. (
      (λ k. ((c.is_entered_restore.ensures p t).0 entered, k ∙ is)),
      (λ k. k.1 ∙ sym is),
    ))) c.push.ensures
