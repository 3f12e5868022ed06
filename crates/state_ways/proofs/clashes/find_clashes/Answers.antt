-- One point after another.
use Rattle.std.proofs.Common.{◌≡◌, ◌<◌, inl, inr, ℕ, List, Option, None, length, sym, ap, ◌∙◌, subst, arith}
use Rattle.std.proofs.lemmas.List.{length-replicate}
use Rattle.std.proofs.lemmas.Bool.{cases_lt}
use Rattle.kept_states.specs.LevelStates.{at}
use Rattle.state_ways.specs.declared.clashes.Clash.{Clash}
use Rattle.state_ways.specs.Clashes.{AreSound, PointIsNoted}
use Rattle.state_ways.specs.Marks.{IsTold}
use Rattle.state_ways.proofs.ClashLemmas.{all_noted, none_sound}
use Rattle.state_ways.proofs.clashes.find_clashes.Goals as goal

pub loop-n-init : goal.loop-n-init
loop-n-init c = record {
  len = ap length c.in_ok-clashes.ensures ∙ length-replicate (length c.args.warnings.now) None;
  sound = λ p told. subst (λ (cs : List (Option Clash)). AreSound p c.args.warnings.now cs) (sym c.in_ok-clashes.ensures) (none_sound p c.args.warnings.now (length c.args.warnings.now));
  noted = λ q l. absurd (omega (arith, l));
}

pub loop-n-preserved : goal.loop-n-preserved
loop-n-preserved c = record {
  len = c.note_point.ensures.len ∙ c.loop-n.invariant.len;
  sound = λ p told. c.note_point.ensures.more.sound p told (c.loop-n.invariant.sound p told);
  noted = λ q l p told. elim (cases_lt q c.loop-n.n) [
    | inl lower ↦ (λ e m w clash. c.note_point.ensures.more.stays w (c.loop-n.invariant.noted q lower p told e m w clash))
    | inr same ↦ (let s : c.loop-n.n ≡ q = omega arith in subst (λ (x : ℕ). PointIsNoted p c.args.warnings.now c.note_point.new.clashes.items x) s (c.note_point.ensures.noted p told))
  ];
}

pub returns-clause-clashes : goal.returns-clause-clashes
returns-clause-clashes c = λ p t is hints kept.
    let told : IsTold p c.args.graph.now.parts (at c.args.kept.now) = record { tells = t; is_program = is; kept = kept } in
    all_noted p c.args.graph.now.parts (at c.args.kept.now) told hints c.args.warnings.now c.loop-n.clashes.items (c.loop-n.invariant.sound p told) (λ q pq. c.loop-n.invariant.noted q (let l : q < length c.args.graph.now.parts.points.items = subst (λ (n : ℕ). q < n) t.count pq in omega (arith, l, c.points-n-end.ensures.points)) p told)
