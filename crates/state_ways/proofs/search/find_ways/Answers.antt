-- One level after another.
use Rattle.std.proofs.Common.{◌≡◌, ℕ, suc, List, [], false, length, ap, sym, ◌∙◌, subst, arith}
use Rattle.std.proofs.lemmas.List.{length-replicate}
use Rattle.kept_states.specs.LevelStates.{at}
use Rattle.state_ways.specs.Marks.{AreFresh, AreSpent, IsBegun, IsLevel, IsTold}
use Rattle.state_ways.proofs.Begins.{level_zero, nil_of, none_shown, none_spent}
use Rattle.state_ways.proofs.Levels.{all_ways, next_level}
use Rattle.state_ways.proofs.Marking.{begins_between}
use Rattle.state_ways.proofs.search.find_ways.Goals as goal

pub loop-alloc-init : goal.loop-alloc-init
loop-alloc-init c = record {
  points = c.in_ok-begin.ensures.points;
  room = ap (λ v. length v.items) c.begin.ensures.spent ∙ (ap length c.in_ok-none_spent.ensures ∙ (length-replicate c.points-2.result false ∙ c.points-2.ensures.points));
  shown = c.in_ok-begin.ensures.shown;
  level = λ p told. let l = level_zero p c.begin.new.search.ways c.begin.new.search.next.items (subst (λ (n : ℕ). IsBegun p n c.begin.new.search.ways c.begin.new.search.next.items) (sym told.tells.count) (c.in_ok-begin.ensures.begun p told.tells)) in (0, l.0, l.1);
  spent = λ p told. subst (λ v. AreSpent p (at c.args.kept.now) c.begin.new.search.ways v) (sym (ap (λ v. v.items) c.begin.ensures.spent ∙ c.in_ok-none_spent.ensures)) (none_spent p (at c.args.kept.now) c.begin.new.search.ways c.points-2.result);
}

pub loop-alloc-preserved : goal.loop-alloc-preserved
loop-alloc-preserved c =
    let on = c.in_ok-go_on.ensures.on in
    record {
      points = on.points ∙ c.loop-alloc.invariant.points;
      room = c.go_on.ensures.len ∙ c.loop-alloc.invariant.room;
      shown = on.shown (none_shown c.loop-alloc.search.ways);
      level = λ p told.
          let l = c.loop-alloc.invariant.level p told in
          let n = next_level p c.args.graph.now.parts (at c.args.kept.now) told l.0 c.go_on.new.search.ways c.loop-alloc.search.next.items c.go_on.new.search.next.items (on.between p l.0 told (begins_between p l.0 c.loop-alloc.search.ways c.loop-alloc.search.next.items l.1)) l.2 (λ a m. c.in_ok-go_on.ensures.led p a told.tells (c.loop-alloc.invariant.spent p told) m) in
          (suc l.0, n.0, n.1);
      spent = λ p told. c.in_ok-go_on.ensures.spent p told.tells (c.loop-alloc.invariant.spent p told);
    }

pub returns-clause-ways : goal.returns-clause-ways
returns-clause-ways c = λ p t is kept.
    let told : IsTold p c.args.graph.now.parts (at c.args.kept.now) = record { tells = t; is_program = is; kept = kept } in
    let l = c.loop-alloc.invariant.level p told in
    let none : c.loop-alloc.search.next.items ≡ [] = nil_of c.loop-alloc.search.next.items (let h = c.loop-alloc-test.false in let k = c.is_empty.ensures in grind arith) in
    all_ways p c.args.graph.now.parts (at c.args.kept.now) told l.0 c.loop-alloc.search.ways (subst (λ (n : List ℕ). IsLevel p l.0 c.loop-alloc.search.ways n) none l.1) (subst (λ (n : List ℕ). AreFresh p l.0 n) none l.2)
