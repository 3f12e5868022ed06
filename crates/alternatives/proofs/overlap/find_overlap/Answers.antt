use Rattle.std.proofs.Common.{length, arith, subst}
use Rattle.std.specs.Bool.{MatchBool}
use Rattle.alternatives.specs.Sorted.{SomeMeet, NoneMeet, NoneOverlap}
use Rattle.alternatives.proofs.Overlaps.{meet_overlap, none_overlap, not_before}
use Rattle.alternatives.proofs.overlap.find_overlap.Goals as goal

pub returns-then-not-some_meet-clause-found : goal.returns-then-not-some_meet-clause-found
returns-then-not-some_meet-clause-found c = λ j inside.
    let none : NoneMeet c.args.originals.now = subst (λ r. MatchBool r (SomeMeet c.args.originals.now) (NoneMeet c.args.originals.now)) c.if-not-some_meet.true c.some_meet.ensures in
    let apart : NoneOverlap c.args.entries.now (length c.args.entries.now) = none_overlap c.args.entries.now c.args.originals.now c.requires.all c.requires.sorted none in
    not_before c.args.entries.now j (λ i lower. apart j i inside (omega arith))

pub first_overlap-requires-clause-some : goal.first_overlap-requires-clause-some
first_overlap-requires-clause-some c =
    let some : SomeMeet c.args.originals.now = subst (λ r. MatchBool r (SomeMeet c.args.originals.now) (NoneMeet c.args.originals.now)) c.if-not-some_meet.false c.some_meet.ensures in
    meet_overlap c.args.entries.now c.args.originals.now c.requires.all c.requires.sorted some

pub returns-then-not-some_meet-clause-apart : goal.returns-then-not-some_meet-clause-apart
returns-then-not-some_meet-clause-apart c = subst (λ r. MatchBool r (SomeMeet c.args.originals.now) (NoneMeet c.args.originals.now)) c.if-not-some_meet.true c.some_meet.ensures
