use Rattle.std.proofs.Common.{true, false, List, take, subst}
use Rattle.std.specs.Bool.{MatchBool}
use Rattle.special_sections.specs.declared.entries.AltEntry.{AltEntry}
use Rattle.alternatives.specs.declared.original.Original.{Original}
use Rattle.alternatives.specs.Sorted.{SomeMeet, NoneMeet, SomeOverlap, NoneOverlap}
use Rattle.alternatives.proofs.Overlaps.{meet_overlap, none_overlap, taken_some, taken_none}
use Rattle.alternatives.proofs.overlap.some_overlap.Goals as goal

pub returns : goal.returns
returns c =
    let entries : List AltEntry = c.args.entries.now in
    let part : List AltEntry = take c.args.n entries in
    let os : List Original = c.in_ok-originals.originals.items in
    let meeting : MatchBool c.some_meet.result (SomeMeet os) (NoneMeet os) = subst (λ os. MatchBool c.some_meet.result (SomeMeet os) (NoneMeet os)) c.as_slice.ensures.value c.some_meet.ensures in
    elim c.some_meet.result as (λ r. MatchBool r (SomeMeet os) (NoneMeet os) → MatchBool r (SomeOverlap entries c.args.n) (NoneOverlap entries c.args.n)) [
      | true ↦ λ some. taken_some entries c.args.n c.requires.inside (meet_overlap part os c.in_ok-originals.ensures.all c.in_ok-originals.ensures.sorted some)
      | false ↦ λ none. taken_none entries c.args.n c.requires.inside (none_overlap part os c.in_ok-originals.ensures.all c.in_ok-originals.ensures.sorted none)
    ] meeting
