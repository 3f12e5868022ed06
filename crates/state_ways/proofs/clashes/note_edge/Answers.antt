-- The edge's clash, if it is one.
use Rattle.std.proofs.Common.{◌≡◌, refl, sym, subst}
use Rattle.ot_base.specs.declared.warning.Warning.{Warning}
use Rattle.state_ways.specs.Clashes.{IsNoted, warning_of}
use Rattle.state_ways.proofs.clashes.note_edge.Goals as goal

pub returns-in_default-clause-noted : goal.returns-in_default-clause-noted
returns-in_default-clause-noted c = λ p told w clash. absurd (c.in_default.ensures p told (c.requires.own p told.tells) w clash)

pub returns-clause-more : goal.returns-clause-more
returns-clause-more c = record {
  stays = c.note_clash.ensures.stays;
  sound = λ p told sound. c.note_clash.ensures.sound p ((c.in-Some.ensures p told (c.requires.own p told.tells) (warning_of c.in-Some.key)).1 refl) sound;
}

pub returns-clause-noted : goal.returns-clause-noted
returns-clause-noted c = λ p told w clash.
    let e : w ≡ warning_of c.in-Some.key = (c.in-Some.ensures p told (c.requires.own p told.tells) w).0 clash in
    subst (λ (x : Warning). IsNoted c.args.warnings.now c.note_clash.new.clashes.items x) (sym e) c.note_clash.ensures.noted
