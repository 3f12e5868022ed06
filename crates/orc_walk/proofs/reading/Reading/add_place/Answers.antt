use Rattle.std.proofs.Common.{sym, ◌∙◌, refl, false}
use Rattle.orc_walk.proofs.SayingLemmas.{place_fits, holds_place, not_again}
use Rattle.orc_walk.proofs.reading.Reading.add_place.Goals as goal

pub returns-clause-adds : goal.returns-clause-adds
returns-clause-adds c = λ earlier is.
    let known = sym (c.requires.sections c.args.section) ∙ not_again _ _ c.in_ok-is_new.ensures.added c.if-not-is_new.false in
    (place_fits earlier c.args.self.now c.args.section c.args.base false is known, holds_place earlier c.args.self.now _ c.args.section c.args.base is refl c.in_ok-push.ensures.items refl)
