-- One is noted, unless one is.
use Rattle.std.proofs.Common.{◌≡◌, ◌<◌, Option, None, get_or, length, ap, ◌∙◌, arith}
use Rattle.std.specs.Prelude.{unwrap_or}
use Rattle.std.proofs.lemmas.List.{get_or_default}
use Rattle.std.proofs.lemmas.Option.{slice_get_within}
use Rattle.state_ways.specs.declared.clashes.Clash.{Clash}
use Rattle.state_ways.specs.Clashes.{warning_of}
use Rattle.state_ways.proofs.ClashLemmas.{new_noted, still_noted, still_sound}
use Rattle.state_ways.proofs.clashes.note_clash.Goals as goal

pub returns-clause-noted : goal.returns-clause-noted
returns-clause-noted c = new_noted c.args.warnings.now c.requires.ascending c.args.clashes.now.items c.requires.len c.in-Some.place (warning_of c.args.key) c.in-Some.ensures c.unwrap_or-first.result

pub returns-clause-stays : goal.returns-clause-stays
returns-clause-stays c = still_noted c.args.warnings.now c.requires.ascending c.args.clashes.now.items c.requires.len c.in-Some.place (warning_of c.args.key) c.in-Some.ensures c.unwrap_or-first.result

pub returns-clause-sound : goal.returns-clause-sound
returns-clause-sound c = λ p clash sound.
    let l : c.in-Some.place < length c.args.warnings.now = slice_get_within c.args.warnings.now c.in-Some.place (warning_of c.args.key) c.in-Some.ensures in
    let inside : c.in-Some.place < length c.args.clashes.now.items = omega (arith, l, c.requires.len) in
    let read : c.index.result.now ≡ get_or c.args.clashes.now.items c.in-Some.place None = c.index.ensures ∙ get_or_default c.args.clashes.now.items c.in-Some.place _ None inside in
    still_sound c.args.warnings.now c.requires.ascending c.args.clashes.now.items c.requires.len c.in-Some.place (warning_of c.args.key) c.in-Some.ensures c.unwrap_or-first.result p c.args.clash (c.unwrap_or-first.ensures ∙ ap (λ (o : Option Clash). unwrap_or o c.args.clash) read) clash sound
