-- The point is found.
use Rattle.std.proofs.Common.{◌≡◌, true}
use Rattle.return_search.specs.Search.{AreSound, is_set}
use Rattle.return_search.proofs.Least.{leaving_sound}
use Rattle.return_search.proofs.Passing.{leaving_next, search_found}
use Rattle.return_search.proofs.Walks.{Finds, found_now, sound_now}
use Rattle.return_search.proofs.backward.find_leaving.Goals as goal

pub returns : goal.returns
returns c =
    let flow = c.args.flow.now in
    let s = c.args.search.now in
    let t = c.find.new.self in
    let q = c.args.q in
    let was = c.requires.so_far in
    let told = c.find.ensures in
    let finds : Finds flow s t q = record { listed = told.listed; extends = told.extends; found = told.found; known = told.known } in
    let sound : AreSound flow t.found.items t.known.items = sound_now flow s t q c.requires.point finds was.search.sound (λ p tells. leaving_sound p flow tells c.requires.shape q c.requires.leaves c.requires.point) in
    let now : is_set t.found.items q ≡ true = found_now flow s t q c.requires.point finds was.search.listed in
    record {
      search = search_found flow s t was.search told.listed sound told.extends told.known;
      leaving = leaving_next flow s t q was.leaving told.extends (λ _. now);
    }
