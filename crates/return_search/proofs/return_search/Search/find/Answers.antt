-- A point that is found is listed.
use Rattle.std.proofs.Common.{◌≡◌, ◌<◌, false, length, refl, sym, ◌∙◌, arith, length-set}
use Rattle.std.proofs.lemmas.List.{get_or_read}
use Rattle.return_search.specs.Search.{is_set}
use Rattle.return_search.proofs.SearchSteps.{count_push, extends_one, found_push, room_for}
use Rattle.return_search.proofs.return_search.Search.find.Goals as goal

pub push_reserved-requires : goal.push_reserved-requires
push_reserved-requires c =
    let s = c.args.self.now in
    let inside : c.args.q < length s.found.items = omega (arith, c.requires.point, c.requires.listed.long) in
    let new : is_set s.found.items c.args.q ≡ false = sym (get_or_read s.found.items c.args.q (c.index.result).now inside c.index.ensures false) ∙ c.if-not-index.true in
    omega (arith, room_for s.found.items c.args.q inside new, c.requires.listed.long, c.requires.listed.room, c.requires.listed.once)

pub returns-then-not-index-clause-listed : goal.returns-then-not-index-clause-listed
returns-then-not-index-clause-listed c =
    let s = c.args.self.now in
    let inside : c.args.q < length s.found.items = omega (arith, c.requires.point, c.requires.listed.long) in
    let new : is_set s.found.items c.args.q ≡ false = sym (get_or_read s.found.items c.args.q (c.index.result).now inside c.index.ensures false) ∙ c.if-not-index.true in
    record {
      long = length-set s.found.items c.args.q _ ∙ c.requires.listed.long;
      room = rw c.push_reserved.ensures.capacity c.requires.listed.room;
      once = omega (arith, c.push_reserved.ensures.len, count_push s.found.items c.args.q inside new, c.requires.listed.once);
      found = rw c.push_reserved.ensures.items (found_push s.found.items s.waiting.items c.args.q inside c.requires.listed.found);
      known = c.requires.listed.known;
    }

pub returns-then-not-index-clause-extends : goal.returns-then-not-index-clause-extends
returns-then-not-index-clause-extends c =
    let s = c.args.self.now in
    let inside : c.args.q < length s.found.items = omega (arith, c.requires.point, c.requires.listed.long) in
    let new : is_set s.found.items c.args.q ≡ false = sym (get_or_read s.found.items c.args.q (c.index.result).now inside c.index.ensures false) ∙ c.if-not-index.true in
    extends_one s _ c.args.q inside new refl c.push_reserved.ensures.items
