-- Control that is new.
use Rattle.std.proofs.Common.{◌≡◌, ap, sym, ◌∙◌, set}
use Rattle.std.proofs.lemmas.List.{get_or_read}
use Rattle.program_check.specs.declared.access_ways.Ways.{Ways}
use Rattle.program_check.specs.Ways.{comes, no_ways, with_way, ways_at}
use Rattle.program_check.proofs.Finding.{finds_new}
use Rattle.program_check.proofs.access_search.Search.find.Goals as goal

pub returns-in_ok-push : goal.returns-in_ok-push
returns-in_ok-push c =
    let v = c.args.visit in
    let old = c.args.self.now.ways.items in
    let read : (c.index-ways.result).now ≡ ways_at old v.point = get_or_read old v.point (c.index-ways.result).now c.requires c.index-ways.ensures no_ways in
    finds_new c.args.self.now _ v c.requires
    (ap (λ (w : Ways). comes w v.access v.home) (sym read) ∙ (sym c.has.ensures ∙ c.if-not-has.true))
    (ap (λ (w : Ways). set old v.point w) (c.with.ensures ∙ ap (λ (w : Ways). with_way w v.access v.home) read))
    c.in_ok-push.ensures.items
