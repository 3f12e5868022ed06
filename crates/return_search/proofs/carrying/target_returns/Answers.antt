-- An entry that is called is below the number of those that may be known.
use Rattle.std.proofs.Common.{◌≡◌, ◌∙◌, sym}
use Rattle.std.specs.Prelude.{slice_index_or}
use Rattle.std.proofs.lemmas.List.{get_or_default}
use Rattle.return_search.specs.declared.searched_flow.Exit.TheVariants.{Calls, Passes}
use Rattle.return_search.proofs.carrying.target_returns.Goals as goal

pub bounds-known-entry : goal.bounds-known-entry
bounds-known-entry c =
    let is : slice_index_or c.args.exits.now c.args.q Passes ≡ Calls c.in-Calls.entry = get_or_default c.args.exits.now c.args.q Passes c.index-exits-q.result c.requires.point ∙ sym c.index-exits-q.is ∙ sym c.exit.ensures ∙ c.in-Calls.is in
    c.requires.known c.args.q c.in-Calls.entry is
