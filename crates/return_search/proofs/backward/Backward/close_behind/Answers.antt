-- No more points are open.
use Rattle.std.proofs.Common.{map, ◌∙◌}
use Rattle.return_search.specs.Backward.{key_of}
use Rattle.return_search.proofs.Leading.{open_still}
use Rattle.return_search.proofs.backward.Backward.close_behind.Goals as goal

pub returns-then-behind-len-clause-so_far : goal.returns-then-behind-len-clause-so_far
returns-then-behind-len-clause-so_far c =
    let flow = c.args.flow.now in
    let was = c.requires.so_far in
    record {
      leads = was.leads;
      chains = c.close.ensures.chains (map (key_of flow) c.args.self.now.leads.items) was.chains;
      heads = c.close.ensures.heads ∙ was.heads;
      steps = open_still flow c.args.self.now.chains.heads.items c.close.new.self.heads.items c.args.q c.close.ensures.opens was.steps;
    }
