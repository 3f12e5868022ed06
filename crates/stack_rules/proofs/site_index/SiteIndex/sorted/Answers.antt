-- A list in another order has the same elements.
use Rattle.std.proofs.Common.{◌<◌, rules}
use Rattle.std.proofs.lemmas.List.Sorted.{answers_always, Contains-permutation, IsPermutation-sym, All-permutation}
use Rattle.program_graph.specs.declared.parts.GraphSite.{GraphSite}
use Rattle.stack_rules.proofs.Order.{sites_ascend}
use Rattle.stack_rules.proofs.site_index.SiteIndex.sorted.Goals as goal

pub invariant_of-result : goal.invariant_of-result
invariant_of-result c = record {
  ascend = sites_ascend c.sort_unstable_by_key.new.self.items (c.sort_unstable_by_key.ensures.sorted (λ (s : GraphSite). s.start) (answers_always _ _ _ (λ f a r g h. search rules)));
  some = All-permutation (λ (s : GraphSite). 0 < s.len) c.args.sites.items c.sort_unstable_by_key.new.self.items c.sort_unstable_by_key.ensures.permutation c.requires;
}

pub returns : goal.returns
returns c site = (
  (λ a. Contains-permutation c.sort_unstable_by_key.new.self.items c.args.sites.items site (IsPermutation-sym c.args.sites.items c.sort_unstable_by_key.new.self.items c.sort_unstable_by_key.ensures.permutation) a),
  (λ a. Contains-permutation c.args.sites.items c.sort_unstable_by_key.new.self.items site c.sort_unstable_by_key.ensures.permutation a),
)
