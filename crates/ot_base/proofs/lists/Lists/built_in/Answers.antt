use Rattle.ot_base.specs.NameLists.{built_in}
use Rattle.ot_base.proofs.lists.Lists.built_in.Goals as goal

pub returns : goal.returns
unfolding built_in
returns c i = record {
  never_returning = c.in_ok-of.ensures i;
  access_safe = c.in_ok-of-2.ensures i;
  loose = c.in_ok-of-3.ensures i;
  switching = c.in_ok-of-4.ensures i;
}
