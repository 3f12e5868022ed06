use Rattle.std.proofs.Common.{sym, subst}
use Rattle.demo_objects.specs.CanMake.{CanMake}
use Rattle.demo_objects.proofs.CanDemo.{can-make-demo}
use Rattle.demo_objects.proofs.functions.demo.Goals as goal

pub make-requires : goal.make-requires
make-requires c = subst CanMake (sym c.in_ok-spec.ensures) (can-make-demo c.args.n c.requires)
