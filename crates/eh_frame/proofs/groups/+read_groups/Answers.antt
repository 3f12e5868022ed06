use Rattle.std.proofs.Common.{sym}
use Rattle.eh_frame.proofs.GroupsRead.{further_groups}
use Rattle.eh_frame.proofs.groups.+read_groups.Goals as goal

pub one_more-requires-clause-bits : goal.one_more-requires-clause-bits
one_more-requires-clause-bits t c = further_groups c.args.limit c.args.bytes.now c.in-Some.high (λ k. (c.type_inv.bytes k).fits) c.requires.few c.in-Some.ensures.value
