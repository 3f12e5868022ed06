use Rattle.std.proofs.Common.{◌<◌, ◌≤◌, arith}
use Rattle.x86_text.specs.Code.{code_of}
use Rattle.x86_text.proofs.QueryLemmas.{its_listing, its_offsets, offsets_ascend, as_many, code_below, code_above}
use Rattle.x86_text.proofs.text.Text.count_before.Goals as goal

pub count_below-requires : goal.count_below-requires
count_below-requires c = offsets_ascend c.as_slice-offsets.result.now (code_of c.args.self.now) (its_offsets _ _ _ _ c.self.invariant c.self.view_is _ c.as_slice-offsets.ensures.value) (its_listing _ _ _ _ c.self.invariant c.self.view_is).ascending

pub returns-clause-within : goal.returns-clause-within
returns-clause-within c = omega (arith, as_many c.as_slice-offsets.result.now (code_of c.args.self.now) (its_offsets _ _ _ _ c.self.invariant c.self.view_is _ c.as_slice-offsets.ensures.value), c.count_below.ensures.within)

pub returns-clause-before : goal.returns-clause-before
returns-clause-before c = code_below c.as_slice-offsets.result.now (code_of c.args.self.now) (its_offsets _ _ _ _ c.self.invariant c.self.view_is _ c.as_slice-offsets.ensures.value) (λ o. o < c.args.off) c.count_below.result c.count_below.ensures.within c.count_below.ensures.below

pub returns-clause-others : goal.returns-clause-others
returns-clause-others c = code_above c.as_slice-offsets.result.now (code_of c.args.self.now) (its_offsets _ _ _ _ c.self.invariant c.self.view_is _ c.as_slice-offsets.ensures.value) (λ o. c.args.off ≤ o) c.count_below.result c.count_below.ensures.above
