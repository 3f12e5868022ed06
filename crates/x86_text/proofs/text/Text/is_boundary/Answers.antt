use Rattle.std.proofs.Common.{◌≡◌, length, nat_eq, nat_lt, is_some, sym, ap, ◌∙◌}
use Rattle.std.proofs.lemmas.Bool.{le-ltb}
use Rattle.x86_text.specs.Code.{code_of, insn_listed}
use Rattle.x86_text.proofs.QueryLemmas.{its_listing, its_offsets, offsets_ascend, begins_here, begins_nowhere, tells_boundary, begins_within}
use Rattle.x86_text.proofs.text.Text.is_boundary.Goals as goal

pub count_below-place-requires : goal.count_below-place-requires
count_below-place-requires c = offsets_ascend c.as_slice-offsets.result.now (code_of c.args.self.now) (its_offsets _ _ _ _ c.self.invariant c.self.view_is _ c.as_slice-offsets.ensures.value) (its_listing _ _ _ _ c.self.invariant c.self.view_is).ascending

here : (c : goal.After-from) → nat_eq c.from.result c.args.off ≡ is_some (insn_listed (code_of c.args.self.now) c.args.off)
here c = ap (λ o. nat_eq o c.args.off) c.from.ensures ∙ begins_here c.args.self.now c.args.off (its_listing _ _ _ _ c.self.invariant c.self.view_is) c.as_slice-offsets.result.now (its_offsets _ _ _ _ c.self.invariant c.self.view_is _ c.as_slice-offsets.ensures.value) c.count_below-place.result c.count_below-place.ensures.within c.count_below-place.ensures.below c.count_below-place.ensures.above c.if-place-offsets.true

pub returns-then-place-offsets-clause-value : goal.returns-then-place-offsets-clause-value
returns-then-place-offsets-clause-value c = here c

pub returns-then-place-offsets-clause-boundary : goal.returns-then-place-offsets-clause-boundary
returns-then-place-offsets-clause-boundary c = tells_boundary c.args.self.now c.args.off (its_listing _ _ _ _ c.self.invariant c.self.view_is) _ (here c)

pub returns-then-place-offsets-clause-within : goal.returns-then-place-offsets-clause-within
returns-then-place-offsets-clause-within c = begins_within c.args.self.now c.args.off (its_listing _ _ _ _ c.self.invariant c.self.view_is) _ (here c)

nowhere : (c : goal.Else-place-offsets) → nat_lt c.count_below-place.result (length c.as_slice-offsets.result.now) ≡ is_some (insn_listed (code_of c.args.self.now) c.args.off)
nowhere c = le-ltb _ _ c.if-place-offsets.false ∙ sym (begins_nowhere c.args.self.now c.args.off (its_listing _ _ _ _ c.self.invariant c.self.view_is) c.as_slice-offsets.result.now (its_offsets _ _ _ _ c.self.invariant c.self.view_is _ c.as_slice-offsets.ensures.value) c.count_below-place.result c.count_below-place.ensures.within c.count_below-place.ensures.below c.count_below-place.ensures.above c.if-place-offsets.false)

pub returns-else-place-offsets-clause-value : goal.returns-else-place-offsets-clause-value
returns-else-place-offsets-clause-value c = nowhere c

pub returns-else-place-offsets-clause-boundary : goal.returns-else-place-offsets-clause-boundary
returns-else-place-offsets-clause-boundary c = tells_boundary c.args.self.now c.args.off (its_listing _ _ _ _ c.self.invariant c.self.view_is) _ (nowhere c)
