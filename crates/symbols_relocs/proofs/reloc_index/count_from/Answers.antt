use Rattle.std.proofs.Common.{◌≡◌, ◌≤◌, ◌<◌, ℕ, get_or, subst, inl, inr, arith}
use Rattle.std.proofs.lemmas.Bool.{cases_lt}
use Rattle.symbols_relocs.proofs.Bounds.{behind, none, offset_at}
use Rattle.symbols_relocs.proofs.reloc_index.count_from.Goals as goal

pub loop-index-init : goal.loop-index-init
loop-index-init c = λ k d lower inside. elim (cases_lt k c.args.start) [
  | inl lt ↦ c.requires.below.below k d lt
  | inr ge ↦
      let e : c.args.start ≡ k = omega (arith, lower, ge) in
      subst (λ (i : ℕ). (get_or c.args.relocs.now i d).offset < c.args.off) e (c.is_from.ensures.below c.if-is_from.false (omega (arith, e, inside)) d)
]

pub returns-then-relocs-index-clause-count : goal.returns-then-relocs-index-clause-count
returns-then-relocs-index-clause-count c = record {
  within = omega (arith, c.loop-index-test.true);
  below = λ k d lower. c.loop-index.invariant k d lower (omega (arith, lower, c.loop-index-test.true));
  above = λ k d from inside.
      let first : c.args.off ≤ offset_at c.args.relocs.now c.loop-index.index none = c.if-relocs-index.true in
      let order = behind c.args.relocs.now c.requires.sorted c.loop-index.index k d from inside in
      omega (arith, first, order);
}
