use Rattle.std.proofs.Common.{◌≡◌, ℕ, ◌+◌, true, false, inl, inr, sym, ◌∙◌, subst, arith}
use Rattle.std.proofs.lemmas.Bool.{cases_lt}
use Rattle.elf_objects.specs.Contents.{relocs_at}
use Rattle.symbols_relocs.specs.Relocs.{is_changed}
use Rattle.symbols_relocs.proofs.Ranges.{none_pass, some_pass}
use Rattle.symbols_relocs.proofs.relocated.is_some_changed.Goals as goal

pub loop-k-preserved : goal.loop-k-preserved
loop-k-preserved c = λ i l. elim (cases_lt i c.loop-k.k) [
  | inl low ↦ c.loop-k.invariant i low
  | inr high ↦
      let last : c.loop-k.k ≡ i = omega (arith, high, l) in
      subst (λ (j : ℕ). is_changed (c.args.place.off + j) (relocs_at c.args.index.now.elf c.args.place.sec) ≡ false) (c.from.ensures ∙ last) (sym c.if-is_changed.ensures)
]

pub returns-then-is_changed : goal.returns-then-is_changed
returns-then-is_changed c =
    sym (some_pass (λ off. is_changed off (relocs_at c.args.index.now.elf c.args.place.sec)) c.args.place.off c.args.len c.loop-k.k c.loop-k-test.true
    (subst (λ (j : ℕ). is_changed (c.args.place.off + j) (relocs_at c.args.index.now.elf c.args.place.sec) ≡ true) c.from.ensures (sym c.if-is_changed.ensures)))

pub returns : goal.returns
returns c =
    sym (none_pass (λ off. is_changed off (relocs_at c.args.index.now.elf c.args.place.sec)) c.args.place.off c.args.len (λ i l. c.loop-k.invariant i (omega (arith, l, c.loop-k-test.false))))
