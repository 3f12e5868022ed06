use Rattle.std.proofs.Common.{ℕ, ◌+◌, ◌*◌, ◌/◌, ◌-◌, List, length, map, sym, ap, ◌∙◌}
use Rattle.std.specs.List.{range_with_len}
use Rattle.elf_write.specs.Layout.{encoded, written}
use Rattle.elf_write.specs.SymbolLayout.{Change, changed, moved, reloc_change, renumbered}
use Rattle.elf_write.proofs.Ranges.{range-end, range-step}
use Rattle.elf_write.proofs.changes.change_relocs.Goals as goal

pub loop-k-preserved : goal.loop-k-preserved
loop-k-preserved c =
    let p = c.args.plan.now in
    let body : List ℕ = c.args.body.now in
    let out : List ℕ = c.loop-k.out in
    let k : ℕ = c.loop-k.k in
    let n : ℕ = length body / 24 in
    let made : List ℕ → List Change = λ ks. map (moved c.args.from) (map (reloc_change p body) ks) in
    let number = c.renumbered-number.ensures ∙ ap (renumbered p.locals p.count) c.symbol_at.ensures in
    record {
      size = c.put_u32.ensures.size ∙ c.loop-k.invariant.size;
      bytes = ap (changed (made (range_with_len (k + 1) (n - (k + 1)))))
          (c.put_u32.ensures.bytes ∙ ap (λ (x : ℕ). written (c.args.from + (24 * k + 12)) (encoded 4 x) out) number)
          ∙ sym (ap (λ (ks : List ℕ). changed (made ks) out) (range-step k n c.loop-k-test.true))
          ∙ c.loop-k.invariant.bytes;
    }

pub returns-clause-bytes : goal.returns-clause-bytes
returns-clause-bytes c =
    let p = c.args.plan.now in
    let body : List ℕ = c.args.body.now in
    sym (ap (λ (ks : List ℕ). changed (map (moved c.args.from) (map (reloc_change p body) ks)) c.loop-k.out)
    (range-end c.loop-k.k (length body / 24) c.loop-k-test.false))
    ∙ c.loop-k.invariant.bytes
