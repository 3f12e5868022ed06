use Rattle.std.proofs.Common.{ℕ, ◌+◌, ◌-◌, List, sym, ap, ◌∙◌}
use Rattle.std.specs.List.{flat_map, range_with_len}
use Rattle.elf_write.specs.SymbolLayout.{Change, changed, changes_of}
use Rattle.elf_write.proofs.Edits.{changed-append}
use Rattle.elf_write.proofs.Ranges.{range-end, range-step}
use Rattle.elf_write.proofs.changes.change_sections.Goals as goal

pub loop-i-preserved : goal.loop-i-preserved
loop-i-preserved c =
    let f : ℕ → List Change = changes_of c.args.object.now c.args.plan.now in
    let out : List ℕ = c.loop-i.out in
    let i : ℕ = c.loop-i.i in
    let n : ℕ = c.sections-i-end.result in
    let rest : List Change = flat_map f (range_with_len (i + 1) (n - (i + 1))) in
    record {
      size = c.change_section.ensures.size ∙ c.loop-i.invariant.size;
      bytes = ap (changed rest) c.change_section.ensures.bytes
          ∙ sym (changed-append (f i) rest out)
          ∙ sym (ap (λ (ks : List ℕ). changed (flat_map f ks) out) (range-step i n c.loop-i-test.true))
          ∙ c.loop-i.invariant.bytes;
    }

pub returns : goal.returns
returns c =
    let f : ℕ → List Change = changes_of c.args.object.now c.args.plan.now in
    sym (ap (λ (ks : List ℕ). changed (flat_map f ks) c.loop-i.out) (range-end c.loop-i.i c.sections-i-end.result c.loop-i-test.false))
    ∙ c.loop-i.invariant.bytes
