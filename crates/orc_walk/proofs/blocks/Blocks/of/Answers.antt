use Rattle.std.proofs.Common.{◌≡◌, ◌∙◌, ◌+◌, ◌-◌, ◌/◌, ◌<◌, ◌≤◌, ℕ, List, [], ◌∷◌, ◌++◌, length, below_more, arith, refl, ap, sym, subst}
use Rattle.std.proofs.lemmas.List.{get_or_append_left, get_or_push, length_push}
use Rattle.std.specs.Prelude.{slice_index}
use Rattle.orc_walk.specs.Blocks.{beginning_of, rows_below}
use Rattle.orc_walk.specs.Rows.{rows_of}
use Rattle.orc_walk.proofs.blocks.Blocks.of.Goals as goal

-- a block more
one_more : (first block n : ℕ) → first ≤ block → n ≡ block - first → (block ≡ first + n) × (n + 1 ≡ block + 1 - first)
one_more first block n from number = (omega arith, omega arith)

-- all blocks of a range, and the one behind them
all_blocks : (base size block n : ℕ) → 0 < size → (base + size - 1) / 256 + 2 ≤ block → (base / 256 ≤ (base + size - 1) / 256 + 2 → block ≤ (base + size - 1) / 256 + 2) → n ≡ block - base / 256 → n ≡ (base + size - 1) / 256 - base / 256 + 2
all_blocks base size block n some from to number = omega arith

pub loop-block-preserved : goal.loop-block-preserved
loop-block-preserved c =
    let firsts : List ℕ = c.loop-block.firsts.items in
    let more : ℕ = c.items_before.result in
    let first : ℕ = c.args.range.base / 256 in
    let below : ℕ → ℕ = λ block. rows_below (beginning_of block) (rows_of c.args.items.now) in
    let items = c.in_ok-push.ensures.items in
    let size = ap length items ∙ length_push firsts more in
    let next = one_more first c.loop-block.block (length firsts) c.loop-block.auto.block c.loop-block.invariant.number in
    record {
      number = size ∙ next.1;
      each = λ i inside. subst (λ (xs : List ℕ). slice_index xs i ≡ below (first + i)) (sym items)
          (below_more (λ k. slice_index (firsts ++ more ∷ []) k ≡ below (first + k)) (length firsts)
          (λ k lt. get_or_append_left firsts (more ∷ []) 0 k lt ∙ c.loop-block.invariant.each k lt)
          (get_or_push firsts more 0 (length firsts) refl ∙ c.items_before.ensures ∙ ap below next.0)
          i (subst (λ (n : ℕ). i < n) size inside));
    }

pub returns : goal.returns
returns c = record {
  range = refl;
  firsts = record { number = all_blocks c.args.range.base c.args.range.size c.loop-block.block (length c.loop-block.firsts.items) c.requires.not_empty c.loop-block-test.false c.loop-block.auto.block-end c.loop-block.invariant.number; each = c.loop-block.invariant.each };
}
