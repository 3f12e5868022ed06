use Rattle.std.proofs.Common.{◌≡◌, ℕ, Bool, true, false, List, [], ◌∷◌, ◌++◌, sym, ap, ◌∙◌}
use Rattle.special_sections.specs.declared.entries.AltEntry.{AltEntry}
use Rattle.alternatives.specs.Originals.{counts, entry_at}
use Rattle.alternatives.specs.Sorted.{original_of}
use Rattle.alternatives.proofs.Ranges.{mapped_more, mapped_same}
use Rattle.alternatives.proofs.original.list_originals.Goals as goal
use Rattle.alternatives.proofs.original.list_originals.Goals.{then-counts+in_ok-push, else-counts}

pub loop-entry-preserved : goal.loop-entry-preserved
loop-entry-preserved c =
    let entries : List AltEntry = c.args.entries.now in
    let n : ℕ = c.loop-entry.entry in
    let p : ℕ → Bool = λ k. counts (entry_at entries k) in
    elim c.if-counts.branch [
      | then-counts+in_ok-push w ↦
          let passes : p n ≡ true = sym c.counts.ensures ∙ w.if-counts.true in
          ap (λ v. v.items) w.list-is ∙ w.in_ok-push.ensures.items ∙ ap (λ xs. xs ++ original_of entries n ∷ []) c.loop-entry.invariant ∙ sym (mapped_more (original_of entries) p n passes)
      | else-counts w ↦ let passes : p n ≡ false = sym c.counts.ensures ∙ w.if-counts.false in
          ap (λ v. v.items) w.list-is ∙ c.loop-entry.invariant ∙ sym (mapped_same (original_of entries) p n passes)
    ]
