use Rattle.std.proofs.Common.{◌≡◌, ℕ, ◌+◌, ◌≤◌, arith, length, subst, Vec, Global, Bool, true, false, List, ◌++◌, sym, ap, ◌∙◌}
use Rattle.special_sections.specs.declared.entries.AltEntry.{AltEntry}
use Rattle.alternatives.specs.declared.texts.SectionText.{SectionText}
use Rattle.alternatives.specs.declared.point.Point.{Point}
use Rattle.alternatives.specs.Gathered.{replaced_of}
use Rattle.alternatives.specs.Originals.{counts, entry_at}
use Rattle.alternatives.proofs.Ranges.{joined_more, joined_same}
use Rattle.alternatives.proofs.points.gather_replaced.Goals as goal
use Rattle.alternatives.proofs.points.gather_replaced.Goals.{then-counts+in_ok-push_replaced, else-counts}

pub loop-entry-preserved : goal.loop-entry-preserved
loop-entry-preserved c =
    let texts : List SectionText = c.args.texts.now in
    let entries : List AltEntry = c.args.entries.now in
    let n : ℕ = c.loop-entry.entry in
    let p : ℕ → Bool = λ k. counts (entry_at entries k) in
    let f : ℕ → List Point = replaced_of texts entries in
    elim c.if-counts.branch [
      | then-counts+in_ok-push_replaced w ↦
          let passes : p n ≡ true = sym c.counts.ensures ∙ w.if-counts.true in
          let longer : length c.if-counts.points.items ≤ length c.loop-entry.points.items + 256 = subst (λ (v : Vec Point Global). length v.items ≤ length c.loop-entry.points.items + 256) (sym w.points-is) w.in_ok-push_replaced.ensures.few in
          (ap (λ v. v.items) w.points-is ∙ w.in_ok-push_replaced.ensures.all ∙ ap (λ xs. xs ++ f n) c.loop-entry.invariant.0 ∙ sym (joined_more f p n passes), omega (arith, c.loop-entry.invariant.1))
      | else-counts w ↦
          let fails : p n ≡ false = sym c.counts.ensures ∙ w.if-counts.false in
          let same : length c.if-counts.points.items ≡ length c.loop-entry.points.items = ap (λ v. length v.items) w.points-is in
          (ap (λ v. v.items) w.points-is ∙ c.loop-entry.invariant.0 ∙ sym (joined_same f p n fails), omega (arith, c.loop-entry.invariant.1))
    ]
