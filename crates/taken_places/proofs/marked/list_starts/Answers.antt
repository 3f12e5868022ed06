use Rattle.std.proofs.Common.{ℕ, ◌+◌, sym, ap, subst, ◌∙◌}
use Rattle.std.specs.Prelude.{List}
use Rattle.taken_places.specs.Marks.{AreStarts}
use Rattle.taken_places.proofs.MarkedNames.{starts_more, starts_same}
use Rattle.taken_places.proofs.marked.list_starts.Goals as goal
use Rattle.taken_places.proofs.marked.list_starts.Goals.{then-begins_at+in_ok-push, else-begins_at}

pub loop-at-preserved : goal.loop-at-preserved
loop-at-preserved c =
    let text : List ℕ = c.args.text.now in
    let table : List ℕ = c.args.table.now in
    let at : ℕ = c.loop-at.at in
    elim c.if-begins_at.branch [
      | then-begins_at+in_ok-push w ↦
          subst (AreStarts text table (at + 1)) (sym (ap (λ starts. starts.items) w.starts-is ∙ w.in_ok-push.ensures.items))
          (starts_more text table at c.loop-at.starts.items (sym c.begins_at.ensures ∙ w.if-begins_at.true) c.loop-at.invariant)
      | else-begins_at w ↦
          subst (AreStarts text table (at + 1)) (sym (ap (λ starts. starts.items) w.starts-is))
          (starts_same text table at c.loop-at.starts.items (sym c.begins_at.ensures ∙ w.if-begins_at.false) c.loop-at.invariant)
    ]
