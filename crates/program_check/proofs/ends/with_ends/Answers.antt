-- The first section that has rows, its end, and the rows of the others.
use Rattle.std.proofs.Common.{◌≡◌, ◌<◌, ℕ, ◌++◌, ◌∷◌, [], List, length, take, drop, map, get_or, sym, ap, subst, ◌∙◌, arith}
use Rattle.std.proofs.lemmas.List.{at_drop_more, take_rest}
use Rattle.ot_base.specs.declared.row.PlacedRow.{PlacedRow}
use Rattle.program_graph.specs.declared.parts.TextSection.{TextSection}
use Rattle.program_graph.specs.Tells.{text_of}
use Rattle.program_check.specs.Ends.{in_front, with_ends}
use Rattle.program_check.proofs.Ended.{take_front, end_added, no_end}
use Rattle.program_check.proofs.ends.with_ends.Goals as goal
use Rattle.program_check.proofs.ends.with_ends.Goals.{then-count-ne0+in_ok-push, else-count-ne0}

none : TextSection
none = record { sec = 0; size = 0 }

pub returns : goal.returns
unfolding none
returns c =
    let texts : List TextSection = c.without_first_empty-texts.result.now in
    let text : TextSection = get_or texts 0 none in
    let changes : List PlacedRow = c.args.changes.items in
    let after : List TextSection = drop 1 texts in
    let n : ℕ = c.count_in-count.result in
    let count : n ≡ length (in_front text.sec changes) = c.count_in-count.ensures.front ∙ ap (λ (xs : List PlacedRow). length (in_front text.sec xs)) c.as_slice-2.ensures.value in
    let front : take n changes ≡ in_front text.sec changes = ap (λ (m : ℕ). take m changes) count ∙ take_front text.sec changes in
    let rest : c.as_slice-3.result.now ≡ drop n changes = c.as_slice-3.ensures.value ∙ (c.in_ok-rest.ensures.items ∙ (take_rest c.deref.result.now n ∙ ap (λ (xs : List PlacedRow). drop n xs) c.deref.ensures.value)) in
    let behind : c.as_slice-3.result.now ≡ drop (length (in_front text.sec changes)) changes = rest ∙ ap (λ (m : ℕ). drop m changes) count in
    let long : length (take n changes) ≡ n = ap length front ∙ sym count in
    let some : 0 < length texts = (let h = c.if-is_empty.false in let e = c.is_empty.ensures in grind arith) in
    let more : with_ends (map text_of texts) changes ≡ with_ends (text_of text ∷ map text_of after) changes = at_drop_more (λ (ts : List TextSection). with_ends (map text_of ts) changes) texts 0 none some in
    let skipped : with_ends (map text_of texts) changes ≡ with_ends (map text_of c.args.texts.now) changes = subst (λ (xs : List PlacedRow). with_ends (map text_of texts) xs ≡ with_ends (map text_of c.args.texts.now) xs) c.as_slice.ensures.value c.without_first_empty-texts.ensures in
    let truncated : c.truncate.new.self.items ≡ take n changes = c.truncate.ensures.items in
    elim c.if-count-ne0.branch [
      | then-count-ne0+in_ok-push w ↦
          let is = w.rows-is in
          let pushed = w.in_ok-push.ensures.items in
          let end = w.end_row.ensures in
          c.in_ok-push_sections.ensures
          ∙ ap (λ (ts : List TextSection). c.if-count-ne0.rows.items ++ with_ends (map text_of ts) c.as_slice-3.result.now) (take_rest texts 1)
          ∙ (rw (is, pushed, truncated, end) (end_added (text_of text) (map text_of after) [] changes (take n changes) c.as_slice-3.result.now front behind (λ e. w.if-count-ne0.true (sym long ∙ e))))
          ∙ sym more ∙ skipped
      | else-count-ne0 w ↦
          let is = w.rows-is in
          c.in_ok-push_sections.ensures
          ∙ ap (λ (ts : List TextSection). c.if-count-ne0.rows.items ++ with_ends (map text_of ts) c.as_slice-3.result.now) (take_rest texts 1)
          ∙ (rw (is, truncated) (no_end (text_of text) (map text_of after) [] changes (take n changes) c.as_slice-3.result.now front behind (long ∙ w.if-count-ne0.false)))
          ∙ sym more ∙ skipped
    ]
