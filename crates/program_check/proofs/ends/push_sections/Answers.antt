-- A section's rows in front, its end, and the rest.
use Rattle.std.proofs.Common.{◌≡◌, ℕ, ◌+◌, ◌++◌, ◌∷◌, [], List, length, take, drop, map, get_or, sym, ap, ◌∙◌}
use Rattle.std.proofs.lemmas.List.{at_drop_more, append-nil, drop_all}
use Rattle.ot_base.specs.declared.row.PlacedRow.{PlacedRow}
use Rattle.program_graph.specs.declared.parts.TextSection.{TextSection}
use Rattle.program_graph.specs.Tells.{text_of}
use Rattle.program_check.specs.Ends.{in_front, with_ends}
use Rattle.program_check.proofs.Ended.{take_front, end_added, no_end}
use Rattle.program_check.proofs.ends.push_sections.Goals as goal
use Rattle.program_check.proofs.ends.push_sections.Goals.{then-count-ne0+in_ok-push, else-count-ne0}

none : TextSection
none = record { sec = 0; size = 0 }

pub loop-text-preserved : goal.loop-text-preserved
unfolding none
loop-text-preserved c =
    let texts : List TextSection = c.args.texts.now in
    let i : ℕ = c.loop-text.text-index in
    let text : TextSection = get_or texts i none in
    let rest : List PlacedRow = c.loop-text.rest.now in
    let rows : List PlacedRow = c.loop-text.rows.items in
    let after : List TextSection = drop (i + 1) texts in
    let n : ℕ = c.count_in-count.result in
    let count : n ≡ length (in_front text.sec rest) = c.count_in-count.ensures.front in
    let front : c.split_at.result.0.now ≡ in_front text.sec rest = c.split_at.ensures.front ∙ (ap (λ (m : ℕ). take m rest) count ∙ take_front text.sec rest) in
    let behind : c.split_at.result.1.now ≡ drop (length (in_front text.sec rest)) rest = c.split_at.ensures.back ∙ ap (λ (m : ℕ). drop m rest) count in
    let long : length c.split_at.result.0.now ≡ n = ap length front ∙ sym count in
    let more : rows ++ with_ends (map text_of (drop i texts)) rest ≡ rows ++ with_ends (text_of text ∷ map text_of after) rest = at_drop_more (λ (ts : List TextSection). rows ++ with_ends (map text_of ts) rest) texts i none c.loop-text-test.true in
    let extended : c.extend_from_slice.new.self.items ≡ rows ++ c.split_at.result.0.now = c.in_ok-extend_from_slice.ensures.items in
    elim c.if-count-ne0.branch [
      | then-count-ne0+in_ok-push w ↦
          let is = w.rows-is in
          let rest_is = w.rest-is in
          let pushed = w.in_ok-push.ensures.items in
          let end = w.end_row.ensures in
          rw (is, rest_is, pushed, extended, end) (end_added (text_of text) (map text_of after) rows rest c.split_at.result.0.now c.split_at.result.1.now front behind (λ e. w.if-count-ne0.true (sym long ∙ e)) ∙ sym more ∙ c.loop-text.invariant)
      | else-count-ne0 w ↦
          let is = w.rows-is in
          let rest_is = w.rest-is in
          rw (is, rest_is, extended) (no_end (text_of text) (map text_of after) rows rest c.split_at.result.0.now c.split_at.result.1.now front behind (long ∙ w.if-count-ne0.false) ∙ sym more ∙ c.loop-text.invariant)
    ]

pub returns : goal.returns
returns c =
    let none_left : drop c.loop-text.text-index c.args.texts.now ≡ [] = drop_all c.loop-text.text-index c.args.texts.now c.loop-text-test.false in
    sym (append-nil c.loop-text.rows.items) ∙ ap (λ (ts : List TextSection). c.loop-text.rows.items ++ with_ends (map text_of ts) c.loop-text.rest.now) (sym none_left) ∙ c.loop-text.invariant
