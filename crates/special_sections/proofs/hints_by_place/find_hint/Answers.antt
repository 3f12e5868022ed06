use Rattle.std.proofs.Common.{◌≡◌, ℕ, ◌+◌, ◌-◌, ◌<◌, true, false, List, length, get_or, inl, inr, sym, pos, arith}
use Rattle.std.proofs.lemmas.Bool.{cases_lt}
use Rattle.ot_base.specs.Places.{is_before, same_place}
use Rattle.special_sections.specs.declared.entries.HintEntry.{HintEntry}
use Rattle.special_sections.proofs.Finding.{found_last, found_nowhere}
use Rattle.special_sections.proofs.Order.{behind_is_other, front_is_other}
use Rattle.special_sections.proofs.hints_by_place.find_hint.Goals as goal
use Rattle.special_sections.proofs.hints_by_place.find_hint.Goals.{else-count-gt0-via-then-count-gt0+else-eq, else-count-gt0-via-else-count-gt0}

abbrev none : HintEntry
none = record { place = record { sec = 0; off = 0 }; sp_offset = pos 0; sp_reg = 0; kind = 0; signal = false }

pub returns-then-eq : goal.returns-then-eq
returns-then-eq c =
    let hints : List HintEntry = c.args.hints.now in
    let at : ℕ = c.count_to-count.result - 1 in
    let here : same_place (get_or hints at none).place c.args.place ≡ true = sym c.if-eq.ensures in
    sym
    (found_last (λ (h : HintEntry). same_place h.place c.args.place) hints at none (omega (arith, c.count_to-count.ensures.within, c.if-count-gt0.true))
    (λ k behind inside. behind_is_other (get_or hints k none).place c.args.place (c.count_to-count.ensures.behind k none (omega (arith, c.if-count-gt0.true)) inside)) here)

pub returns-else-count-gt0 : goal.returns-else-count-gt0
returns-else-count-gt0 c =
    let hints : List HintEntry = c.args.hints.now in
    let count : ℕ = c.count_to-count.result in
    let behind_is : (k : ℕ) → k < length hints → count < k + 1 → same_place (get_or hints k none).place c.args.place ≡ false = λ k inside behind. behind_is_other (get_or hints k none).place c.args.place (c.count_to-count.ensures.behind k none (omega arith) inside) in
    elim c.else-count-gt0.branch [
      | else-count-gt0-via-then-count-gt0+else-eq w ↦
          let at : ℕ = count - 1 in
          let other : same_place (get_or hints at none).place c.args.place ≡ false = sym w.if-eq.ensures in
          let up_to : is_before c.args.place (get_or hints at none).place ≡ false = c.count_to-count.ensures.upto at none (omega (arith, w.if-count-gt0.true)) in
          let last : at < length hints = omega (arith, w.if-count-gt0.true, c.count_to-count.ensures.within) in
          sym (found_nowhere (λ (h : HintEntry). same_place h.place c.args.place) hints none (λ k inside.
          elim (cases_lt k count) [
            | inl lower ↦ front_is_other (get_or hints at none).place (get_or hints k none).place c.args.place up_to (c.requires k at none (omega (arith, lower, w.if-count-gt0.true)) last) other
            | inr not_lower ↦ behind_is k inside (omega arith)
          ]))
      | else-count-gt0-via-else-count-gt0 w ↦
          sym (found_nowhere (λ (h : HintEntry). same_place h.place c.args.place) hints none (λ k inside. behind_is k inside (omega (arith, w.if-count-gt0.false))))
    ]
