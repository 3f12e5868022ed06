use Rattle.std.proofs.Common.{ℕ, ◌<◌, false, List, length, get_or, inl, inr, arith, sym}
use Rattle.std.proofs.lemmas.Bool.{cases_lt}
use Rattle.ot_base.specs.Places.{same_place}
use Rattle.jump_tables.specs.declared.jump.Jump.{Jump}
use Rattle.jump_tables.proofs.Finding.{found_at, none_passes}
use Rattle.jump_tables.proofs.JumpOrder.{before_is_other, behind_is_other}
use Rattle.jump_tables.proofs.jump.find_jump.Goals as goal

abbrev none : Jump
none = record { place = record { sec = 0; off = 0 }; table = record { sec = 0; off = 0 }; named = false }

pub returns-then-at-jumps : goal.returns-then-at-jumps
returns-then-at-jumps c =
    sym (none_passes (λ (j : Jump). same_place j.place c.args.place) c.args.jumps.now none (λ k inside. before_is_other (get_or c.args.jumps.now k none).place c.args.place (c.count_before-at.ensures.below k none (omega (arith, c.if-at-jumps.true)))))

pub returns-then-same_place : goal.returns-then-same_place
returns-then-same_place c =
    let jumps : List Jump = c.args.jumps.now in
    let at : ℕ = c.count_before-at.result in
    sym (found_at (λ (j : Jump). same_place j.place c.args.place) jumps at none c.if-at-jumps.false (λ k lower. before_is_other (get_or jumps k none).place c.args.place (c.count_before-at.ensures.below k none lower)) (sym c.if-same_place.ensures))

pub returns-else-same_place : goal.returns-else-same_place
returns-else-same_place c =
    let jumps : List Jump = c.args.jumps.now in
    let at : ℕ = c.count_before-at.result in
    let here : at < length jumps = c.if-at-jumps.false in
    sym (none_passes (λ (j : Jump). same_place j.place c.args.place) jumps none (λ k inside.
    elim (cases_lt k at) [
      | inl lower ↦ before_is_other (get_or jumps k none).place c.args.place (c.count_before-at.ensures.below k none lower)
      | inr not_lower ↦
          behind_is_other c.args.place (get_or jumps at none).place (get_or jumps k none).place
          (c.count_before-at.ensures.from at none (omega arith) here)
          (sym c.if-same_place.ensures)
          (c.requires at k none not_lower inside)
    ]))
