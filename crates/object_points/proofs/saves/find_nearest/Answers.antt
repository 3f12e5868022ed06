use Rattle.std.proofs.Common.{◌≡◌, ◌-◌, ◌<◌, ℕ, eqb, get_or, None, sym, ◌∙◌, arith}
use Rattle.flow_defs.specs.Tables.{same_owner}
use Rattle.object_points.specs.declared.saves.SavePoint.{SavePoint}
use Rattle.object_points.proofs.Below.{elsewhere, last_is_nearest, none_is_below, other_owner, owners_equal}
use Rattle.object_points.proofs.saves.find_nearest.Goals as goal
use Rattle.object_points.proofs.saves.find_nearest.Goals.{else-eq-via-then-eq+else-save-address, else-eq-via-else-eq}

abbrev none : SavePoint
none = record { owner = None; address = record { sec = 0; off = 0 }; variant = 0; number = 0 }

pub returns-then-save-address : goal.returns-then-save-address
returns-then-save-address c =
    let count : ℕ = c.count_before-count.result in
    let last : SavePoint = get_or c.args.saves.now (count - 1) none in
    let some : 0 < count = omega (arith, c.if-count-eq0.false) in (
      count - 1,
      last_is_nearest c.args.saves.now c.args.owner c.args.address count none c.requires some c.count_before-count.ensures.within c.count_before-count.ensures.before c.count_before-count.ensures.behind
          (sym (owners_equal last.owner c.args.owner) ∙ sym c.eq.ensures ∙ c.if-eq.true) c.if-save-address.true,
    )

pub returns-else-eq : goal.returns-else-eq
returns-else-eq c =
    let count : ℕ = c.count_before-count.result in
    let last : SavePoint = get_or c.args.saves.now (count - 1) none in
    let some : 0 < count = omega (arith, c.if-count-eq0.false) in
    let mine : c.eq.result ≡ same_owner c.args.owner last.owner = c.eq.ensures ∙ owners_equal last.owner c.args.owner in
    none_is_below c.args.saves.now c.args.owner c.args.address count none c.requires some c.count_before-count.ensures.within c.count_before-count.ensures.before c.count_before-count.ensures.behind
    (elim c.else-eq.branch [
      | else-eq-via-then-eq+else-save-address w ↦ elsewhere (same_owner c.args.owner last.owner) last.address.sec c.args.address.sec w.if-save-address.false
      | else-eq-via-else-eq w ↦ other_owner (same_owner c.args.owner last.owner) (eqb last.address.sec c.args.address.sec) (sym mine ∙ w.if-eq.false)
    ])
