use Rattle.std.proofs.Common.{◌≡◌, ◌+◌, ◌-◌, ◌^◌, ◌≤◌, length, get_or, rules, ◌∙◌, None, cond, arith, sym, ap, subst}
use Rattle.std.specs.Prelude.{slice_get}
use Rattle.std.specs.Option.{option_copied}
use Rattle.std.proofs.lemmas.Bool.{le-leb}
use Rattle.orc_walk.specs.Memory.{byte_at, byte_in, piece_of}
use Rattle.orc_walk.proofs.Pieces.{IsSplit, found_at, none_found, begins_below, lent_byte, beyond}
use Rattle.orc_walk.proofs.memory.Memory.byte.Goals as goal

pub overflow_sub-at : goal.overflow_sub-at
overflow_sub-at c =
    let split = subst (λ ranges. IsSplit ranges c.in_ok-at.at c.begun-count.result) c.as_slice-ranges.ensures.value c.begun-count.ensures.split in
    begins_below c.self.inside.ranges.items c.in_ok-at.at c.begun-count.result (c.begun-count.result - 1) c.index-ranges-count.result split (omega arith) (subst (λ ranges. c.index-ranges-count.result ≡ get_or ranges (c.begun-count.result - 1) c.index-ranges-count.result) c.as_slice-ranges.ensures.value c.index-ranges-count.is)

pub returns-in_err-at : goal.returns-in_err-at
returns-in_err-at c =
    let high : 2 ^ 64 ≤ c.args.addr + c.args.above = omega (arith, c.in_err-at.ensures) in
    c.from_residual.ensures ∙ sym (ap (λ pieces. byte_at pieces (c.args.addr + c.args.above)) (sym c.self.view_is) ∙ beyond _ _ c.self.invariant high)

pub returns-then-count-eq0 : goal.returns-then-count-eq0
returns-then-count-eq0 c =
    let at : c.in_ok-at.at ≡ c.args.addr + c.args.above = search rules in
    let split = subst (λ ranges. IsSplit ranges c.in_ok-at.at c.begun-count.result) c.as_slice-ranges.ensures.value c.begun-count.ensures.split in
    let none = none_found c.self.inside.ranges.items c.in_ok-at.at (subst (λ n. IsSplit c.self.inside.ranges.items c.in_ok-at.at n) c.if-count-eq0.true split) in
    sym (ap (λ a. byte_at c.args.self.now a) (sym at) ∙ ap (λ pieces. byte_at pieces c.in_ok-at.at) (sym c.self.view_is) ∙ none)

pub returns : goal.returns
returns c =
    let at : c.in_ok-at.at ≡ c.args.addr + c.args.above = search rules in
    let split = subst (λ ranges. IsSplit ranges c.in_ok-at.at c.begun-count.result) c.as_slice-ranges.ensures.value c.begun-count.ensures.split in
    let is = subst (λ ranges. c.index-ranges-count.result ≡ get_or ranges (c.begun-count.result - 1) c.index-ranges-count.result) c.as_slice-ranges.ensures.value c.index-ranges-count.is in
    let begins : c.index-ranges-count.result.0 ≤ c.in_ok-at.at = begins_below c.self.inside.ranges.items c.in_ok-at.at c.begun-count.result (c.begun-count.result - 1) c.index-ranges-count.result split (omega arith) is in
    let got : option_copied c.get.result ≡ slice_get c.deref.result.now (c.in_ok-at.at - c.index-ranges-count.result.0) = lent_byte _ _ _ c.get.ensures.lookup in
    let found = found_at c.self.inside.ranges.items c.in_ok-at.at (c.begun-count.result - 1) c.index-ranges-count.result c.self.invariant (omega (arith, c.begun-count.ensures.bound, ap length c.as_slice-ranges.ensures.value)) (subst (λ n. IsSplit c.self.inside.ranges.items c.in_ok-at.at n) (omega arith) split) in
    c.copied.ensures
    ∙ got
    ∙ ap (λ bytes. slice_get bytes (c.in_ok-at.at - c.index-ranges-count.result.0)) c.deref.ensures.value
    ∙ sym (ap (λ a. byte_at c.args.self.now a) (sym at)
    ∙ ap (λ pieces. byte_at pieces c.in_ok-at.at) (sym c.self.view_is)
    ∙ found
    ∙ ap (λ r. byte_in (piece_of r) c.in_ok-at.at) (sym is)
    ∙ ap (λ b. cond b (slice_get c.index-ranges-count.result.1.items (c.in_ok-at.at - c.index-ranges-count.result.0)) None) (le-leb c.index-ranges-count.result.0 c.in_ok-at.at begins))
