-- There is none behind those before it, or another one stands there.
use Rattle.std.proofs.Common.{◌<◌, length, arith}
use Rattle.std.specs.Prelude.{pos}
use Rattle.std.proofs.lemmas.Option.{get_or_from_slice_get, slice_get_within}
use Rattle.ot_base.specs.declared.warning.Warning.{Warning}
use Rattle.ot_base.specs.Warnings.{numbered_warning}
use Rattle.state_ways.proofs.Ascending.{not_listed}
use Rattle.state_ways.proofs.listed.look_up.Goals as goal

pub returns-then-place-warnings : goal.returns-then-place-warnings
returns-then-place-warnings c =
    let key : Warning = numbered_warning c.args.key.place 4 c.args.key.kept c.args.key.found in
    not_listed c.args.warnings.now c.requires key c.count_before-place.result c.count_before-place.ensures.before c.count_before-place.ensures.behind (λ e. let l : c.count_before-place.result < length c.args.warnings.now = slice_get_within c.args.warnings.now c.count_before-place.result key e in omega (arith, l, c.if-place-warnings.true))

pub returns-then-not-tells : goal.returns-then-not-tells
returns-then-not-tells c =
    let key : Warning = numbered_warning c.args.key.place 4 c.args.key.kept c.args.key.found in
    let d : Warning = record { place = record { sec = 0; off = 0 }; rule = 0; a = pos 0; b = pos 0 } in
    not_listed c.args.warnings.now c.requires key c.count_before-place.result c.count_before-place.ensures.before c.count_before-place.ensures.behind (λ e. let k = c.tells.ensures.1 (get_or_from_slice_get c.args.warnings.now c.count_before-place.result key d e) in let h = c.if-not-tells.true in grind arith)
