use Rattle.std.proofs.Common.{◌≡◌, ◌<◌, ◌+◌, ◌-◌, ap, sym, refl, length, arith}
use Rattle.std.specs.Prelude.{string_bytes}
use Rattle.orc_merge.proofs.LayoutLemmas.{not_again, place_fits, place_held, with_places}
use Rattle.orc_merge.proofs.layout.Reading.add_place.Goals as goal

pub returns : goal.returns
returns c = λ files is.
    let old = c.args.self.now in
    let count = c.len-count.result in
    let one = c.index_mut.result.now in
    let some : 0 < length old.files.items = omega (arith, c.len-count.ensures, c.if-count-eq0.false, old.files.ok.0) in
    let last : count - 1 + 1 ≡ length old.files.items = omega (arith, c.len-count.ensures, c.if-count-eq0.false, old.files.ok.0) in
    let new = not_again _ _ c.in_ok-is_new.ensures.added c.if-not-is_new.false in (
      place_fits files old c.args.section c.args.base is some new,
      place_held files old _ c.args.section c.args.base (count - 1) one (record { name = one.name; places = c.push.new.self }) is last (sym c.index_mut.ensures.value) refl (ap (with_places (string_bytes one.name)) c.in_ok-push.ensures.items) c.in_ok-is_new.ensures.updates,
    )
