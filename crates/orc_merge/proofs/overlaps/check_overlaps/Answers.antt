use Rattle.std.proofs.Common.{Some, ap, sym, ◌∙◌, inr, get_or, arith}
use Rattle.std.proofs.lemmas.List.{get_or_read}
use Rattle.orc_merge.specs.Overlaps.{numbered, overlapped}
use Rattle.orc_merge.specs.Parts.{OwnedRange}
use Rattle.orc_merge.proofs.OverlapLemmas.{placing_told, placing_fits}
use Rattle.orc_merge.proofs.overlaps.check_overlaps.Goals as goal

nobody : OwnedRange
nobody = (0, record { sec = 0; base = 0; size = 0 })

pub index-requires : goal.index-requires
index-requires c =
    let told = placing_told c.args.parts.now c.in_ok-owned.owned.items c.deref-2.result.now _ c.in-Err-At-default-Overlaps.sec c.in-Err-At-default-Overlaps.other nobody c.requires.laid_out c.in_ok-owned.ensures (c.deref-2.ensures.value ∙ c.in_ok-ranges.ensures ∙ ap (numbered 0) c.deref.ensures.value) c.in-Err-At-default-Overlaps.ensures.fault (cc) in
    omega (arith, told.0, c.in_ok-owned.owned.ok.0)

pub index-requires-in-Err-At-default-Overlaps : goal.index-requires-in-Err-At-default-Overlaps
index-requires-in-Err-At-default-Overlaps c =
    let told = placing_told c.args.parts.now c.in_ok-owned.owned.items c.deref-2.result.now _ c.in-Err-At-default-Overlaps.sec c.in-Err-At-default-Overlaps.other nobody c.requires.laid_out c.in_ok-owned.ensures (c.deref-2.ensures.value ∙ c.in_ok-ranges.ensures ∙ ap (numbered 0) c.deref.ensures.value) c.in-Err-At-default-Overlaps.ensures.fault (cc) in
    omega (arith, told.1, c.in_ok-owned.owned.ok.0)

pub returns-in-Err-At-default-Overlaps-clause-fault : goal.returns-in-Err-At-default-Overlaps-clause-fault
returns-in-Err-At-default-Overlaps-clause-fault c =
    let one : OwnedRange = c.index.result.now in
    let two : OwnedRange = c.index-in-Err-At-default-Overlaps.result.now in
    let owned = c.in_ok-owned.owned.items in
    let sec = c.in-Err-At-default-Overlaps.sec in
    let other = c.in-Err-At-default-Overlaps.other in
    let told = placing_told c.args.parts.now c.in_ok-owned.owned.items c.deref-2.result.now _ c.in-Err-At-default-Overlaps.sec c.in-Err-At-default-Overlaps.other one c.requires.laid_out c.in_ok-owned.ensures (c.deref-2.ensures.value ∙ c.in_ok-ranges.ensures ∙ ap (numbered 0) c.deref.ensures.value) c.in-Err-At-default-Overlaps.ensures.fault (cc) in
    inr (told.2
    ∙ ap (λ (o : OwnedRange). Some (overlapped o (get_or owned other one))) (sym c.index.ensures)
    ∙ ap (λ (o : OwnedRange). Some (overlapped one o)) (sym (get_or_read owned other two told.1 c.index-in-Err-At-default-Overlaps.ensures one)))

pub returns-clause-fits : goal.returns-clause-fits
returns-clause-fits c =
    placing_fits c.args.parts.now c.in_ok-owned.owned.items c.deref-2.result.now c.in_ok-owned.ensures (c.deref-2.ensures.value ∙ c.in_ok-ranges.ensures ∙ ap (numbered 0) c.deref.ensures.value) c.in-Ok.ensures.fits
