use Rattle.std.proofs.Common.{◌≡◌, ◌-◌, ◌<◌, ◌≤◌, ℕ, true, false, List, length, get_or, sym, ap, ◌∙◌, subst, arith}
use Rattle.std.proofs.lemmas.List.{get_or_default}
use Rattle.symbols_relocs.specs.declared.extents.Extent.{Extent}
use Rattle.symbols_relocs.specs.Extents.{end_of, has_byte}
use Rattle.symbols_relocs.proofs.ExtentOrder.{no_extent, set_reach, set_same}
use Rattle.symbols_relocs.proofs.extents.extend.Goals as goal

-- an element that is read is the one at its index, at any default
own : (es : List Extent) (k : ℕ) (x : Extent) → k < length es → x ≡ get_or es k x → x ≡ get_or es k no_extent
own es k x inside is = is ∙ get_or_default es k x no_extent inside

pub returns-clause-reach : goal.returns-clause-reach
returns-clause-reach c =
    let es : List Extent = c.args.extents.now.items in
    let y : Extent = c.with_reach.result in
    let here : c.index.result.now ≡ get_or es c.args.k no_extent = own es c.args.k c.index.result.now c.requires.inside c.index.ensures in
    let before : c.index-2.result.now ≡ get_or es (c.args.k - 1) no_extent = own es (c.args.k - 1) c.index-2.result.now (omega (arith, c.requires.inside)) c.index-2.ensures in
    set_reach es c.args.k y c.requires.first c.requires.inside c.requires.sorted c.requires.reach
    (c.with_reach.ensures.start ∙ ap (λ (e : Extent). e.start) here)
    (subst (λ (e : Extent). end_of e ≤ end_of y) here c.with_reach.ensures.own)
    (λ same. subst (λ (e : Extent). end_of e ≤ end_of y) before (c.with_reach.ensures.reaches (ap (λ (e : Extent). e.start.sec) here ∙ same ∙ ap (λ (e : Extent). e.start.sec) (sym before))))
    (λ place h other. subst (λ (e : Extent). has_byte place e ≡ true) before (c.with_reach.ensures.bytes place h (subst (λ (e : Extent). has_byte place e ≡ false) (sym here) other)))

pub returns-clause-same : goal.returns-clause-same
returns-clause-same c =
    let es : List Extent = c.args.extents.now.items in
    let y : Extent = c.with_reach.result in
    let here : c.index.result.now ≡ get_or es c.args.k no_extent = own es c.args.k c.index.result.now c.requires.inside c.index.ensures in
    let before : c.index-2.result.now ≡ get_or es (c.args.k - 1) no_extent = own es (c.args.k - 1) c.index-2.result.now (omega (arith, c.requires.inside)) c.index-2.ensures in
    set_same es c.args.k y c.requires.first c.requires.inside c.requires.sorted c.requires.reach
    (c.with_reach.ensures.start ∙ ap (λ (e : Extent). e.start) here)
    (subst (λ (e : Extent). end_of e ≤ end_of y) here c.with_reach.ensures.own)
    (λ same. subst (λ (e : Extent). end_of e ≤ end_of y) before (c.with_reach.ensures.reaches (ap (λ (e : Extent). e.start.sec) here ∙ same ∙ ap (λ (e : Extent). e.start.sec) (sym before))))
    (λ place h other. subst (λ (e : Extent). has_byte place e ≡ true) before (c.with_reach.ensures.bytes place h (subst (λ (e : Extent). has_byte place e ≡ false) (sym here) other)))
