use Rattle.std.proofs.Common.{◌≡◌, ℕ, length, Bool, sym, ap, ◌∙◌, arith}
use Rattle.std.specs.Prelude.{filter}
use Rattle.std.specs.List.{range_with_len}
use Rattle.orc_output.proofs.NeededSections.{is_unnamed, unnamed-is, none_more, one_more}
use Rattle.orc_output.proofs.symbols.unnamed_sections.Goals as goal
use Rattle.orc_output.proofs.symbols.unnamed_sections.Goals.{then-needs_symbol+in_ok-push, else-needs_symbol}

pub loop-sec-preserved : goal.loop-sec-preserved
loop-sec-preserved c =
    let o = c.args.object.now in
    let sec : ℕ = c.loop-sec.sec in
    let p : ℕ → Bool = is_unnamed o c.args.marks.now in
    let is : c.needs_symbol.result ≡ p sec = c.needs_symbol.ensures in
    elim c.if-needs_symbol.branch [
      | then-needs_symbol+in_ok-push w ↦ one_more p sec c.loop-sec.secs.items c.if-needs_symbol.secs.items c.loop-sec.invariant (sym is ∙ w.if-needs_symbol.true) (rw w.secs-is w.in_ok-push.ensures.items)
      | else-needs_symbol w ↦ rw w.secs-is (none_more p sec c.loop-sec.secs.items c.loop-sec.invariant (sym is ∙ w.if-needs_symbol.false))
    ]

pub returns : goal.returns
returns c =
    let o = c.args.object.now in
    let end : c.loop-sec.sec ≡ length o.sections = omega arith in
    c.loop-sec.invariant ∙ ap (λ (n : ℕ). filter (is_unnamed o c.args.marks.now) (range_with_len 0 n)) end ∙ sym (unnamed-is o c.args.marks.now)
