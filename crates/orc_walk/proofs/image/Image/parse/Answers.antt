use Rattle.std.proofs.Common.{ℕ, ◌+◌, List, [], map, take, sym, ap, ◌∙◌, subst, Bor}
use Rattle.orc_walk.specs.Lines.{lines}
use Rattle.orc_walk.specs.ImageFile.{IsImageFault, sayings}
use Rattle.orc_walk.proofs.ImageLemmas.{no_fault_more, holds_more, first_fault, all_read, no_fault_at_all, line_behind, image_said, registers_lacked}
use Rattle.orc_walk.proofs.image.Image.parse.Goals as goal

abbrev none : Bor (List ℕ)
none = record { ref_ptr = (0, 0); now = [] }

pub returns-in-Err-clause-fault : goal.returns-in-Err-clause-fault
returns-in-Err-clause-fault c =
    let xs = c.deref-line-items.result.now in
    let i = c.loop-index.index in
    let same = ap (map (λ line. line.now)) c.deref-line-items.ensures.value ∙ c.in_ok-lines.ensures in
    subst (IsImageFault c.args.bytes.now) (sym c.at.ensures) (first_fault (λ line. line.now) xs c.args.bytes.now i none c.in-Err.fault same c.loop-index-test.true c.loop-index.invariant.no_fault (c.in-Err.ensures.reads (take i (map (λ line. line.now) xs)) c.loop-index.invariant.holds))

pub loop-index-preserved : goal.loop-index-preserved
loop-index-preserved c =
    let xs = c.deref-line-items.result.now in
    let i = c.loop-index.index in
    let read = c.in_default.ensures.reads (take i (map (λ line. line.now) xs)) c.loop-index.invariant.holds in
    record {
      sound = c.in_default.ensures.sound;
      holds = holds_more (λ line. line.now) xs i none c.read.new.self c.loop-index-test.true read.1;
      no_fault = no_fault_more (λ line. line.now) xs i none c.loop-index-test.true c.loop-index.invariant.no_fault read.0;
    }

pub returns-clause-image : goal.returns-clause-image
returns-clause-image c =
    let xs = c.deref-line-items.result.now in
    let same = ap (map (λ line. line.now)) c.deref-line-items.ensures.value ∙ c.in_ok-lines.ensures in
    let clean = no_fault_at_all (λ line. line.now) xs c.args.bytes.now c.loop-index.index same c.loop-index-test.false c.loop-index.invariant.no_fault in
    let all = all_read (λ line. line.now) xs c.args.bytes.now c.loop-index.index c.loop-index.reading same c.loop-index-test.false c.loop-index.invariant.holds in
    image_said c.args.bytes.now _ c.finish.result clean (c.finish.ensures (sayings (lines c.args.bytes.now)) all)

pub returns-clause-fault : goal.returns-clause-fault
returns-clause-fault c =
    let xs = c.deref-line-items.result.now in
    let same = ap (map (λ line. line.now)) c.deref-line-items.ensures.value ∙ c.in_ok-lines.ensures in
    let clean = no_fault_at_all (λ line. line.now) xs c.args.bytes.now c.loop-index.index same c.loop-index-test.false c.loop-index.invariant.no_fault in
    let all = all_read (λ line. line.now) xs c.args.bytes.now c.loop-index.index c.loop-index.reading same c.loop-index-test.false c.loop-index.invariant.holds in
    registers_lacked c.args.bytes.now _ c.finish.result (ap (λ n. n + 1) (c.len.ensures ∙ sym c.deref-line-items.ensures.len) ∙ line_behind (λ line. line.now) xs c.args.bytes.now same) clean (c.finish.ensures (sayings (lines c.args.bytes.now)) all)
