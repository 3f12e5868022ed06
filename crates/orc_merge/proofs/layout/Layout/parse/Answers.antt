use Rattle.std.proofs.Common.{ℕ, List, [], map, take, sym, ap, ◌∙◌, subst, Bor}
use Rattle.orc_merge.specs.LayoutFile.{IsLayoutFault}
use Rattle.orc_merge.proofs.LayoutLemmas.{no_fault_more, holds_more, first_fault, all_read, no_fault_at_all}
use Rattle.orc_merge.proofs.layout.Layout.parse.Goals as goal

abbrev none : Bor (List ℕ)
none = record { ref_ptr = (0, 0); now = [] }

pub returns-in-Err-clause-fault : goal.returns-in-Err-clause-fault
returns-in-Err-clause-fault c =
    let xs = c.deref-line-items.result.now in
    let i = c.loop-index.index in
    let same = ap (map (λ line. line.now)) c.deref-line-items.ensures.value ∙ c.in_ok-lines.ensures in
    subst (IsLayoutFault c.args.bytes.now) (sym c.at.ensures) (first_fault (λ line. line.now) xs c.args.bytes.now i none c.in-Err.fault same c.loop-index-test.true c.loop-index.invariant.no_fault (c.in-Err.ensures (take i (map (λ line. line.now) xs)) c.loop-index.invariant.holds))

pub loop-index-preserved : goal.loop-index-preserved
loop-index-preserved c =
    let xs = c.deref-line-items.result.now in
    let i = c.loop-index.index in
    let read = c.in_default.ensures (take i (map (λ line. line.now) xs)) c.loop-index.invariant.holds in
    record {
      holds = holds_more (λ line. line.now) xs i none c.read.new.self c.loop-index-test.true read.1;
      no_fault = no_fault_more (λ line. line.now) xs i none c.loop-index-test.true c.loop-index.invariant.no_fault read.0;
    }

pub returns-clause-files : goal.returns-clause-files
returns-clause-files c =
    let xs = c.deref-line-items.result.now in
    let same = ap (map (λ line. line.now)) c.deref-line-items.ensures.value ∙ c.in_ok-lines.ensures in
    let all = all_read (λ line. line.now) xs c.args.bytes.now c.loop-index.index c.loop-index.reading same c.loop-index-test.false c.loop-index.invariant.holds in
    all.files

pub returns-clause-grammar : goal.returns-clause-grammar
returns-clause-grammar c =
    let xs = c.deref-line-items.result.now in
    let same = ap (map (λ line. line.now)) c.deref-line-items.ensures.value ∙ c.in_ok-lines.ensures in
    no_fault_at_all (λ line. line.now) xs c.args.bytes.now c.loop-index.index same c.loop-index-test.false c.loop-index.invariant.no_fault
