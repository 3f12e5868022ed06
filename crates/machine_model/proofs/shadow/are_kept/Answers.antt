use Rattle.std.proofs.Common.{refl, sym}
use Rattle.std.proofs.lemmas.List.{take_all}
use Rattle.std.proofs.lemmas.List.Elements.{All-more, All-same}
use Rattle.machine_model.specs.Frame.{IsWordKept}
use Rattle.machine_model.proofs.Frames.{words_kept}
use Rattle.machine_model.proofs.shadow.are_kept.Goals as goal

pub loop-word-preserved : goal.loop-word-preserved
loop-word-preserved c =
    All-more (IsWordKept c.args.rsp c.args.region.now) c.deref-word-items.result.now c.loop-word.word-index _ c.loop-word-test.true c.loop-word.invariant
    (c.if-not-is_word_kept.ensures refl)

pub returns : goal.returns
returns c = λ _.
    words_kept c.args.rsp c.args.region.now c.args.frames.now c.in_ok-words.words.items c.in_ok-words.ensures
    (All-same (IsWordKept c.args.rsp c.args.region.now) _ _ (sym c.deref-word-items.ensures.value)
    (All-same (IsWordKept c.args.rsp c.args.region.now) _ _ (sym (take_all c.loop-word.word-index c.deref-word-items.result.now c.loop-word-test.false)) c.loop-word.invariant))
