use Rattle.std.proofs.Common.{◌≡◌, ◌+◌, ◌++◌, ◌∷◌, [], ◌≤◌, List, length, take, arith, sym, ap, ◌∙◌, append-nil, append_assoc}
use Rattle.std.proofs.lemmas.List.{take_all, take_more}
use Rattle.std.proofs.lemmas.Option.{get_or_from_slice_get, slice_get_within}
use Rattle.operation_defs.specs.declared.insn.Insn.{Insn}
use Rattle.alternatives.proofs.points.push_all.Goals as goal

pub loop-n-init : goal.loop-n-init
loop-n-init c = sym (append-nil c.args.insns.now)

pub loop-n-preserved : goal.loop-n-preserved
loop-n-preserved c =
    let more : List Insn = c.args.more.now in
    let insn : Insn = c.get.result in
    let taken : take (c.loop-n.n + 1) more ≡ take c.loop-n.n more ++ insn ∷ [] =
    take_more more c.loop-n.n insn (slice_get_within more c.loop-n.n insn c.get.ensures)
    ∙ ap (λ i. take c.loop-n.n more ++ i ∷ []) (get_or_from_slice_get more c.loop-n.n insn insn c.get.ensures) in
    c.in_ok-push.ensures
    ∙ ap (λ is. is ++ insn ∷ []) c.loop-n.invariant
    ∙ append_assoc c.args.insns.now (take c.loop-n.n more) (insn ∷ [])
    ∙ ap (λ is. c.args.insns.now ++ is) (sym taken)

pub returns : goal.returns
returns c =
    let past : length c.args.more.now ≤ c.loop-n.n = omega (arith, c.loop-n-test.false, c.loop-n.auto.n-end, c.len-n-end.ensures) in
    c.loop-n.invariant ∙ ap (λ is. c.args.insns.now ++ is) (take_all c.loop-n.n c.args.more.now past)
