use Rattle.std.proofs.Common.{[], refl, sym, arith}
use Rattle.std.proofs.lemmas.List.{take_all}
use Rattle.std.proofs.lemmas.List.Elements.{All-more, All-same}
use Rattle.program_model.specs.Program.{program_of}
use Rattle.machine_model.specs.Allowed.{allowances_of}
use Rattle.machine_model.specs.Promise.{IsSafeSibling}
use Rattle.machine_model.proofs.promises.are_safe_siblings.Goals as goal

pub returns-then-not-is_safe_sibling : goal.returns-then-not-is_safe_sibling
returns-then-not-is_safe_sibling c = λ set. (
  λ h. absurd (let k : ⊥ = cc in k),
  λ all. (let safe = (c.is_safe_sibling.ensures set).1 (all c.loop-edge.edge-index _ c.loop-edge-test.true) in let fails = c.if-not-is_safe_sibling.true in grind arith),
)

pub loop-edge-preserved : goal.loop-edge-preserved
loop-edge-preserved c =
    All-more (IsSafeSibling (program_of c.args.p.now []) (allowances_of c.args.allowed.now)) c.args.edges.now c.loop-edge.edge-index _ c.loop-edge-test.true c.loop-edge.invariant
    ((c.is_safe_sibling.ensures []).0 (let passes = c.if-not-is_safe_sibling.false in grind arith))

pub returns : goal.returns
returns c = λ set. (
  λ _. All-same (IsSafeSibling (program_of c.args.p.now set) (allowances_of c.args.allowed.now)) _ _ (sym (take_all c.loop-edge.edge-index c.args.edges.now c.loop-edge-test.false)) c.loop-edge.invariant,
  λ _. refl,
)
