-- Without a warning no rule is broken.
use Rattle.std.specs.Prelude.{refl}
use Rattle.program_check.proofs.Empty.{is_empty, is_longer}
use Rattle.program_check.proofs.Sums.{nothing_accepts, none_is_broken}
use Rattle.program_check.proofs.verdict.check_stack.Goals as goal

pub new-requires-clause-accepted : goal.new-requires-clause-accepted
new-requires-clause-accepted c =
    let none = is_empty c.is_empty.result c.in_ok-warnings.warnings.len c.in_ok-warnings.warnings.items c.is_empty.ensures c.in_ok-warnings.warnings.ok.0 c.if-is_empty.true in
    let p = c.requires.program.0 in
    let ch = c.requires.program.1 in
    ∣ (p, ch, nothing_accepts p c.args.options c.in_ok-warnings.warnings.items none (c.in_ok-warnings.ensures.broken p ch)) ∣₁

pub new-requires-clause-listed : goal.new-requires-clause-listed
new-requires-clause-listed c = ∣ c.in_ok-points.ensures.listed ∣₁

pub returns-then-is_empty : goal.returns-then-is_empty
returns-then-is_empty c p ch =
    let none = is_empty c.is_empty.result c.in_ok-warnings.warnings.len c.in_ok-warnings.warnings.items c.is_empty.ensures c.in_ok-warnings.warnings.ok.0 c.if-is_empty.true in
    record {
      graph = c.new.ensures.graph;
      kept = c.new.ensures.kept;
      accepted = nothing_accepts p c.args.options c.in_ok-warnings.warnings.items none (c.in_ok-warnings.ensures.broken p ch);
      unbroken = none_is_broken p c.args.options c.in_ok-warnings.warnings.items none (c.in_ok-warnings.ensures.broken p ch);
    }

pub returns-else-is_empty : goal.returns-else-is_empty
returns-else-is_empty c p ch = record {
  graph = refl;
  some = is_longer c.is_empty.result c.in_ok-warnings.warnings.len c.in_ok-warnings.warnings.items c.is_empty.ensures c.in_ok-warnings.warnings.ok.0 (search);
  ascending = c.in_ok-warnings.ensures.ascending;
  broken = c.in_ok-warnings.ensures.broken p ch;
}
