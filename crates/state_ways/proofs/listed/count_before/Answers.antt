-- The middle one comes before the mismatch's, or doesn't.
use Rattle.std.proofs.Common.{◌≡◌, ◌<◌, ◌+◌, ◌-◌, ◌/◌, ℕ, Some, get_or, slice_get, arith}
use Rattle.std.specs.Prelude.{pos}
use Rattle.std.proofs.lemmas.Option.{slice_get-get_or}
use Rattle.ot_base.specs.declared.warning.Warning.{Warning}
use Rattle.ot_base.specs.Warnings.{numbered_warning}
use Rattle.state_ways.proofs.Ascending.{before_more, behind_more}
use Rattle.state_ways.proofs.listed.count_before.Goals as goal

pub loop-low-preserved-then-comes_before : goal.loop-low-preserved-then-comes_before
loop-low-preserved-then-comes_before c =
    let key : Warning = numbered_warning c.args.key.place 4 c.args.key.kept c.args.key.found in
    let m : ℕ = c.loop-low.low + (c.loop-low.high - c.loop-low.low) / 2 in
    let d : Warning = record { place = record { sec = 0; off = 0 }; rule = 0; a = pos 0; b = pos 0 } in
    let low : c.loop-low.low < c.loop-low.high = c.loop-low-test.true in
    let inside : m < c.loop-low.high = omega arith in
    let e : slice_get c.args.warnings.now m ≡ Some (get_or c.args.warnings.now m d) = slice_get-get_or c.args.warnings.now m d (omega (arith, inside, c.loop-low.invariant.within)) in
    record {
      order = omega (arith, inside);
      within = c.loop-low.invariant.within;
      before = before_more c.args.warnings.now c.requires key (get_or c.args.warnings.now m d) m e (c.comes_before.ensures.0 (let h = c.if-comes_before.true in grind arith));
      behind = c.loop-low.invariant.behind;
    }

pub loop-low-preserved : goal.loop-low-preserved
loop-low-preserved c =
    let key : Warning = numbered_warning c.args.key.place 4 c.args.key.kept c.args.key.found in
    let m : ℕ = c.loop-low.low + (c.loop-low.high - c.loop-low.low) / 2 in
    let d : Warning = record { place = record { sec = 0; off = 0 }; rule = 0; a = pos 0; b = pos 0 } in
    let low : c.loop-low.low < c.loop-low.high = c.loop-low-test.true in
    let inside : m < c.loop-low.high = omega arith in
    let e : slice_get c.args.warnings.now m ≡ Some (get_or c.args.warnings.now m d) = slice_get-get_or c.args.warnings.now m d (omega (arith, inside, c.loop-low.invariant.within)) in
    record {
      order = omega arith;
      within = omega (arith, inside, c.loop-low.invariant.within);
      before = c.loop-low.invariant.before;
      behind = behind_more c.args.warnings.now c.requires key (get_or c.args.warnings.now m d) m e (λ b. let k = c.comes_before.ensures.1 b in let h = c.if-comes_before.false in grind arith);
    }
