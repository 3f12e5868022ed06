use Rattle.std.proofs.Common.{◌≡◌, ℕ, ◌+◌, ◌-◌, ◌<◌, ◌≤◌, Bool, true, false, cond, ltb, List, length, get_or, take, filter, reverse, Option, Some, None, sym, ap, arith, lt-ltb, ◌∙◌}
use Rattle.std.specs.List.{flat_map, slice_get, take_while}
use Rattle.std.specs.Option.{option_or}
use Rattle.std.proofs.lemmas.Bool.{le-ltb}
use Rattle.ot_base.specs.declared.place.Place.{Place}
use Rattle.x86_text.specs.declared.placed.PlacedInsn.{PlacedInsn}
use Rattle.x86_text.specs.Code.{code_of}
use Rattle.flow_defs.specs.TableRegisters.{is_searched, tables_taken}
use Rattle.jump_tables.proofs.Searching.{first_given, front_kept, goes_on, none_there, none_where_not}
use Rattle.jump_tables.proofs.registers.table_before.Goals as goal

pub loop-step-init : goal.loop-step-init
loop-step-init c =
    let o = c.args.code.now.index.now.elf in
    let passes : PlacedInsn → Bool = is_searched o c.args.code.now.sites.now.entries c.args.owner c.args.text.now.sec in
    let gives : PlacedInsn → List Place = tables_taken o c.args.code.now.texts.now c.args.owner c.args.text.now.sec in
    let insns : List PlacedInsn = code_of c.args.text.now.text in
    let count : ℕ = c.count_before-next.result in
    let front : filter (λ (p : PlacedInsn). ltb p.off c.args.off) insns ≡ take count insns =
    front_kept (λ (p : PlacedInsn). ltb p.off c.args.off) insns count c.count_before-next.ensures.within
    (λ k d lower. lt-ltb (get_or insns k d).off c.args.off (c.count_before-next.ensures.before k d lower))
    (λ k d from inside. le-ltb (get_or insns k d).off c.args.off (c.count_before-next.ensures.others k d from inside)) in
    (c.count_before-next.ensures.within, ap (λ ps. first_given passes gives 4 (reverse ps)) front)

pub returns-then-next-eq0 : goal.returns-then-next-eq0
returns-then-next-eq0 c =
    let o = c.args.code.now.index.now.elf in
    let passes : PlacedInsn → Bool = is_searched o c.args.code.now.sites.now.entries c.args.owner c.args.text.now.sec in
    let gives : PlacedInsn → List Place = tables_taken o c.args.code.now.texts.now c.args.owner c.args.text.now.sec in
    let insns : List PlacedInsn = code_of c.args.text.now.text in
    sym
    (c.loop-step.invariant.1
    ∙ ap (λ m. first_given passes gives (4 - c.loop-step._step) (reverse (take m insns))) {x = c.loop-step.next} {y = 0} (omega (arith, c.if-next-eq0.true))
    ∙ none_there passes gives (4 - c.loop-step._step))

pub insn-off-requires : goal.insn-off-requires
insn-off-requires c = omega (arith, c.loop-step.invariant.0, c.if-next-eq0.false)

pub returns-then-not-is_searched : goal.returns-then-not-is_searched
returns-then-not-is_searched c =
    let o = c.args.code.now.index.now.elf in
    let passes : PlacedInsn → Bool = is_searched o c.args.code.now.sites.now.entries c.args.owner c.args.text.now.sec in
    let gives : PlacedInsn → List Place = tables_taken o c.args.code.now.texts.now c.args.owner c.args.text.now.sec in
    let insns : List PlacedInsn = code_of c.args.text.now.text in
    let next : ℕ = c.loop-step.next in
    let left : ℕ = 4 - c.loop-step._step in
    let here : PlacedInsn = record { off = c.insn-off.result.0; insn = c.insn-off.result.1 } in
    let rest : Option Place = first_given passes gives (left - 1) (reverse (take (next - 1) insns)) in
    let step : first_given passes gives left (reverse (take next insns)) ≡ cond (passes here) (option_or (slice_get (gives here) 0) rest) None =
    goes_on passes gives insns next left here (omega (arith, c.if-next-eq0.false)) c.loop-step.invariant.0 (omega (arith, c.loop-step-test.true)) c.insn-off.ensures.listed in
    sym (c.loop-step.invariant.1 ∙ step ∙ ap (λ b. cond b (option_or (slice_get (gives here) 0) rest) None) (sym c.if-not-is_searched.ensures))

pub returns-in-Some : goal.returns-in-Some
returns-in-Some c =
    let o = c.args.code.now.index.now.elf in
    let passes : PlacedInsn → Bool = is_searched o c.args.code.now.sites.now.entries c.args.owner c.args.text.now.sec in
    let gives : PlacedInsn → List Place = tables_taken o c.args.code.now.texts.now c.args.owner c.args.text.now.sec in
    let insns : List PlacedInsn = code_of c.args.text.now.text in
    let next : ℕ = c.loop-step.next in
    let left : ℕ = 4 - c.loop-step._step in
    let here : PlacedInsn = record { off = c.insn-off.result.0; insn = c.insn-off.result.1 } in
    let rest : Option Place = first_given passes gives (left - 1) (reverse (take (next - 1) insns)) in
    let step : first_given passes gives left (reverse (take next insns)) ≡ cond (passes here) (option_or (slice_get (gives here) 0) rest) None =
    goes_on passes gives insns next left here (omega (arith, c.if-next-eq0.false)) c.loop-step.invariant.0 (omega (arith, c.loop-step-test.true)) c.insn-off.ensures.listed in
    sym
    (c.loop-step.invariant.1
    ∙ step
    ∙ ap (λ b. cond b (option_or (slice_get (gives here) 0) rest) None) (sym c.if-not-is_searched.ensures)
    ∙ ap (λ found. option_or found rest) (sym c.in-Some.ensures))

pub loop-step-preserved : goal.loop-step-preserved
loop-step-preserved c =
    let o = c.args.code.now.index.now.elf in
    let passes : PlacedInsn → Bool = is_searched o c.args.code.now.sites.now.entries c.args.owner c.args.text.now.sec in
    let gives : PlacedInsn → List Place = tables_taken o c.args.code.now.texts.now c.args.owner c.args.text.now.sec in
    let insns : List PlacedInsn = code_of c.args.text.now.text in
    let next : ℕ = c.loop-step.next in
    let left : ℕ = 4 - c.loop-step._step in
    let here : PlacedInsn = record { off = c.insn-off.result.0; insn = c.insn-off.result.1 } in
    let rest : Option Place = first_given passes gives (left - 1) (reverse (take (next - 1) insns)) in
    let step : first_given passes gives left (reverse (take next insns)) ≡ cond (passes here) (option_or (slice_get (gives here) 0) rest) None =
    goes_on passes gives insns next left here (omega (arith, c.if-next-eq0.false)) c.loop-step.invariant.0 (omega (arith, c.loop-step-test.true)) c.insn-off.ensures.listed in
    let fails : slice_get (gives here) 0 ≡ None = sym c.first_taken.ensures ∙ none_where_not c.first_taken.result c.in_default.not-Some in (
      omega (arith, c.loop-step.invariant.0),
      c.loop-step.invariant.1
          ∙ step
          ∙ ap (λ b. cond b (option_or (slice_get (gives here) 0) rest) None) (sym c.if-not-is_searched.ensures)
          ∙ ap (λ found. option_or found rest) fails
          ∙ ap (λ n. first_given passes gives n (reverse (take (next - 1) insns))) {x = left - 1} {y = 4 - (c.loop-step._step + 1)} (omega arith),
    )

pub returns : goal.returns
returns c =
    let o = c.args.code.now.index.now.elf in
    let passes : PlacedInsn → Bool = is_searched o c.args.code.now.sites.now.entries c.args.owner c.args.text.now.sec in
    let gives : PlacedInsn → List Place = tables_taken o c.args.code.now.texts.now c.args.owner c.args.text.now.sec in
    let insns : List PlacedInsn = code_of c.args.text.now.text in
    sym
    (c.loop-step.invariant.1
    ∙ ap (λ n. first_given passes gives n (reverse (take c.loop-step.next insns))) {x = 4 - c.loop-step._step} {y = 0} (omega (arith, c.loop-step-test.false)))
