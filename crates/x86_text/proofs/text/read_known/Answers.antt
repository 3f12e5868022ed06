use Rattle.std.proofs.Common.{◌≡◌, ℕ, ◌-◌, ◌+◌, List, length, drop, take, length-drop, arith, refl, subst}
use Rattle.std.specs.Prelude.{Option, MatchOption}
use Rattle.std.proofs.lemmas.List.{take_all}
use Rattle.x86_text.specs.declared.known.Found.{Found}
use Rattle.x86_text.specs.declared.placed.PlacedInsn.{PlacedInsn}
use Rattle.x86_text.specs.Added.{IsAdded, AddsCode}
use Rattle.x86_text.specs.Code.{Body, read_by, behind}
use Rattle.x86_text.specs.Listed.{StandsIn}
use Rattle.x86_text.proofs.ReadLemmas.{adds_nothing, adds_more, known_stands_in}
use Rattle.x86_text.proofs.text.read_known.Goals as goal

pub loop-off-init : goal.loop-off-init
loop-off-init c = (omega arith, (c.requires.boundary, adds_nothing (read_by c.args.map c.args.body.now) c.args.from c.args.offsets.now.items c.args.jumps.now.items c.args.insns.now))

pub loop-off-preserved : goal.loop-off-preserved
loop-off-preserved c =
    let body : Body = read_by c.args.map c.args.body.now in
    let found : Found = c.in-Some.found in
    let whole : take (length c.args.body.now - c.loop-off.off) (drop c.loop-off.off c.args.body.now) ≡ drop c.loop-off.off c.args.body.now = take_all _ _ (simp length-drop (omega arith)) in
    let added : IsAdded body.map (drop c.loop-off.off body.bytes) c.loop-off.insns c.push_known.new.self found =
    subst (λ (bytes : List ℕ). IsAdded c.args.map bytes c.loop-off.insns c.push_known.new.self found) whole (subst (λ (o : Option Found). MatchOption o (c.push_known.new.self ≡ c.loop-off.insns) (IsAdded c.args.map (take (length c.args.body.now - c.loop-off.off) (drop c.loop-off.off c.args.body.now)) c.loop-off.insns c.push_known.new.self)) c.in-Some.is c.in_ok-found.ensures) in
    let p : PlacedInsn = record { off = c.loop-off.off; insn = added.insn } in
    let stands : StandsIn body p = known_stands_in body (λ k. omega (arith, c.type_inv.body k)) c.loop-off.off c.loop-off.insns c.push_known.new.self found added (c.loop-off.invariant.1.0 c.loop-off-test.true) c.loop-off-test.true in
    let adds : AddsCode body c.args.from (c.loop-off.off + added.insn.len) c.args.offsets.now.items c.push.new.self.items c.args.jumps.now.items c.push_table_jump.new.jumps.items c.args.insns.now c.push_known.new.self =
    adds_more body c.args.from c.args.offsets.now.items c.loop-off.offsets.items c.push.new.self.items c.args.jumps.now.items c.loop-off.jumps.items c.push_table_jump.new.jumps.items c.args.insns.now c.loop-off.insns c.push_known.new.self p
    c.loop-off.invariant.1.1 stands
    c.in_ok-push.ensures.items (c.in_ok-push_table_jump.ensures c.loop-off.insns added.insn added.added added.jumps) added.added in (
      omega (arith, c.loop-off.invariant.0),
      (
        behind c.loop-off.off (c.loop-off.off + found.len) added.insn stands.boundary stands.stands (subst (λ (n : ℕ). c.loop-off.off + n ≡ c.loop-off.off + added.insn.len) added.long refl),
        subst (λ (n : ℕ). AddsCode body c.args.from (c.loop-off.off + n) c.args.offsets.now.items c.push.new.self.items c.args.jumps.now.items c.push_table_jump.new.jumps.items c.args.insns.now c.push_known.new.self) added.long adds,
      ),
    )
