use Rattle.std.proofs.Common.{◌≡◌, ◌≢◌, ◌<◌, ◌≤◌, ℕ, [], map, length, ap, sym, ◌∙◌, arith}
use Rattle.std.specs.Prelude.{filter}
use Rattle.std.specs.List.{flat_map, range_with_len}
use Rattle.std.proofs.lemmas.Bool.Decides.{nat_tests}
use Rattle.std.proofs.lemmas.List.{get_or-map, length-map}
use Rattle.elf_write.specs.New.{entry_of}
use Rattle.demo_objects.specs.Made.{has_relocs, reloc_bytes, relocs_for}
use Rattle.demo_objects.proofs.Targets.{body-empty, body-some, targets-none, targets-some}
use Rattle.demo_objects.proofs.sections.targets.Goals as goal
use Rattle.demo_objects.proofs.sections.targets.Goals.{then-not-is_empty+in_ok-push, else-not-is_empty}

pub bounds-bodies-sec : goal.bounds-bodies-sec
bounds-bodies-sec c = omega (arith, c.requires.bodies.size, length-map c.args.bodies.now (λ x. x.items))

pub loop-sec-preserved : goal.loop-sec-preserved
loop-sec-preserved c =
    let relocs = c.args.spec.now.relocs.items in
    let sec : ℕ = c.loop-sec.sec in
    let v = c.index-bodies-sec.result in
    let size : length (map (λ x. x.items) c.args.bodies.now) ≡ length c.args.bodies.now = length-map c.args.bodies.now (λ x. x.items) in
    let low : 1 ≤ sec = omega arith in
    let below : sec < length c.args.bodies.now = omega (arith, c.requires.bodies.size) in
    let body : v.items ≡ flat_map reloc_bytes (relocs_for relocs sec) =
    ap (λ x. x.items) c.index-bodies-sec.is
    ∙ sym (get_or-map (λ x. x.items) c.args.bodies.now sec v [] below)
    ∙ c.requires.bodies.each sec (omega (arith, c.requires.bodies.size)) in
    elim c.if-not-is_empty.branch [
      | then-not-is_empty+in_ok-push w ↦
          let some : length v.items ≢ 0 = grind (arith, nat_tests) in
          ap (λ x. x.items) w.list-is ∙ w.in_ok-push.ensures.items
          ∙ targets-some (has_relocs relocs) sec c.loop-sec.list.items low c.loop-sec.invariant (body-some relocs sec v.items body some)
      | else-not-is_empty w ↦
          let none : length v.items ≡ 0 = grind (arith, nat_tests) in
          ap (λ x. x.items) w.list-is
          ∙ targets-none (has_relocs relocs) sec c.loop-sec.list.items low c.loop-sec.invariant (body-empty relocs sec v.items body none)
    ]

pub returns : goal.returns
returns c =
    let l = length-map c.args.spec.now.sections.items entry_of in
    c.loop-sec.invariant ∙ ap (λ (n : ℕ). filter (has_relocs c.args.spec.now.relocs.items) (range_with_len 1 n)) (omega arith)
