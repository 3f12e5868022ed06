use Rattle.std.proofs.Common.{◌≡◌, ℕ, ◌<◌, ◌≤◌, ◌+◌, List, [], ◌++◌, length, map, get_or, take, ap, sym, subst, ◌∙◌, arith}
use Rattle.std.specs.Prelude.{pos}
use Rattle.std.proofs.lemmas.List.{get_or-map, get_or_default, length-map, map-set}
use Rattle.demo_objects.specs.declared.spec.RelSpec.{RelSpec}
use Rattle.demo_objects.specs.Bodies.{AreRelocBodies}
use Rattle.demo_objects.specs.Made.{reloc_bytes}
use Rattle.demo_objects.proofs.Targets.{bodies-more}
use Rattle.demo_objects.proofs.relocs.reloc_bodies.Goals as goal

abbrev no_rel : RelSpec
no_rel = record { sec = 0; reloc = record { offset = 0; kind = 0; sym = 0; addend = pos 0 } }

pub loop-rel-preserved : goal.loop-rel-preserved
loop-rel-preserved c =
    let relocs : List RelSpec = c.args.relocs.now in
    let i : ℕ = c.loop-rel.rel-index in
    let r : RelSpec = get_or relocs i no_rel in
    let inside : i < length relocs = omega arith in
    let lists : List (List ℕ) = map (λ v. v.items) c.loop-rel.bodies.items in
    let is : r ≡ get_or relocs i r = get_or_default relocs i no_rel r inside in
    let asked : r.sec + 1 ≤ c.args.count = c.requires i no_rel inside in
    let size : length lists ≡ c.args.count = c.loop-rel.invariant.size in
    let same : length lists ≡ length c.loop-rel.bodies.items = length-map c.loop-rel.bodies.items (λ v. v.items) in
    let old : c.index_mut.result.now.items ≡ get_or lists r.sec [] =
    ap (λ v. v.items) c.index_mut.ensures.value ∙ sym (get_or-map (λ v. v.items) c.loop-rel.bodies.items r.sec c.index_mut.result.now [] (omega arith)) in
    let made : c.push_reloc.new.out.items ≡ get_or lists r.sec [] ++ reloc_bytes r.reloc =
    c.in_ok-push_reloc.ensures ∙ ap (λ (xs : List ℕ). xs ++ reloc_bytes r.reloc) old in
    subst (AreRelocBodies (take (i + 1) relocs) c.args.count) (sym (map-set (λ v. v.items) c.loop-rel.bodies.items r.sec c.push_reloc.new.out))
    (bodies-more relocs i r c.args.count lists c.push_reloc.new.out.items inside is (omega arith) c.loop-rel.invariant made)
