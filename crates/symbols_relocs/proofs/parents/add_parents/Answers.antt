use Rattle.std.proofs.Common.{◌≡◌, ◌<◌, ℕ, List, Option, None, option_and_then, length, refl, subst, arith}
use Rattle.std.proofs.lemmas.List.{get_or_default}
use Rattle.elf_objects.specs.Contents.{symbol_at}
use Rattle.symbols_relocs.specs.Lists.{function}
use Rattle.symbols_relocs.specs.Names.{IsFound}
use Rattle.symbols_relocs.specs.Parts.{function_named, part_name}
use Rattle.symbols_relocs.proofs.Found.{one_parent}
use Rattle.symbols_relocs.proofs.parents.add_parents.Goals as goal

pub loop-i-preserved : goal.loop-i-preserved
loop-i-preserved c =
    let i : ℕ = c.loop-i.i in
    let stems : List (Option ℕ) = c.args.stems.now in
    let part : Option (List ℕ) = part_name (symbol_at c.args.object.now (function c.args.functions.now i).sym).name in
    let len : length stems ≡ length c.args.functions.now = c.requires.found.len in
    let low : i < length stems = omega (arith, len, c.loop-i-test.true) in
    let S : Option ℕ → Type 0 = λ s. IsFound c.args.object.now c.args.first.now s part in
    let named = c.function_named-named.ensures.named part (subst S (get_or_default stems i None _ low) (c.requires.found.each i c.loop-i-test.true)) in
    rw (c.in_ok-push.ensures.items)
    (one_parent c.args.object.now c.args.functions.now c.loop-i.list.items i _ c.loop-i.invariant
    (record { start = refl; size = refl; sym = refl; parent = c.other_than-parent.ensures (option_and_then (function_named c.args.object.now) part) named }))
