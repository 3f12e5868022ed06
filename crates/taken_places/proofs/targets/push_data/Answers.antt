-- One section more, and at the end every section.
use Rattle.std.proofs.Common.{◌≡◌, ◌<◌, ◌≤◌, ℕ, List, ◌++◌, length, get_or, sym, ap, ◌∙◌, arith}
use Rattle.std.specs.Prelude.{filter, flat_map}
use Rattle.std.specs.List.{range_with_len}
use Rattle.std.proofs.lemmas.List.{take_all}
use Rattle.std.proofs.lemmas.List.FromFn.{get_or-range_with_len, length-range_with_len}
use Rattle.elf_objects.specs.Elf.{Elf}
use Rattle.taken_places.specs.Listed.{addresses_in_section, is_data, taken_by_data}
use Rattle.taken_places.proofs.TakenLists.{joined_more, none_joined}
use Rattle.taken_places.proofs.targets.push_data.Goals as goal
use Rattle.taken_places.proofs.targets.push_data.Goals.{then-is_data+in_ok-push_section, else-is_data}

pub loop-sec-preserved : goal.loop-sec-preserved
loop-sec-preserved c =
    let o : Elf = c.args.object.now in
    let sec : ℕ = c.loop-sec.sec in
    let n : ℕ = length o.sections in
    let inside : sec < n = omega (arith, c.loop-sec-test.true, c.sections-sec-end.ensures.value) in
    let within : sec < length (range_with_len 0 n) = omega (arith, inside, length-range_with_len 0 n) in
    let at : get_or (range_with_len 0 n) sec 0 ≡ sec = omega (arith, get_or-range_with_len 0 n sec 0 inside) in
    elim c.if-is_data.branch [
      | then-is_data+in_ok-push_section w ↦
          joined_more (is_data o) (addresses_in_section o) (range_with_len 0 n) sec sec 0 c.args.places.now.items c.loop-sec.places.items c.if-is_data.places.items within at (sym c.is_data.ensures ∙ w.if-is_data.true) c.loop-sec.invariant
          (ap (λ places. places.items) w.places-is ∙ w.in_ok-push_section.ensures)
      | else-is_data w ↦
          ap (λ places. places.items) w.places-is ∙ none_joined (is_data o) (addresses_in_section o) (range_with_len 0 n) sec sec 0 c.args.places.now.items c.loop-sec.places.items within at (sym c.is_data.ensures ∙ w.if-is_data.false) c.loop-sec.invariant
    ]

pub returns : goal.returns
unfolding taken_by_data
returns c =
    let o : Elf = c.args.object.now in
    let n : ℕ = length o.sections in
    let past : length (range_with_len 0 n) ≤ c.loop-sec.sec = omega (arith, c.loop-sec-test.false, c.sections-sec-end.ensures.value, length-range_with_len 0 n) in
    c.loop-sec.invariant ∙ ap (λ (secs : List ℕ). c.args.places.now.items ++ flat_map (addresses_in_section o) (filter (is_data o) secs)) (take_all c.loop-sec.sec (range_with_len 0 n) past)
