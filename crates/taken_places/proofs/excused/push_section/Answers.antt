-- One relocation more.
use Rattle.std.proofs.Common.{◌≡◌, ◌<◌, List, length, get_or, sym, ap, ◌∙◌}
use Rattle.std.proofs.lemmas.Option.{get_or_from_slice_get, slice_get_within}
use Rattle.elf_objects.specs.Contents.{relocs_at}
use Rattle.elf_objects.specs.declared.symbol.Reloc.{Reloc}
use Rattle.taken_places.specs.Taken.{pointed_at}
use Rattle.taken_places.proofs.TakenLists.{given_more, none_given}
use Rattle.taken_places.proofs.excused.push_section.Goals as goal
use Rattle.taken_places.proofs.excused.push_section.Goals.{in-Some+in_ok-push, in_default}

pub loop-i-preserved : goal.loop-i-preserved
loop-i-preserved c =
    let relocs : List Reloc = relocs_at c.args.object.now c.args.sec in
    let reloc : Reloc = c.reloc-reloc.result in
    let inside : c.loop-i.i < length relocs = slice_get_within relocs c.loop-i.i reloc c.reloc-reloc.ensures in
    let at : get_or relocs c.loop-i.i reloc ≡ reloc = get_or_from_slice_get relocs c.loop-i.i reloc reloc c.reloc-reloc.ensures in
    elim c.match-pointed_at.branch [
      | in-Some+in_ok-push w ↦
          given_more (pointed_at c.args.object.now) relocs c.loop-i.i reloc reloc w.in-Some.place c.args.places.now.items c.loop-i.places.items c.match-pointed_at.places.items inside at
          (sym c.pointed_at.ensures ∙ w.in-Some.is) c.loop-i.invariant (ap (λ places. places.items) w.places-is ∙ w.in_ok-push.ensures.items)
      | in_default w ↦
          ap (λ places. places.items) w.places-is
          ∙ none_given (pointed_at c.args.object.now) relocs c.loop-i.i reloc reloc c.args.places.now.items c.loop-i.places.items inside at (sym c.pointed_at.ensures ∙ w.in_default.is) c.loop-i.invariant
    ]
