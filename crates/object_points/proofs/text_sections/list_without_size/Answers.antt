use Rattle.std.proofs.Common.{append-nil, ◌≡◌, ◌++◌, ◌∷◌, [], ℕ, List, length, sym, ap, ◌∙◌, arith}
use Rattle.ot_base.specs.declared.place.Place.{Place}
use Rattle.elf_objects.specs.Elf.{Elf}
use Rattle.object_points.proofs.ListedFields.{all_unsized, unsized_below, unsized_more}
use Rattle.object_points.proofs.text_sections.list_without_size.Goals as goal
use Rattle.object_points.proofs.text_sections.list_without_size.Goals.{in-Some+in_ok-push, in_default}

pub loop-k-preserved : goal.loop-k-preserved
loop-k-preserved c =
    let o : Elf = c.args.object.now in
    let n : ℕ = c.loop-k.k in
    elim c.match-place_without_size.branch [
      | in-Some+in_ok-push w ↦
          ap (λ v. v.items) w.places-is
          ∙ w.in_ok-push.ensures.items
          ∙ ap (λ (ps : List Place). ps ++ w.in-Some.place ∷ []) c.loop-k.invariant
          ∙ sym (unsized_more o n _ (sym c.place_without_size.ensures ∙ w.in-Some.is))
      | in_default w ↦
          ap (λ v. v.items) w.places-is
          ∙ c.loop-k.invariant
          ∙ sym (unsized_more o n _ (sym c.place_without_size.ensures ∙ w.in_default.is) ∙ append-nil (unsized_below o n))
    ]

pub returns : goal.returns
returns c =
    let o : Elf = c.args.object.now in
    let whole : c.loop-k.k ≡ length o.symbols = omega (arith, c.loop-k-test.false, c.loop-k.auto.k-end, c.symbols-k-end.ensures.value) in
    c.loop-k.invariant ∙ ap (unsized_below o) whole ∙ all_unsized o
