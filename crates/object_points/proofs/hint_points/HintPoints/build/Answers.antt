use Rattle.std.proofs.Common.{List, map, ap, ◌∙◌, subst, arith}
use Rattle.std.specs.List.Sorted.{IsPermutation}
use Rattle.std.proofs.lemmas.List.Sorted.{length_permutation}
use Rattle.object_points.specs.declared.meanings.Meaning.{Meaning}
use Rattle.object_points.specs.declared.saves.SavePoint.{SavePoint}
use Rattle.object_points.proofs.hint_points.HintPoints.build.Goals as goal

pub invariant_of-result : goal.invariant_of-result
invariant_of-result c =
    let saves : List SavePoint = c.sort_saves.new.saves.items in
    let meanings : List Meaning = c.sort_meanings.new.meanings.items in
    record {
      all_saves = record {
        all = subst (λ (list : List SavePoint). IsPermutation list saves) c.in_ok-saves.ensures.saves c.sort_saves.ensures.same;
        ordered = c.in_ok-sort_saves.ensures.sorted;
      };
      all_meanings = record {
        all = subst (λ (list : List Meaning). IsPermutation list meanings) c.in_ok-meanings.ensures.all c.sort_meanings.ensures.same;
        ordered = c.in_ok-sort_meanings.ensures.sorted;
        few = omega (arith, length_permutation c.in_ok-meanings.meanings.items meanings c.sort_meanings.ensures.same, c.in_ok-meanings.ensures.few);
        each = c.in_ok-restores.ensures ∙ ap (map (λ (m : Meaning). m.restore)) c.deref-3.ensures.value;
      };
    }
