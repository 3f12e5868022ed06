use Rattle.std.proofs.Common.{◌<◌, ℕ, List, [], ◌∷◌, ◌++◌, length, get_or, take, Option, Some, None, All, Global, Vec, arith, append-nil, sym, ap, ◌∙◌, subst}
use Rattle.std.specs.Prelude.{filter_map, option_map}
use Rattle.std.proofs.lemmas.List.Elements.{All-contains, Contains-get_or}
use Rattle.flow_defs.specs.Coded.{Coded}
use Rattle.flow_defs.specs.Code.{points_of_object}
use Rattle.object_points.proofs.Found.{made_more}
use Rattle.object_points.specs.Meanings.{meaning_of}
use Rattle.object_points.specs.declared.meanings.Meaning.{Meaning}
use Rattle.object_points.proofs.ListedHints.{restores_inside}
use Rattle.object_points.proofs.meanings.list_meanings.Goals as goal
use Rattle.object_points.proofs.meanings.list_meanings.Goals.{in-Some+in_ok-push, in_default}

pub nearest_save-requires-clause-inside : goal.nearest_save-requires-clause-inside
nearest_save-requires-clause-inside c =
    let o : Coded = c.args.places.now in
    let all : All (λ r. r < length (points_of_object o)) c.args.restores.now = subst (λ (list : List ℕ). All (λ r. r < length (points_of_object o)) list) (sym c.requires.restores) (restores_inside o) in
    All-contains (λ r. r < length (points_of_object o)) c.args.restores.now (get_or c.args.restores.now c.loop-restore.restore-index 0) all (Contains-get_or c.args.restores.now c.loop-restore.restore-index 0 c.loop-restore-test.true)

pub loop-restore-preserved : goal.loop-restore-preserved
loop-restore-preserved c =
    let o : Coded = c.args.places.now in
    let i : ℕ = c.loop-restore.restore-index in
    let restore : ℕ = get_or c.args.restores.now i 0 in
    let made : Option ℕ → Option Meaning = option_map (λ s. record { save = s; restore = restore }) in
    elim c.match-nearest_save.branch [
      | in-Some+in_ok-push w ↦
          let m : Meaning = record { save = w.in-Some.save; restore = restore } in (
            ap (λ (v : Vec Meaning Global). v.items) w.meanings-is
                ∙ w.in_ok-push.ensures.items
                ∙ ap (λ list. list ++ m ∷ []) c.loop-restore.invariant.0
                ∙ sym (made_more (meaning_of o) c.args.restores.now i 0 (Some m) c.loop-restore-test.true (ap made (sym c.nearest_save.ensures ∙ w.in-Some.is))),
            omega (arith, ap (λ (v : Vec Meaning Global). length v.items) w.meanings-is, w.in_ok-push.ensures.len, c.loop-restore.invariant.1),
          )
      | in_default w ↦ (
        ap (λ (v : Vec Meaning Global). v.items) w.meanings-is
            ∙ c.loop-restore.invariant.0
            ∙ sym (append-nil (filter_map (meaning_of o) (take i c.args.restores.now)))
            ∙ sym (made_more (meaning_of o) c.args.restores.now i 0 None c.loop-restore-test.true (ap made (sym c.nearest_save.ensures ∙ w.in_default.is))),
        omega (arith, ap (λ (v : Vec Meaning Global). length v.items) w.meanings-is, c.loop-restore.invariant.1),
      )
    ]
