use Rattle.std.proofs.Common.{◌≡◌, ℕ, [], ◌∷◌, ◌++◌, List, length, sym, ap, ◌∙◌, arith}
use Rattle.flow_defs.specs.Coded.{Coded}
use Rattle.flow_defs.specs.Hints.{is_restore, is_save}
use Rattle.object_points.specs.Hinted.{is_restore_at, is_save_at}
use Rattle.object_points.specs.declared.hinted.Hinted.{Hinted}
use Rattle.object_points.specs.declared.saves.SavePoint.{SavePoint}
use Rattle.object_points.proofs.Listing.{restore_more, restore_same, save_more, save_same}
use Rattle.object_points.proofs.hinted.Hinted.list.Goals as goal
use Rattle.object_points.proofs.hinted.Hinted.list.Goals.{then-is_save+in_ok-push, else-is_save}

pub returns-in_ok-push-2 : goal.returns-in_ok-push-2
returns-in_ok-push-2 c =
    let o : Coded = c.args.places.now in
    let n : ℕ = c.args.n in
    let saves : c.is_save.result ≡ is_save_at o n = c.is_save.ensures ∙ ap is_save c.hint-hint.ensures in
    let restores : c.is_restore.result ≡ is_restore_at o n = c.is_restore.ensures ∙ ap is_restore c.hint-hint.ensures in
    let kept : c.if-is_save.self.restores.items ≡ c.args.self.now.restores.items = elim c.if-is_save.branch [
      | then-is_save+in_ok-push w ↦ ap (λ (h : Hinted). h.restores.items) w.self-is
      | else-is_save w ↦ ap (λ (h : Hinted). h.restores.items) w.self-is
    ] in
    record {
      all_saves = elim c.if-is_save.branch [
        | then-is_save+in_ok-push w ↦
            ap (λ (h : Hinted). h.saves.items) w.self-is
            ∙ w.in_ok-push.ensures.items
            ∙ ap (λ (s : SavePoint). c.args.self.now.saves.items ++ s ∷ []) w.save_point.ensures
            ∙ save_more o n c.args.self.now.saves.items c.requires.listed.all_saves (sym saves ∙ w.if-is_save.true)
        | else-is_save w ↦
            ap (λ (h : Hinted). h.saves.items) w.self-is
            ∙ save_same o n c.args.self.now.saves.items c.requires.listed.all_saves (sym saves ∙ w.if-is_save.false)
      ];
      all_restores = c.in_ok-push-2.ensures.items
          ∙ ap (λ (list : List ℕ). list ++ n ∷ []) kept
          ∙ restore_more o n c.args.self.now.restores.items c.requires.listed.all_restores (sym restores ∙ c.if-is_restore.true);
      few = omega (arith, c.in_ok-push-2.ensures.len, ap length kept, c.requires.listed.few);
    }

pub returns-else-is_restore : goal.returns-else-is_restore
returns-else-is_restore c =
    let o : Coded = c.args.places.now in
    let n : ℕ = c.args.n in
    let saves : c.is_save.result ≡ is_save_at o n = c.is_save.ensures ∙ ap is_save c.hint-hint.ensures in
    let restores : c.is_restore.result ≡ is_restore_at o n = c.is_restore.ensures ∙ ap is_restore c.hint-hint.ensures in
    let kept : c.if-is_save.self.restores.items ≡ c.args.self.now.restores.items = elim c.if-is_save.branch [
      | then-is_save+in_ok-push w ↦ ap (λ (h : Hinted). h.restores.items) w.self-is
      | else-is_save w ↦ ap (λ (h : Hinted). h.restores.items) w.self-is
    ] in
    record {
      all_saves = elim c.if-is_save.branch [
        | then-is_save+in_ok-push w ↦
            ap (λ (h : Hinted). h.saves.items) w.self-is
            ∙ w.in_ok-push.ensures.items
            ∙ ap (λ (s : SavePoint). c.args.self.now.saves.items ++ s ∷ []) w.save_point.ensures
            ∙ save_more o n c.args.self.now.saves.items c.requires.listed.all_saves (sym saves ∙ w.if-is_save.true)
        | else-is_save w ↦
            ap (λ (h : Hinted). h.saves.items) w.self-is
            ∙ save_same o n c.args.self.now.saves.items c.requires.listed.all_saves (sym saves ∙ w.if-is_save.false)
      ];
      all_restores = kept ∙ restore_same o n c.args.self.now.restores.items c.requires.listed.all_restores (sym restores ∙ c.if-is_restore.false);
      few = omega (arith, ap length kept, c.requires.listed.few);
    }
