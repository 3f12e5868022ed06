-- The points with a SAVE or a RESTORE, up to a number.
use Rattle.std.proofs.Common.{◌≡◌, ℕ, ◌+◌, Bool, true, false, cond, List, [], ◌∷◌, ◌++◌, filter, map, sym, ap, ◌∙◌, append-nil}
use Rattle.std.specs.List.{range_with_len}
use Rattle.std.proofs.lemmas.List.Elements.{filter-append}
use Rattle.flow_defs.specs.Coded.{Coded}
use Rattle.alternatives.proofs.Ranges.{mapped_more, mapped_same, range_more}
use Rattle.object_points.specs.Hinted.{is_restore_at, is_save_at, save_at}
use Rattle.object_points.specs.declared.saves.SavePoint.{SavePoint}

kept_more : (p : ℕ → Bool) (n : ℕ) (b : Bool) → p n ≡ b → filter p (range_with_len 0 (n + 1)) ≡ filter p (range_with_len 0 n) ++ cond b (n ∷ []) []
kept_more p n b is =
    ap (filter p) (range_more n)
    ∙ filter-append p (range_with_len 0 n) (n ∷ [])
    ∙ ap (λ c. filter p (range_with_len 0 n) ++ cond c (n ∷ []) []) is

-- one more
module _ (o : Coded) (n : ℕ) where
  pub save_more : (saves : List SavePoint) → saves ≡ map (save_at o) (filter (is_save_at o) (range_with_len 0 n)) → is_save_at o n ≡ true → saves ++ save_at o n ∷ [] ≡ map (save_at o) (filter (is_save_at o) (range_with_len 0 (n + 1)))
  save_more saves listed is = ap (λ list. list ++ save_at o n ∷ []) listed ∙ sym (mapped_more (save_at o) (is_save_at o) n is)

  pub save_same : (saves : List SavePoint) → saves ≡ map (save_at o) (filter (is_save_at o) (range_with_len 0 n)) → is_save_at o n ≡ false → saves ≡ map (save_at o) (filter (is_save_at o) (range_with_len 0 (n + 1)))
  save_same saves listed is = listed ∙ sym (mapped_same (save_at o) (is_save_at o) n is)

  pub restore_more : (restores : List ℕ) → restores ≡ filter (is_restore_at o) (range_with_len 0 n) → is_restore_at o n ≡ true → restores ++ n ∷ [] ≡ filter (is_restore_at o) (range_with_len 0 (n + 1))
  restore_more restores listed is = ap (λ list. list ++ n ∷ []) listed ∙ sym (kept_more (is_restore_at o) n true is)

  pub restore_same : (restores : List ℕ) → restores ≡ filter (is_restore_at o) (range_with_len 0 n) → is_restore_at o n ≡ false → restores ≡ filter (is_restore_at o) (range_with_len 0 (n + 1))
  restore_same restores listed is = listed ∙ sym (append-nil (filter (is_restore_at o) (range_with_len 0 n))) ∙ sym (kept_more (is_restore_at o) n false is)
