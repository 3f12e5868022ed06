use Rattle.std.proofs.Common.{◌≡◌, ℕ, ◌+◌, Bool, true, false, cond, List, [], ◌∷◌, ◌++◌, map, filter, arith, sym, ap, ◌∙◌, append_assoc, append-nil, length, length-append, Option, is_some}
use Rattle.operation_defs.specs.declared.insn.Insn.{Insn}
use Rattle.std.specs.List.{range_with_len}
use Rattle.std.proofs.lemmas.List.FromFn.{filter_of_map_range_with_len_more}
use Rattle.special_sections.specs.declared.entries.AltEntry.{AltEntry}
use Rattle.alternatives.specs.declared.texts.SectionText.{SectionText}
use Rattle.alternatives.specs.declared.point.Point.{Point}
use Rattle.alternatives.specs.Gathered.{replaced_at}
use Rattle.alternatives.specs.Points.{is_point}
use Rattle.alternatives.proofs.points.push_replaced.Goals as goal
use Rattle.alternatives.proofs.points.push_replaced.Goals.{then-is_some+in_ok-push, else-is_some}

module _ (p : Point → Bool) (f : ℕ → Point) (old : List Point) (n : ℕ) where
  one_more : p (f n) ≡ true → (old ++ filter p (map f (range_with_len 0 n))) ++ f n ∷ [] ≡ old ++ filter p (map f (range_with_len 0 (n + 1)))
  one_more passes =
      append_assoc old (filter p (map f (range_with_len 0 n))) (f n ∷ [])
      ∙ ap (λ b. old ++ (filter p (map f (range_with_len 0 n)) ++ cond b (f n ∷ []) [])) (sym passes)
      ∙ ap (λ xs. old ++ xs) (sym (filter_of_map_range_with_len_more p f 0 n n (omega arith)))

  none_more : p (f n) ≡ false → old ++ filter p (map f (range_with_len 0 n)) ≡ old ++ filter p (map f (range_with_len 0 (n + 1)))
  none_more fails =
      ap (λ xs. old ++ xs) (sym (append-nil (filter p (map f (range_with_len 0 n)))))
      ∙ ap (λ b. old ++ (filter p (map f (range_with_len 0 n)) ++ cond b (f n ∷ []) [])) (sym fails)
      ∙ ap (λ xs. old ++ xs) (sym (filter_of_map_range_with_len_more p f 0 n n (omega arith)))

pub loop-distance-preserved : goal.loop-distance-preserved
loop-distance-preserved c =
    let texts : List SectionText = c.args.texts.now in
    let entries : List AltEntry = c.args.entries.now in
    let old : List Point = c.args.points.now.items in
    let k : ℕ = c.args.entry in
    let n : ℕ = c.loop-distance.distance in
    let p : Point → Bool = is_point texts entries in
    elim c.if-is_some.branch [
      | then-is_some+in_ok-push w ↦
          let passes : p (replaced_at entries k n) ≡ true = sym (ap (λ (o : Option Insn). is_some o) c.insn_of_point.ensures) ∙ sym c.is_some.ensures ∙ w.if-is_some.true in
          let pushed : c.if-is_some.points.items ≡ c.loop-distance.points.items ++ replaced_at entries k n ∷ [] = ap (λ v. v.items) w.points-is ∙ w.in_ok-push.ensures.items ∙ ap (λ (q : Point). c.loop-distance.points.items ++ q ∷ []) w.new.ensures in
          let longer : length c.if-is_some.points.items ≡ length c.loop-distance.points.items + 1 = ap (λ (xs : List Point). length xs) pushed ∙ length-append c.loop-distance.points.items (replaced_at entries k n ∷ []) in
          (pushed ∙ ap (λ xs. xs ++ replaced_at entries k n ∷ []) c.loop-distance.invariant.0 ∙ one_more p (replaced_at entries k) old n passes, omega (arith, c.loop-distance.invariant.1))
      | else-is_some w ↦
          let fails : p (replaced_at entries k n) ≡ false = sym (ap (λ (o : Option Insn). is_some o) c.insn_of_point.ensures) ∙ sym c.is_some.ensures ∙ w.if-is_some.false in
          let kept : c.if-is_some.points.items ≡ c.loop-distance.points.items = ap (λ v. v.items) w.points-is in
          let same : length c.if-is_some.points.items ≡ length c.loop-distance.points.items = ap (λ (xs : List Point). length xs) kept in
          (kept ∙ c.loop-distance.invariant.0 ∙ none_more p (replaced_at entries k) old n fails, omega (arith, c.loop-distance.invariant.1))
    ]
