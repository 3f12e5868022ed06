-- A point that is meant by a RESTORE has a hint.
use Rattle.std.proofs.Common.{◌≡◌, ℕ, Bool, true, false, cond, not, Option, Some, None, refl, sym, ap, ◌∙◌, subst, inl, inr}
use Rattle.std.specs.Prelude.{option_and_then}
use Rattle.std.specs.List.{list_any}
use Rattle.std.proofs.lemmas.Bool.{false≢true}
use Rattle.flow_defs.specs.Coded.{Coded}
use Rattle.alternatives.specs.declared.point.Point.{Point}
use Rattle.flow_defs.specs.Code.{number_of, point_at, points_of_object}
use Rattle.flow_defs.specs.Hints.{hint_of, is_nearer, is_restore, is_save, is_save_before, nearest, save_of, saves_before}
use Rattle.object_law.proofs.Levels.{and_true}
use Rattle.object_law.proofs.Numbers.{numbered}
use Rattle.table_law.proofs.Lists.{finds}
use Rattle.unwinding_law.proofs.Lists.{from_filter}

-- the nearest SAVE is one
nearest_is_save : (o : Coded) (point s : Point) → nearest o (saves_before o point) ≡ Some s → is_save (hint_of o s) ≡ true
nearest_is_save o point s is = elim (finds (λ one. not (list_any (λ other. is_nearer o other one) (saves_before o point))) (saves_before o point)) [
  | inl none ↦ absurd (let h : None ≡ Some s = sym none.0 ∙ is in let k : ⊥ = cc in k)
  | inr one ↦
      let same : one.0 ≡ s = (let h : Some one.0 ≡ Some s = sym one.1 ∙ is in cc) in
      let own = from_filter (is_save_before o point) (points_of_object o) one.0 one.2 in
      subst (λ (p : Point). is_save (hint_of o p) ≡ true) same (and_true (is_save (hint_of o one.0)) _ own.1).0
]

pub meant_has_hint : (o : Coded) (point : Point) (q : ℕ) → save_of o point ≡ Some q → hint_of o (point_at o q) ≡ None → ⊥
unfolding save_of
meant_has_hint o point q is none = by_hint (is_restore (hint_of o point)) is
  where
    of_one : (found : Option Point) → nearest o (saves_before o point) ≡ found → option_and_then (number_of o) found ≡ Some q → ⊥
    of_one None e h = let k : ⊥ = cc in k
    of_one (Some s) e h =
        let own : point_at o q ≡ s = (numbered o s q h).1 in
        false≢true (sym (ap is_save none) ∙ (ap (λ (p : Point). is_save (hint_of o p)) own ∙ nearest_is_save o point s e))

    by_hint : (b : Bool) → cond b (option_and_then (number_of o) (nearest o (saves_before o point))) None ≡ Some q → ⊥
    by_hint true e = of_one (nearest o (saves_before o point)) refl e
    by_hint false e = let k : ⊥ = cc in k
