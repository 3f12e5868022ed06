-- The warnings that are added.
use Rattle.std.proofs.Common.{◌≡◌, ℕ, ◌++◌, ◌∷◌, [], List, Option, ap, sym, ◌∙◌, subst}
use Rattle.std.specs.List.{AllPairs}
use Rattle.ot_base.specs.declared.warning.Warning.{Warning}
use Rattle.state_defs.specs.declared.state.State.{State}
use Rattle.state_defs.specs.Row.{row_of}
use Rattle.machine_defs.specs.Program.{Program, Site}
use Rattle.machine_defs.specs.IsProgram.{IsLaidOut}
use Rattle.table_law.proofs.Lists.{some_is}
use Rattle.stack_rules.specs.Gains.{Gains}
use Rattle.stack_rules.proofs.GainsLemmas.{gains_none, gains_push, gains_same}
use Rattle.stack_rules.specs.Disagree.{HaveOtherRows, IsInForceAt, IsOfSite, IsOutOfForce, IsSiteOf, ahead_of, disagreement}
use Rattle.stack_rules.proofs.OneInForce.{one_in_force}
use Rattle.stack_rules.specs.Points.{ComesBefore}

-- points of one state have one row
pub alike_not_other : (states : ℕ → Option State) (q r : ℕ) → states q ≡ states r → HaveOtherRows states q r → ⊥
alike_not_other states q r e h = h.differ (ap row_of (some_is (sym h.one_is ∙ (e ∙ h.other_is))))

-- where something holds, the warnings are those for which it holds
pub gains_known : (old new : List Warning) (A : Type 0) (P : Warning → Type 0) → A → Gains old new P → Gains old new (λ w. A × P w)
gains_known old new A P a gains = gains_same old new P (λ w. A × P w) gains (λ w. (λ h. (a, h), λ k. k.1))

-- a point has one site, and so one such warning
one_of_site : (p : Program) (q n : ℕ) (x w : Warning) → IsLaidOut p → IsOfSite p q n x → IsOfSite p q n w → w ≡ x
one_of_site p q n x w laid (s, of, e) (t, other, f) =
    let same : t ≡ s = laid.sites_apart t s (p.address q) other.0 of.0 other.1 of.1 in
    f ∙ (ap (λ (z : Site). disagreement p z q n) same ∙ sym e)

-- one more warning, which is that of a point's site
pub one_found : (p : Program) (q n : ℕ) (old new : List Warning) (x : Warning) → IsLaidOut p → IsOfSite p q n x → new ≡ old ++ x ∷ [] → Gains old new (IsOfSite p q n)
one_found p q n old new x laid of pushed = gains_same old new (λ w. w ≡ x) (IsOfSite p q n) (gains_push old new x pushed) (λ w. (
  λ e. subst (IsOfSite p q n) (sym e) of,
  λ k. one_of_site p q n x w laid of k,
))

-- none, where the point has no site
pub none_found : (p : Program) (q n : ℕ) (old : List Warning) → ((site : Site) → IsSiteOf p q site → ⊥) → Gains old old (IsOfSite p q n)
none_found p q n old none = gains_none old (IsOfSite p q n) (λ w k. none k.0 k.1)

-- only one point is in force
pub out_of_force : (p : Program) (states : ℕ → Option State) (points : List ℕ) (q r n : ℕ) → AllPairs (ComesBefore p) points → IsInForceAt p points (ahead_of (p.address q) n) r → IsOutOfForce p states points q n → HaveOtherRows states r q
out_of_force p states points q r n up force (s, f, rows) = subst (λ (x : ℕ). HaveOtherRows states x q) (one_in_force p points up (ahead_of (p.address q) n) s r f force) rows
