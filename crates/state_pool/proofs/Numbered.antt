-- One more point's state gets its number.
use Rattle.std.proofs.Common.{◌≡◌, ℕ, ◌+◌, ◌<◌, ◌≤◌, List, [], ◌∷◌, ◌++◌, ◌⊎◌, inl, inr, Option, Some, None, Contains, length, get_or, slice_get, refl, ap, ◌∙◌, subst, arith}
use Rattle.std.proofs.lemmas.Option.{slice_get-get_or, slice_get_within, get_or_from_slice_get}
use Rattle.std.proofs.lemmas.List.Elements.{Contains-append_cases}
use Rattle.state_defs.specs.declared.state.State.{State}
use Rattle.state_pool.specs.States.{States, AreDifferent, with_new}
use Rattle.unwinding_law.proofs.Lists.{cases, nowhere}
use Rattle.kept_states.specs.LevelStates.{at}
use Rattle.state_pool.specs.Counted.{AreNumbered, IsStateCount}
use Rattle.kept_states.proofs.Rounds.{at_some}

-- nothing has a number yet
pub none_numbered : (kept : List (Option State)) → AreNumbered kept 0 []
none_numbered kept = record {
  different = λ i j s e. absurd (let k : ⊥ = cc in k);
  all = λ q s h. absurd (omega (arith, h));
  only = λ s c. nowhere s c;
}

-- at the end all have
pub all_numbered : (kept : List (Option State)) (states : List State) → AreNumbered kept (length kept) states → IsStateCount kept (length states)
all_numbered kept states are = (states, are.different, λ s. (λ c. are.only s c, λ r. are.all r.0 s (at_some kept r.0 s r.1) r.1), refl)

has : (xs : List State) (i : ℕ) (s : State) → slice_get xs i ≡ Some s → Contains xs s
has xs i s e = (i, slice_get_within xs i s e, get_or_from_slice_get xs i s s e)

found : (xs : List State) (s : State) → Contains xs s → (i : ℕ) × (slice_get xs i ≡ Some s)
found xs s (i, l, e) = (i, slice_get-get_or xs i s l ∙ ap Some e)

module _ (kept : List (Option State)) (n : ℕ) (old : States) (are : AreNumbered kept n old.states) where
  before_or_here : (q : ℕ) → q < n + 1 → (q < n) ⊎ (q ≡ n)
  before_or_here q l = grind arith

  pub passed : at kept n ≡ None → AreNumbered kept (n + 1) old.states
  passed none = record { different = are.different; all = all; only = are.only }
    where
      all : (q : ℕ) (s : State) → q < n + 1 → at kept q ≡ Some s → Contains old.states s
      all q s l e = elim (before_or_here q l) [
        | inl b ↦ are.all q s b e
        | inr same ↦ absurd (let z : at kept q ≡ None = ap (at kept) same ∙ none in let k : ⊥ = cc in k)
      ]

  module _ (s : State) (has_it : at kept n ≡ Some s) (new : States) (r : ℕ) (number : slice_get new.states r ≡ Some s) (known : Contains old.states s → new ≡ old) (fresh : (Contains old.states s → ⊥) → new ≡ with_new old s) (stay : (k : ℕ) (t : State) → slice_get old.states k ≡ Some t → slice_get new.states k ≡ Some t) (different : AreDifferent new.states) where
    known_or_new : (new.states ≡ old.states) ⊎ (new.states ≡ old.states ++ s ∷ [])
    known_or_new = elim (let z : (r < length old.states) ⊎ (length old.states ≤ r) = grind arith in z) [ inl l ↦ inl (ap (λ (p : States). p.states) (known (there l))) | inr l ↦ inr (ap (λ (p : States). p.states) (fresh (absent l))) ]
      where
        there : r < length old.states → Contains old.states s
        there l =
            let e : slice_get old.states r ≡ Some (get_or old.states r s) = slice_get-get_or old.states r s l in
            let f : slice_get new.states r ≡ Some (get_or old.states r s) = stay r (get_or old.states r s) e in
            let g : get_or old.states r s ≡ s = cc in
            (r, l, g)

        absent : length old.states ≤ r → Contains old.states s → ⊥
        absent l c =
            let e : slice_get old.states r ≡ Some s = subst (λ (p : States). slice_get p.states r ≡ Some s) (known c) number in
            let k : r < length old.states = slice_get_within old.states r s e in
            omega (arith, k, l)

    pub one_numbered : AreNumbered kept (n + 1) new.states
    one_numbered = record { different = different; all = all; only = only }
      where
        still : (t : State) → Contains old.states t → Contains new.states t
        still t c = let f = found old.states t c in has new.states f.0 t (stay f.0 t f.1)

        all : (q : ℕ) (t : State) → q < n + 1 → at kept q ≡ Some t → Contains new.states t
        all q t l e = elim (before_or_here q l) [
          | inl b ↦ still t (are.all q t b e)
          | inr same ↦ let z : at kept q ≡ Some s = ap (at kept) same ∙ has_it in let k : s ≡ t = cc in subst (Contains new.states) k (has new.states r s number)
        ]

        only : (t : State) → Contains new.states t → (q : ℕ) × (at kept q ≡ Some t)
        only t c = elim known_or_new [
          | inl e ↦ are.only t (subst (λ (xs : List State). Contains xs t) e c)
          | inr e ↦ elim (Contains-append_cases old.states (s ∷ []) t (subst (λ (xs : List State). Contains xs t) e c)) [ inl d ↦ are.only t d | inr d ↦ elim (cases s [] t d) [ inl same ↦ (n, has_it ∙ ap Some same) | inr none ↦ nowhere t none ] ]
        ]
