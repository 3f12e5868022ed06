-- The least of some states, by which of them are there.
use Rattle.std.proofs.Common.{◌≡◌, ◌↔◌, Bool, true, false, cond, List, [], ◌∷◌, ◌⊎◌, inl, inr, Option, Some, None, Contains, refl, ap, sym, subst}
use Rattle.state_defs.specs.declared.state.State.{State}
use Rattle.state_defs.specs.Order.{comes_before, least, least_with, lesser}
use Rattle.unwinding_law.proofs.Lists.{here, there, cases, nowhere}
use Rattle.kept_states.proofs.StateOrder.{no_later_before, before_not_after, same_where_neither}
use Rattle.kept_states.specs.Least.{IsLeast, lesser_of}

-- one state alone
pub least_one : (P : State → Type 0) (s : State) → P s → ((t : State) → P t → t ≡ s) → IsLeast P (Some s)
least_one P s is only = (is, λ t h. subst (λ (x : State). comes_before x s ≡ false) (sym (only t h)) (not_before_itself s))
  where
    not_before_itself : (s : State) → comes_before s s ≡ false
    not_before_itself s = go (comes_before s s) refl
      where
        go : (b : Bool) → comes_before s s ≡ b → b ≡ false
        go true e = let k : comes_before s s ≡ false = before_not_after s s e in cc
        go false e = refl

-- with one state more
pub least_more : (P Q : State → Type 0) (o : Option State) (s : State) → ((t : State) → Q t ↔ (P t ⊎ (t ≡ s))) → IsLeast P o → IsLeast Q (Some (lesser_of o s))
least_more P Q None s more none = ((more s).1 (inr refl), λ t h. go t ((more t).0 h))
  where
    itself : (b : Bool) → comes_before s s ≡ b → b ≡ false
    itself true e = let k : comes_before s s ≡ false = before_not_after s s e in cc
    itself false e = refl

    go : (t : State) → P t ⊎ (t ≡ s) → comes_before t s ≡ false
    go t (inl h) = absurd (none t h)
    go t (inr e) = subst (λ (x : State). comes_before x s ≡ false) (sym e) (itself (comes_before s s) refl)
least_more P Q (Some best) s more (is, least) = go (comes_before s best) refl
  where
    itself : (u : State) (b : Bool) → comes_before u u ≡ b → b ≡ false
    itself u true e = let k : comes_before u u ≡ false = before_not_after u u e in cc
    itself u false e = refl

    above_new : comes_before s best ≡ true → (t : State) → P t ⊎ (t ≡ s) → comes_before t s ≡ false
    above_new e t (inl h) = no_later_before s best t (before_not_after s best e) (least t h)
    above_new e t (inr k) = subst (λ (x : State). comes_before x s ≡ false) (sym k) (itself s (comes_before s s) refl)

    above_old : comes_before s best ≡ false → (t : State) → P t ⊎ (t ≡ s) → comes_before t best ≡ false
    above_old e t (inl h) = least t h
    above_old e t (inr k) = subst (λ (x : State). comes_before x best ≡ false) (sym k) e

    go : (b : Bool) → comes_before s best ≡ b → IsLeast Q (Some (cond b s best))
    go true e = ((more s).1 (inr refl), λ t h. above_new e t ((more t).0 h))
    go false e = ((more best).1 (inl is), λ t h. above_old e t ((more t).0 h))

-- of the same states
pub least_same : (P Q : State → Type 0) (o : Option State) → ((t : State) → P t ↔ Q t) → IsLeast P o → IsLeast Q o
least_same P Q None same none = λ t h. none t ((same t).1 h)
least_same P Q (Some m) same (is, least) = ((same m).0 is, λ t h. least t ((same t).1 h))

-- there is one least state at most
pub least_is_one : (P : State → Type 0) (o w : Option State) → IsLeast P o → IsLeast P w → o ≡ w
least_is_one P None None h k = refl
least_is_one P None (Some m) h k = absurd (h m k.0)
least_is_one P (Some m) None h k = absurd (k m h.0)
least_is_one P (Some m) (Some n) h k = ap Some (same_where_neither m n (k.1 m h.0) (h.1 n k.0))

-- the least of a list
least_with_is : (P : State → Type 0) (best : State) (xs : List State) → IsLeast P (Some best) → IsLeast (λ t. P t ⊎ Contains xs t) (Some (least_with best xs))
least_with_is P best [] h = least_same P (λ t. P t ⊎ Contains [] t) (Some best) (λ t. (λ k. inl k, λ k. elim k [ inl a ↦ a | inr b ↦ nowhere t b ])) h
least_with_is P best (s ∷ xs) h =
    let Q : State → Type 0 = λ t. P t ⊎ (t ≡ s) in
    let one : IsLeast Q (Some (lesser best s)) = least_more P Q (Some best) s (λ t. (λ k. k, λ k. k)) h in
    least_same (λ t. Q t ⊎ Contains xs t) (λ t. P t ⊎ Contains (s ∷ xs) t) (Some (least_with (lesser best s) xs)) (λ t. (λ k. to t k, λ k. from t k)) (least_with_is Q (lesser best s) xs one)
  where
    to : (t : State) → (P t ⊎ (t ≡ s)) ⊎ Contains xs t → P t ⊎ Contains (s ∷ xs) t
    to t (inl (inl a)) = inl a
    to t (inl (inr e)) = inr (subst (λ (x : State). Contains (s ∷ xs) x) (sym e) (here s xs))
    to t (inr c) = inr (there s xs t c)

    from : (t : State) → P t ⊎ Contains (s ∷ xs) t → (P t ⊎ (t ≡ s)) ⊎ Contains xs t
    from t (inl a) = inl (inl a)
    from t (inr c) = elim (cases s xs t c) [ inl e ↦ inl (inr (sym e)) | inr d ↦ inr d ]

pub least_of : (xs : List State) → IsLeast (Contains xs) (least xs)
least_of [] = λ t c. nowhere t c
least_of (s ∷ xs) =
    let one : IsLeast (λ t. t ≡ s) (Some s) = least_one (λ t. t ≡ s) s refl (λ t h. h) in
    least_same (λ t. (t ≡ s) ⊎ Contains xs t) (Contains (s ∷ xs)) (Some (least_with s xs)) (λ t. (λ k. to t k, λ k. from t k)) (least_with_is (λ t. t ≡ s) s xs one)
  where
    to : (t : State) → (t ≡ s) ⊎ Contains xs t → Contains (s ∷ xs) t
    to t (inl e) = subst (λ (x : State). Contains (s ∷ xs) x) (sym e) (here s xs)
    to t (inr c) = there s xs t c

    from : (t : State) → Contains (s ∷ xs) t → (t ≡ s) ⊎ Contains xs t
    from t c = elim (cases s xs t c) [ inl e ↦ inl (sym e) | inr d ↦ inr d ]
