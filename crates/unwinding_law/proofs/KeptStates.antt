-- Kept states: they are of checked points, consistent, and carried along edges.
use Rattle.std.proofs.Common.{◌≡◌, ℕ, zero, suc, ◌⊎◌, Bool, true, false, if◌then◌else◌, List, [], ◌∷◌, Option, Some, None, Result, Ok, Err, ◌==◌, Contains, filter, option_and_then, refl, sym, ap, ◌∙◌, subst, inl, inr, arith}
use Rattle.std.specs.List.{list_any}
use Rattle.std.proofs.lemmas.Bool.{eq-eqb, eqb-true}
use Rattle.machine_defs.specs.declared.flow.Edge.{Edge}
use Rattle.machine_defs.specs.declared.flow.EdgeKind.{EdgeKind}
use Rattle.machine_defs.specs.declared.flow.EdgeKind.TheVariants.{Next, Taken, Fixup, Table, Sibling}
use Rattle.state_defs.specs.declared.state.State.{State}
use Rattle.state_defs.specs.declared.state.EndKind.TheVariants.{Undefined}
use Rattle.state_defs.specs.declared.state.State.TheVariants.{Ended}
use Rattle.state_defs.specs.declared.state.HintState.{HintState}
use Rattle.state_defs.specs.declared.state.HintState.TheVariants.{Set, Save, Restore}
use Rattle.state_defs.specs.State.{initial, IsConsistent}
use Rattle.state_defs.specs.Order.{least, least_with, comes_before}
use Rattle.state_defs.specs.Move.{move}
use Rattle.state_defs.specs.Sound.{MoveIsConsistent}
use Rattle.machine_defs.specs.Program.{Program, IsPoint, entry_points, below}
use Rattle.machine_defs.specs.IsProgram.{IsProgram}
use Rattle.machine_defs.specs.Kept.{edges_of, moved, loses_stack, loosened, moved_at, brought_along, Brings, brought_from, brought, is_at_entry, first_state, later_state, kept_or, state_at, Kept, is_free}
use Rattle.machine_defs.specs.Broken.{IsAccepted, mismatch}
use Rattle.machine_defs.proofs.KeptLemmas.{kept_is_one}
use Rattle.unwinding_law.proofs.Lists.{here, there, cases, nowhere, in_filter, from_filter, found, in_flat_map, from_flat_map, in_below, from_below}
use Rattle.unwinding_law.proofs.Same.{state_stable}

-- the least of a list is one of it
least_in : (best : State) (xs : List State) → Contains (best ∷ xs) (least_with best xs)
least_in best [] = here best []
least_in best (s ∷ xs) = go (comes_before s best) (λ b. least_in b xs)
  where
    go : (b : Bool) → ((c : State) → Contains (c ∷ xs) (least_with c xs)) → Contains (best ∷ s ∷ xs) (least_with (if b then s else best) xs)
    go true f = there best (s ∷ xs) (least_with s xs) (f s)
    go false f = elim (cases best xs (least_with best xs) (f best)) [ inl e ↦ subst (λ (z : State). Contains (z ∷ s ∷ xs) (least_with best xs)) (sym e) (here (least_with best xs) (s ∷ xs)) | inr c ↦ there best (s ∷ xs) (least_with best xs) (there s xs (least_with best xs) c) ]

pub least_member : (xs : List State) (u : State) → least xs ≡ Some u → Contains xs u
least_member [] u e = absurd (let k : ⊥ = cc in k)
least_member (s ∷ xs) u e = let k : least_with s xs ≡ u = cc in subst (λ (z : State). Contains (s ∷ xs) z) k (least_in s xs)

pub least_some : (xs : List State) (t : State) → Contains xs t → (u : State) × (least xs ≡ Some u)
least_some [] t c = nowhere t c
least_some (s ∷ xs) t c = (least_with s xs, refl)

pub moved_ok : (r : Result State ℕ) (t : State) → Contains (moved r) t → r ≡ Ok t
moved_ok (Ok s) t c = elim (cases s [] t c) [ inl e ↦ ap Ok e | inr d ↦ nowhere t d ]
moved_ok (Err n) t c = nowhere t c

pub brought_moves : (s : State) (after : Result State ℕ) (kind : EdgeKind) (t : State) → Contains (brought_along s after kind) t → (s ≡ t) ⊎ (after ≡ Ok t)
brought_moves s after Next t c = inr (moved_ok after t c)
brought_moves s after Taken t c = inr (moved_ok after t c)
brought_moves s after Fixup t c = elim (cases s [] t c) [ inl e ↦ inl e | inr d ↦ nowhere t d ]
brought_moves s after Table t c = inr (moved_ok after t c)
brought_moves s after Sibling t c = nowhere t c

-- the move of a loose point is that of its instruction, or the stack is lost
pub moved_at_kept : (loose : Bool) (r : Result State ℕ) (t : State) → loosened loose r ≡ Ok t → (r ≡ Ok t) ⊎ (t ≡ Ended Undefined)
moved_at_kept false r t e = inl e
moved_at_kept true (Ok s) t e = inl e
moved_at_kept true (Err rule) t e = lost (loses_stack rule) e
  where
    lost : (b : Bool) → if◌then◌else◌ {A = Result State ℕ} b (Ok (Ended Undefined)) (Err rule) ≡ Ok t → ◌⊎◌ (Err rule ≡ Ok t) (t ≡ Ended Undefined)
    lost true e = inr (let k : t ≡ Ended Undefined = cc in k)
    lost false e = inl e

initial_consistent : IsConsistent initial
initial_consistent = record { fp = λ m e. absurd (let k : ⊥ = cc in k); aligned = λ e. absurd (let k : ⊥ = cc in k); saved = λ o e. absurd (let k : ⊥ = cc in k); same = λ e. omega arith }

-- a state is one of a checked point
pub unless_unchecked : (b : Bool) (o : Option State) (s : State) → (if b then None else o) ≡ Some s → o ≡ Some s
unless_unchecked true o s e = absurd (let k : ⊥ = cc in k)
unless_unchecked false o s e = e

module _ (p : Program) where
  checked_by : (b : Bool) (o : Option State) (s : State) → (if b then None else o) ≡ Some s → b ≡ false
  checked_by true o s e = absurd (let k : ⊥ = cc in k)
  checked_by false o s e = refl

  -- what is kept is checked
  level_checked : (level q : ℕ) (s : State) → state_at p level q ≡ Some s → p.unchecked q ≡ false
  level_checked zero q s e = checked_by (p.unchecked q) (first_state p q (p.hint q)) s e
  level_checked (suc n) q s e = go (state_at p n q) refl e (λ t h. level_checked n q t h)
    where
      go : (o : Option State) → state_at p n q ≡ o → kept_or o (if p.unchecked q then None else later_state p (state_at p n) q (p.hint q)) ≡ Some s → ((t : State) → state_at p n q ≡ Some t → p.unchecked q ≡ false) → p.unchecked q ≡ false
      go None h e f = checked_by (p.unchecked q) (later_state p (state_at p n) q (p.hint q)) s e
      go (Some t) h e f = f t h

  pub kept_checked : (q : ℕ) (s : State) → Kept p q s → p.unchecked q ≡ false
  kept_checked q s (level, e) = level_checked level q s e

  -- a hint that sets a state keeps it
  pub set_kept : (q : ℕ) (s : State) → p.unchecked q ≡ false → p.hint q ≡ Some (Set s) → Kept p q s
  set_kept q s u h = (0, rw (u, h) refl)

  is_entry : (q entry : ℕ) → Contains p.entries entry → Contains (entry_points p entry) q → is_at_entry p q ≡ true
  is_entry q entry c d = found (λ e. list_any (λ x. x == q) (entry_points p e)) p.entries entry c (found (λ x. x == q) (entry_points p entry) q d (eq-eqb q q refl))

  first_free : (q : ℕ) (h : Option HintState) → is_free h ≡ true → is_at_entry p q ≡ true → first_state p q h ≡ Some initial
  first_free q None f e = rw e refl
  first_free q (Some Save) f e = rw e refl
  first_free q (Some (Set s)) f e = absurd (let k : ⊥ = cc in k)
  first_free q (Some Restore) f e = absurd (let k : ⊥ = cc in k)

  -- entries keep the initial state
  pub entry_kept : (q entry : ℕ) → p.unchecked q ≡ false → is_free (p.hint q) ≡ true → Contains p.entries entry → Contains (entry_points p entry) q → Kept p q initial
  entry_kept q entry u f c d = (0, rw u (first_free q (p.hint q) f (is_entry q entry c d)))

  later_free : (states : ℕ → Option State) (q : ℕ) (h : Option HintState) → is_free h ≡ true → later_state p states q h ≡ least (brought p states q)
  later_free states q None f = refl
  later_free states q (Some Save) f = refl
  later_free states q (Some (Set s)) f = absurd (let k : ⊥ = cc in k)
  later_free states q (Some Restore) f = absurd (let k : ⊥ = cc in k)

  kept_or_some : (o : Option State) (u : State) → (w : State) × (kept_or o (Some u) ≡ Some w)
  kept_or_some None u = (u, refl)
  kept_or_some (Some s) u = (s, refl)

  -- what a kept point brings to a checked point without a hint for it is followed by a kept state there
  pub brought_kept : (a q : ℕ) (s t : State) → IsPoint p a → Kept p a s → Brings p a s q t → p.unchecked q ≡ false → is_free (p.hint q) ≡ true → (u : State) × Kept p q u
  brought_kept a q s t point (n, e) brings u f =
      let c : Contains (brought p (state_at p n) q) t = in_flat_map (λ x. brought_from p x (state_at p n x) q) (below p.count) a t (in_below p.count a point) (subst (λ (o : Option State). Contains (brought_from p a o q) t) (sym e) brings) in
      let l = least_some (brought p (state_at p n) q) t c in
      let k : (if p.unchecked q then None else later_state p (state_at p n) q (p.hint q)) ≡ Some l.0 = rw u (later_free (state_at p n) q (p.hint q) f ∙ l.1) in
      let w = kept_or_some (state_at p n q) l.0 in
      (w.0, (suc n, ap (kept_or (state_at p n q)) k ∙ w.1))

  -- and where no rule is broken it is what was brought
  pub carried : IsAccepted p → (a q : ℕ) (s t : State) → IsPoint p a → Kept p a s → Brings p a s q t → p.unchecked q ≡ false → is_free (p.hint q) ≡ true → Kept p q t
  carried acc a q s t point kept brings u f =
      let k = brought_kept a q s t point kept brings u f in
      subst (λ (z : State). Kept p q z) (sym (state_stable t k.0 (λ ne. acc _ _ _ _ (mismatch a q s t k.0 kept brings k.1 f ne)))) k.1

  pub brings_along : (a : ℕ) (s : State) (e : Edge) (t : State) → Contains (edges_of p a) e → Contains (brought_along s (moved_at p a s) e.kind) t → Brings p a s e.to t
  brings_along a s e t c d = in_flat_map (λ (e : Edge). brought_along s (moved_at p a s) e.kind) (filter (λ (x : Edge). x.to == e.to) (edges_of p a)) e t (in_filter (λ (x : Edge). x.to == e.to) (edges_of p a) e c (eq-eqb e.to e.to refl)) d

  -- what is brought comes along an edge
  pub brings_edge : (a q : ℕ) (s t : State) → Brings p a s q t → (e : Edge) × Contains (edges_of p a) e × (e.to ≡ q) × Contains (brought_along s (moved_at p a s) e.kind) t
  brings_edge a q s t c =
      let r = from_flat_map (λ (e : Edge). brought_along s (moved_at p a s) e.kind) (filter (λ (x : Edge). x.to == q) (edges_of p a)) t c in
      let k = from_filter (λ (x : Edge). x.to == q) (edges_of p a) r.0 r.1 in
      (r.0, k.0, eqb-true (r.0).to q k.1, r.2)

  brings_moves : (a q : ℕ) (s t : State) → Brings p a s q t → (s ≡ t) ⊎ (moved_at p a s ≡ Ok t)
  brings_moves a q s t c = let r = brings_edge a q s t c in brought_moves s (moved_at p a s) (r.0).kind t r.3

  -- a RESTORE has the state of its SAVE
  restore_later : (n q r : ℕ) (s : State) → p.hint q ≡ Some Restore → p.save_of q ≡ Some r → (if p.unchecked q then None else later_state p (state_at p n) q (p.hint q)) ≡ Some s → state_at p n r ≡ Some s
  restore_later n q r s h v e =
      let u = checked_by (p.unchecked q) (later_state p (state_at p n) q (p.hint q)) s e in
      let k : later_state p (state_at p n) q (p.hint q) ≡ Some s = rw u at e in
      let l : option_and_then (state_at p n) (p.save_of q) ≡ Some s = rw h at k in
      rw v at l

  restore_from : (n q r : ℕ) (s : State) → p.hint q ≡ Some Restore → p.save_of q ≡ Some r → state_at p n q ≡ Some s → Kept p r s
  restore_from zero q r s h v e =
      let u = checked_by (p.unchecked q) (first_state p q (p.hint q)) s e in
      let k : first_state p q (p.hint q) ≡ Some s = rw u at e in
      let l : None ≡ Some s = rw h at k in
      absurd (let k : ⊥ = cc in k)
  restore_from (suc n) q r s h v e = go (state_at p n q) refl e (λ t k. restore_from n q r t h v k)
    where
      go : (o : Option State) → state_at p n q ≡ o → kept_or o (if p.unchecked q then None else later_state p (state_at p n) q (p.hint q)) ≡ Some s → ((t : State) → state_at p n q ≡ Some t → Kept p r t) → Kept p r s
      go None k e f = (n, restore_later n q r s h v e)
      go (Some t) k e f = f s (k ∙ e)

  pub restored : (q r : ℕ) (s : State) → p.hint q ≡ Some Restore → p.save_of q ≡ Some r → p.unchecked q ≡ false → Kept p r s → Kept p q s
  restored q r s h v u (n, e) =
      let k : (if p.unchecked q then None else later_state p (state_at p n) q (p.hint q)) ≡ Some s = rw (u, h, v) e in
      let w = kept_or_some (state_at p n q) s in
      let next : state_at p (suc n) q ≡ Some w.0 = ap (kept_or (state_at p n q)) k ∙ w.1 in
      subst (λ (z : State). Kept p q z) (kept_is_one p r w.0 s (restore_from (suc n) q r w.0 h v next) (n, e)) (suc n, next)

  -- kept states are consistent
  module _ (is : IsProgram p) (keeps : MoveIsConsistent) where
    first_consistent : (q : ℕ) (s : State) (h : Option HintState) → IsPoint p q → p.hint q ≡ h → first_state p q h ≡ Some s → IsConsistent s
    first_consistent q s (Some (Set t)) point h e = subst IsConsistent (let k : t ≡ s = cc in k) (is.hints q t point h)
    first_consistent q s (Some Restore) point h e = absurd (let k : ⊥ = cc in k)
    first_consistent q s (Some Save) point h e = at_entry (is_at_entry p q) e
      where
        at_entry : (b : Bool) → (if b then Some initial else None) ≡ Some s → IsConsistent s
        at_entry true e = subst IsConsistent (let k : initial ≡ s = cc in k) initial_consistent
        at_entry false e = absurd (let k : ⊥ = cc in k)
    first_consistent q s None point h e = at_entry (is_at_entry p q) e
      where
        at_entry : (b : Bool) → (if b then Some initial else None) ≡ Some s → IsConsistent s
        at_entry true e = subst IsConsistent (let k : initial ≡ s = cc in k) initial_consistent
        at_entry false e = absurd (let k : ⊥ = cc in k)

    brought_consistent : (n q : ℕ) (s : State) → ((r : ℕ) (t : State) → IsPoint p r → state_at p n r ≡ Some t → IsConsistent t) → least (brought p (state_at p n) q) ≡ Some s → IsConsistent s
    brought_consistent n q s ih e = from (from_flat_map (λ a. brought_from p a (state_at p n a) q) (below p.count) s (least_member (brought p (state_at p n) q) s e))
      where
        after : (a : ℕ) (t : State) → IsPoint p a → state_at p n a ≡ Some t → moved_at p a t ≡ Ok s → IsConsistent s
        after a t point h moves = elim (moved_at_kept (p.loose a) (move t (p.insn a).op) s moves) [ inl e ↦ (keeps t s (p.insn a).op (ih a t point h) e).0 | inr e ↦ subst IsConsistent (sym e) tt ]

        one : (a : ℕ) → a ≡ a → IsPoint p a → (o : Option State) → state_at p n a ≡ o → Contains (brought_from p a o q) s → IsConsistent s
        one a k point None h c = nowhere s c
        one a k point (Some t) h c = elim (brings_moves a q t s c) [ inl same ↦ subst IsConsistent same (ih a t point h) | inr moves ↦ after a t point h moves ]

        from : (a : ℕ) × Contains (below p.count) a × Contains (brought_from p a (state_at p n a) q) s → IsConsistent s
        from r = one r.0 refl (from_below p.count r.0 r.1) (state_at p n r.0) refl r.2

    later_consistent : (n q : ℕ) (s : State) (h : Option HintState) → IsPoint p q → ((r : ℕ) (t : State) → IsPoint p r → state_at p n r ≡ Some t → IsConsistent t) → later_state p (state_at p n) q h ≡ Some s → IsConsistent s
    later_consistent n q s (Some (Set t)) point ih e = absurd (let k : ⊥ = cc in k)
    later_consistent n q s (Some Restore) point ih e = saved (p.save_of q) refl e
      where
        saved : (o : Option ℕ) → p.save_of q ≡ o → option_and_then (state_at p n) o ≡ Some s → IsConsistent s
        saved None v e = absurd (let k : ⊥ = cc in k)
        saved (Some r) v e = ih r s (is.saves q r point v) e
    later_consistent n q s (Some Save) point ih e = brought_consistent n q s ih e
    later_consistent n q s None point ih e = brought_consistent n q s ih e

    level_consistent : (n q : ℕ) (s : State) → IsPoint p q → state_at p n q ≡ Some s → IsConsistent s
    level_consistent zero q s point e = first_consistent q s (p.hint q) point refl (unless_unchecked (p.unchecked q) (first_state p q (p.hint q)) s e)
    level_consistent (suc n) q s point e = go (state_at p n q) refl e (λ r t k l. level_consistent n r t k l)
      where
        go : (o : Option State) → state_at p n q ≡ o → kept_or o (if p.unchecked q then None else later_state p (state_at p n) q (p.hint q)) ≡ Some s → ((r : ℕ) (t : State) → IsPoint p r → state_at p n r ≡ Some t → IsConsistent t) → IsConsistent s
        go None k e ih = later_consistent n q s (p.hint q) point ih (unless_unchecked (p.unchecked q) (later_state p (state_at p n) q (p.hint q)) s e)
        go (Some t) k e ih = ih q s point (k ∙ e)

    pub kept_consistent : (q : ℕ) (s : State) → IsPoint p q → Kept p q s → IsConsistent s
    kept_consistent q s point (n, e) = level_consistent n q s point e
