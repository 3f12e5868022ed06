-- What is below an address, and nearer to it, by the order of SAVE points.
use Rattle.std.proofs.Common.{◌≡◌, ℕ, ◌+◌, ◌-◌, ◌<◌, ◌≤◌, inl, inr, List, length, get_or, Bool, true, false, eqb, ltb, ◌&&◌, ◌||◌, Option, Some, None, refl, sym, ap, ◌∙◌, arith}
use Rattle.std.specs.declared.cmp.Ordering.TheVariants.{Less, Greater}
use Rattle.std.specs.Option.{option_cmp, option_eq}
use Rattle.std.specs.Ordering.{nat_cmp, is_lt, ordering_then}
use Rattle.std.proofs.lemmas.Bool.{cases_Bool, cases_lt, false≢true}
use Rattle.std.proofs.lemmas.Bool.Decides.{nat_tests}
use Rattle.std.proofs.lemmas.List.{get_or_default}
use Rattle.ot_base.specs.declared.place.Place.{Place}
use Rattle.flow_defs.specs.Tables.{same_owner}
use Rattle.object_points.specs.declared.saves.SavePoint.{SavePoint}
use Rattle.object_points.specs.SaveOrder.{home_cmp, is_below, is_nearer_save, save_cmp, AreInOrder, IsNearestAt}
use Rattle.object_points.proofs.HintOrder.{home_not}

-- owners by numbers: none comes first
abbrev rank : Option ℕ → ℕ
rank None = 0
rank (Some a) = a + 1

ranked_more : (a b : ℕ) → nat_cmp a b ≡ nat_cmp (a + 1) (b + 1)
ranked_more a b = grind (arith, nat_tests)

ranked_first : (b : ℕ) → Less ≡ nat_cmp 0 (b + 1)
ranked_first b = grind (arith, nat_tests)

ranked_last : (a : ℕ) → Greater ≡ nat_cmp (a + 1) 0
ranked_last a = grind (arith, nat_tests)

ranked : (a b : Option ℕ) → option_cmp nat_cmp a b ≡ nat_cmp (rank a) (rank b)
ranked None None = refl
ranked None (Some b) = ranked_first b
ranked (Some a) None = ranked_last a
ranked (Some a) (Some b) = ranked_more a b

same_more : (a b : ℕ) → eqb a b ≡ eqb (a + 1) (b + 1)
same_more a b = grind (arith, nat_tests)

same_first : (b : ℕ) → false ≡ eqb 0 (b + 1)
same_first b = grind (arith, nat_tests)

same_last : (a : ℕ) → false ≡ eqb (a + 1) 0
same_last a = grind (arith, nat_tests)

eqb_comm : (a b : ℕ) → eqb a b ≡ eqb b a
eqb_comm a b = grind (arith, nat_tests)

same_rank : (a b : Option ℕ) → same_owner a b ≡ eqb (rank a) (rank b)
same_rank None None = refl
same_rank None (Some b) = same_first b
same_rank (Some a) None = same_last a
same_rank (Some a) (Some b) = same_more a b

pub owners_equal : (a b : Option ℕ) → option_eq eqb a b ≡ same_owner b a
owners_equal None None = refl
owners_equal None (Some b) = refl
owners_equal (Some a) None = refl
owners_equal (Some a) (Some b) = eqb_comm a b

-- whether a home is before another, by numbers
abbrev lower : ℕ → ℕ → ℕ → ℕ → ℕ → ℕ → Bool
lower r s o t u p = is_lt (ordering_then (nat_cmp r t) (ordering_then (nat_cmp s u) (nat_cmp o p)))

-- whether a SAVE is before another
abbrev before : ℕ → ℕ → ℕ → ℕ → ℕ → ℕ → ℕ → ℕ → ℕ → ℕ → Bool
before r s o v n t u p w m = is_lt (ordering_then (ordering_then (ordering_then (nat_cmp r t) (ordering_then (nat_cmp s u) (nat_cmp o p))) (nat_cmp w v)) (nat_cmp m n))

-- whether it is below an address
abbrev under : ℕ → ℕ → ℕ → ℕ → ℕ → ℕ → Bool
under r s o t u p = eqb t r && (eqb s u && ltb o p)

not_under : (r s o t u p : ℕ) → lower r s o t u p ≡ false → under r s o t u p ≡ false
not_under r s o t u p h = grind (arith, nat_tests)

is_under : (r s o t u p : ℕ) → lower r s o t u p ≡ true → eqb t r ≡ true → s ≡ u → under r s o t u p ≡ true
is_under r s o t u p h one two = grind (arith, nat_tests)

under_rank : (r s o t u p : ℕ) → under r s o t u p ≡ true → r ≡ t
under_rank r s o t u p h = grind (arith, nat_tests)

under_sec : (r s o t u p : ℕ) → under r s o t u p ≡ true → s ≡ u
under_sec r s o t u p h = grind (arith, nat_tests)

-- what lies between two homes of one owner and section is of these too
shared : (r s o q t u p : ℕ) → lower r s o t u q ≡ false → lower r s o t u p ≡ true → (eqb t r && eqb s u) ≡ true
shared r s o q t u p not_before last = grind (arith, nat_tests)

farther : (r s o v n p w m : ℕ) → before r s o v n r s p w m ≡ false → (ltb o p || (eqb p o && ltb w v)) ≡ false
farther r s o v n p w m h = grind (arith, nat_tests)

nearer : (r s o v n p w m : ℕ) → before r s o v n r s p w m ≡ false → m < n → (ltb p o || (eqb o p && ltb v w)) ≡ true
nearer r s o v n p w m h less = grind (arith, nat_tests)

-- the same of SAVEs
home_is : (owner other : Option ℕ) (p q : Place) → home_cmp owner p other q ≡ ordering_then (nat_cmp (rank owner) (rank other)) (ordering_then (nat_cmp p.sec q.sec) (nat_cmp p.off q.off))
home_is owner other p q = ap (λ o. ordering_then o (ordering_then (nat_cmp p.sec q.sec) (nat_cmp p.off q.off))) (ranked owner other)

save_is : (a b : SavePoint) → is_lt (save_cmp a b) ≡ before (rank a.owner) a.address.sec a.address.off a.variant a.number (rank b.owner) b.address.sec b.address.off b.variant b.number
save_is a b = ap (λ o. is_lt (ordering_then (ordering_then o (nat_cmp b.variant a.variant)) (nat_cmp b.number a.number))) (home_is a.owner b.owner a.address b.address)

below_is : (owner : Option ℕ) (address : Place) (s : SavePoint) → is_below owner address s ≡ under (rank s.owner) s.address.sec s.address.off (rank owner) address.sec address.off
below_is owner address s = ap (λ b. b && (eqb s.address.sec address.sec && ltb s.address.off address.off)) (same_rank owner s.owner)

pub not_below : (owner : Option ℕ) (address : Place) (s : SavePoint) → is_lt (home_cmp s.owner s.address owner address) ≡ false → is_below owner address s ≡ false
not_below owner address s h =
    below_is owner address s ∙ not_under (rank s.owner) s.address.sec s.address.off (rank owner) address.sec address.off (sym (ap is_lt (home_is s.owner owner s.address address)) ∙ h)

below_here : (owner : Option ℕ) (address : Place) (s : SavePoint) → is_lt (home_cmp s.owner s.address owner address) ≡ true → same_owner owner s.owner ≡ true → s.address.sec ≡ address.sec → is_below owner address s ≡ true
below_here owner address s h mine sec =
    below_is owner address s
    ∙ is_under (rank s.owner) s.address.sec s.address.off (rank owner) address.sec address.off (sym (ap is_lt (home_is s.owner owner s.address address)) ∙ h) (sym (same_rank owner s.owner) ∙ mine) sec

-- two that are below one address, in order
module _ (owner : Option ℕ) (address : Place) (a b : SavePoint) where
  same_ranks : is_below owner address a ≡ true → is_below owner address b ≡ true → rank b.owner ≡ rank a.owner
  same_ranks one other =
      under_rank (rank b.owner) b.address.sec b.address.off (rank owner) address.sec address.off (sym (below_is owner address b) ∙ other)
      ∙ sym (under_rank (rank a.owner) a.address.sec a.address.off (rank owner) address.sec address.off (sym (below_is owner address a) ∙ one))

  same_secs : is_below owner address a ≡ true → is_below owner address b ≡ true → b.address.sec ≡ a.address.sec
  same_secs one other =
      under_sec (rank b.owner) b.address.sec b.address.off (rank owner) address.sec address.off (sym (below_is owner address b) ∙ other)
      ∙ sym (under_sec (rank a.owner) a.address.sec a.address.off (rank owner) address.sec address.off (sym (below_is owner address a) ∙ one))

  in_numbers : is_below owner address a ≡ true → is_below owner address b ≡ true → is_lt (save_cmp a b) ≡ false → before (rank a.owner) a.address.sec a.address.off a.variant a.number (rank a.owner) a.address.sec b.address.off b.variant b.number ≡ false
  in_numbers one other order =
      ap (λ r. before (rank a.owner) a.address.sec a.address.off a.variant a.number r a.address.sec b.address.off b.variant b.number) (sym (same_ranks one other))
      ∙ ap (λ s. before (rank a.owner) a.address.sec a.address.off a.variant a.number (rank b.owner) s b.address.off b.variant b.number) (sym (same_secs one other))
      ∙ sym (save_is a b) ∙ order

  pub not_nearer : is_below owner address a ≡ true → is_below owner address b ≡ true → is_lt (save_cmp a b) ≡ false → is_nearer_save b a ≡ false
  not_nearer one other order = farther (rank a.owner) a.address.sec a.address.off a.variant a.number b.address.off b.variant b.number (in_numbers one other order)

  pub is_nearer : is_below owner address a ≡ true → is_below owner address b ≡ true → is_lt (save_cmp a b) ≡ false → b.number < a.number → is_nearer_save a b ≡ true
  is_nearer one other order less = nearer (rank a.owner) a.address.sec a.address.off a.variant a.number b.address.off b.variant b.number (in_numbers one other order) less

  -- where b is below the address and a stands between, a is of its owner and section
  between : is_below owner address b ≡ true → is_lt (home_cmp a.owner a.address b.owner b.address) ≡ false → is_lt (home_cmp a.owner a.address owner address) ≡ true → (same_owner owner a.owner && eqb a.address.sec address.sec) ≡ true
  between below not_before last =
      let rank_b : rank b.owner ≡ rank owner = under_rank (rank b.owner) b.address.sec b.address.off (rank owner) address.sec address.off (sym (below_is owner address b) ∙ below) in
      let sec_b : b.address.sec ≡ address.sec = under_sec (rank b.owner) b.address.sec b.address.off (rank owner) address.sec address.off (sym (below_is owner address b) ∙ below) in
      ap (λ x. x && eqb a.address.sec address.sec) (same_rank owner a.owner)
      ∙ shared (rank a.owner) a.address.sec a.address.off b.address.off (rank owner) address.sec address.off
      (ap (λ r. lower (rank a.owner) a.address.sec a.address.off r address.sec b.address.off) (sym rank_b)
      ∙ ap (λ s. lower (rank a.owner) a.address.sec a.address.off (rank b.owner) s b.address.off) (sym sec_b)
      ∙ sym (ap is_lt (home_is a.owner b.owner a.address b.address)) ∙ not_before)
      (sym (ap is_lt (home_is a.owner owner a.address address)) ∙ last)

-- what the last of those before an address tells
module _ (saves : List SavePoint) (owner : Option ℕ) (address : Place) (count : ℕ) (d : SavePoint)
    (order : AreInOrder saves) (some : 0 < count) (within : count ≤ length saves)
    (early : (k : ℕ) (d : SavePoint) → k < count → is_lt (home_cmp (get_or saves k d).owner (get_or saves k d).address owner address) ≡ true)
    (late : (k : ℕ) (d : SavePoint) → count ≤ k → k < length saves → is_lt (home_cmp (get_or saves k d).owner (get_or saves k d).address owner address) ≡ false) where
  abbrev last : SavePoint
  last = get_or saves (count - 1) d

  last_inside : count - 1 < length saves
  last_inside = omega arith

  last_early : is_lt (home_cmp last.owner last.address owner address) ≡ true
  last_early = early (count - 1) d (omega arith)

  anywhere : (e : SavePoint) → last ≡ get_or saves (count - 1) e
  anywhere e = get_or_default saves (count - 1) d e last_inside

  behind_last : (k : ℕ) (e : SavePoint) → k < count → is_lt (save_cmp last (get_or saves k e)) ≡ false
  behind_last k e lower = ap (λ s. is_lt (save_cmp s (get_or saves k e))) (anywhere e) ∙ order k (count - 1) e (omega arith) last_inside

  early_one : (k : ℕ) (e : SavePoint) → k < length saves → is_below owner address (get_or saves k e) ≡ true → k < count
  early_one k e inside below = elim (cases_lt k count) [
    | inl lower ↦ lower
    | inr behind ↦ absurd (false≢true (sym (not_below owner address (get_or saves k e) (late k e behind inside)) ∙ below))
  ]

  pub last_is_nearest : same_owner owner last.owner ≡ true → last.address.sec ≡ address.sec → IsNearestAt saves owner address last.number (count - 1)
  last_is_nearest mine sec =
      let below : is_below owner address last ≡ true = below_here owner address last last_early mine sec in
      record {
        inside = last_inside;
        number = λ e. ap (λ (s : SavePoint). s.number) (sym (anywhere e));
        below = λ e. ap (is_below owner address) (sym (anywhere e)) ∙ below;
        nearest = λ k e inside other. ap (is_nearer_save (get_or saves k e)) (sym (anywhere e)) ∙ not_nearer owner address last (get_or saves k e) below other (behind_last k e (early_one k e inside other));
        first = λ k e inside other less. ap (λ s. is_nearer_save s (get_or saves k e)) (sym (anywhere e)) ∙ is_nearer owner address last (get_or saves k e) below other (behind_last k e (early_one k e inside other)) less;
      }

  pub none_is_below : (same_owner owner last.owner && eqb last.address.sec address.sec) ≡ false → (k : ℕ) (e : SavePoint) → k < length saves → is_below owner address (get_or saves k e) ≡ false
  none_is_below other k e inside = elim (cases_Bool (is_below owner address (get_or saves k e))) [
    | inl below ↦ absurd (false≢true (sym other ∙ between owner address last (get_or saves k e) below (home_not last (get_or saves k e) (behind_last k e (early_one k e inside below))) last_early))
    | inr not ↦ not
  ]

pub elsewhere : (mine : Bool) (a b : ℕ) → (a ≡ b → ⊥) → (mine && eqb a b) ≡ false
elsewhere true a b other = grind (arith, nat_tests)
elsewhere false a b other = refl

pub other_owner : (mine here : Bool) → mine ≡ false → (mine && here) ≡ false
other_owner mine here other = ap (λ b. b && here) other
