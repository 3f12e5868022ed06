-- Spots, one more point at a time.
use Rattle.std.proofs.Common.{◌≡◌, ◌≢◌, ℕ, ◌+◌, ◌-◌, ◌<◌, ◌≤◌, Bool, true, false, ◌&&◌, cond, List, [], ◌∷◌, ◌++◌, length, get_or, set, Option, Some, None, inl, inr, arith, refl, sym, ap, ◌∙◌, subst, length-append}
use Rattle.std.specs.Prelude.{is_some, AllPairs, IsTrue, IsSome, ◌↔◌}
use Rattle.std.specs.Option.{option_or}
use Rattle.std.proofs.lemmas.Bool.{cases_lt, cases_order}
use Rattle.std.proofs.lemmas.List.{get_or-set_same, get_or-set_other, get_or_append_left, get_or_default, length-set}
use Rattle.std.proofs.Math.Seq.{get_or-append_seam}
use Rattle.ot_base.specs.declared.place.Place.{Place}
use Rattle.ot_base.specs.declared.warning.Warning.{Warning}
use Rattle.ot_base.specs.Places.{is_before, same_place}
use Rattle.elf_objects.specs.Below.{first_of, least_below}
use Rattle.elf_objects.proofs.LeastBelow.{least_below-step, least_below-zero, first_of-none}
use Rattle.state_defs.specs.declared.state.State.{State}
use Rattle.machine_defs.specs.Program.{Program}
use Rattle.command_base.specs.declared.backtrace_spots.Spot.{Spot}
use Rattle.command_base.specs.Backtrace.{stands_at}
use Rattle.command_base.specs.BacktraceSpots.{AreApart, AreSpots, HaveNumbers, IsSpot}
use Rattle.command_base.proofs.PlaceOrder.{before_both, before_is_other, behind_is_other, is_behind, is_same, other_way, same_is}

abbrev pub no_spot : Spot
no_spot = record { place = record { sec = 0; off = 0 }; first = None; kept = None }

pub new_spot : (p : Program) (states : ℕ → Option State) (place : Place) → IsSpot p states 0 (record { place = place; first = None; kept = None })
new_spot p states place = record { first = sym (least_below-zero (stands_at p place)); kept = sym (least_below-zero (λ q. stands_at p place q && is_some (states q))) }

stands : (p : Program) (n : ℕ) (place : Place) → p.place n ≡ place → true ≡ stands_at p place n
stands p n place here = sym (ap (λ (x : Place). same_place x place) here ∙ is_same place)

and_true : (a b : Bool) → true ≡ a → b ≡ (a && b)
and_true true b e = refl
and_true false b e = cc

and_false : (a b : Bool) → a ≡ false → (a && b) ≡ false
and_false true b e = cc
and_false false b e = refl

-- a point stands at the spot
pub met : (p : Program) (states : ℕ → Option State) (n : ℕ) (is_kept : Bool) (spot new : Spot) → p.place n ≡ spot.place → is_kept ≡ is_some (states n) → new.place ≡ spot.place → IsSpot p states n spot
    → new.first ≡ first_of spot.first (Some n) → new.kept ≡ first_of spot.kept (cond is_kept (Some n) None) → IsSpot p states (n + 1) new
met p states n is_kept spot new here keeps same was first kept =
    let stand : true ≡ stands_at p spot.place n = stands p n spot.place here in
    record {
      first = least_below-step (stands_at p spot.place) n spot.first new.first true was.first stand first ∙ ap (λ (x : Place). least_below (stands_at p x) (n + 1)) (sym same);
      kept = least_below-step (λ q. stands_at p spot.place q && is_some (states q)) n spot.kept new.kept is_kept was.kept (keeps ∙ and_true (stands_at p spot.place n) (is_some (states n)) stand) kept
          ∙ ap (λ (x : Place). least_below (λ q. stands_at p x q && is_some (states q)) (n + 1)) (sym same);
    }

-- none stands there
passed_over : (p : Program) (states : ℕ → Option State) (n : ℕ) (spot : Spot) → stands_at p spot.place n ≡ false → IsSpot p states n spot → IsSpot p states (n + 1) spot
passed_over p states n spot other was = record {
  first = least_below-step (stands_at p spot.place) n spot.first spot.first false was.first (sym other) (first_of-none spot.first);
  kept = least_below-step (λ q. stands_at p spot.place q && is_some (states q)) n spot.kept spot.kept false was.kept (sym (and_false (stands_at p spot.place n) (is_some (states n)) other)) (first_of-none spot.kept);
}

-- ---- the spot at a place
pub parted : (spots : List Spot) (place : Place) → AreApart spots → (i j : ℕ) (d : Spot) → i ≤ j → j < length spots → is_before (get_or spots j d).place place ≡ true → is_before (get_or spots i d).place place ≡ true
parted spots place apart i j d order inside before = elim (cases_lt i j) [
  | inl lower ↦ before_both (get_or spots i d).place (get_or spots j d).place place (apart i j d lower inside) before
  | inr not_lower ↦
      let same : j ≡ i = omega arith in
      subst (λ k. is_before (get_or spots k d).place place ≡ true) same before
]

abbrev pub AllBefore : List Spot → Place → ℕ → Type 0
AllBefore spots place count = (k : ℕ) (d : Spot) → k < count → is_before (get_or spots k d).place place ≡ true

abbrev pub OthersNot : List Spot → Place → ℕ → Type 0
OthersNot spots place count = (k : ℕ) (d : Spot) → count ≤ k → k < length spots → is_before (get_or spots k d).place place ≡ false

-- no other spot is at the place of one
others_differ : (spots : List Spot) (number k : ℕ) (d : Spot) → AreApart spots → number < length spots → k < length spots → k ≢ number → same_place (get_or spots number d).place (get_or spots k d).place ≡ false
others_differ spots number k d apart inside within other = elim (cases_lt k number) [
  | inl lower ↦ behind_is_other (get_or spots k d).place (get_or spots number d).place (apart k number d lower inside)
  | inr not_lower ↦ before_is_other (get_or spots number d).place (get_or spots k d).place (apart number k d (omega (arith, not_lower, other)) within)
]

pub found : (p : Program) (states : ℕ → Option State) (n : ℕ) (place : Place) (spots : List Spot) (number : ℕ) (new d0 : Spot) → AreApart spots → number < length spots → same_place (get_or spots number d0).place place ≡ true → p.place n ≡ place → AreSpots p states n spots → IsSpot p states (n + 1) new
    → AreSpots p states (n + 1) (set spots number new)
found p states n place spots number new d0 apart inside here at were now k d within =
    let len : length (set spots number new) ≡ length spots = length-set spots number new in
    let within_old : k < length spots = omega (arith, within, len) in
    elim (cases_order k number) [
      | inl same ↦ subst (λ (j : ℕ). IsSpot p states (n + 1) (get_or (set spots number new) j d)) (sym same) (subst (λ (x : Spot). IsSpot p states (n + 1) x) (sym (get_or-set_same spots number new d inside)) now)
      | inr (inl lower) ↦ other k d within_old (omega (arith, lower))
      | inr (inr lower) ↦ other k d within_old (omega (arith, lower))
    ]
  where
    other : (k : ℕ) (d : Spot) → k < length spots → k ≢ number → IsSpot p states (n + 1) (get_or (set spots number new) k d)
    other k d within differs =
        let place_is : (get_or spots number d).place ≡ place = ap (λ (x : Spot). x.place) (get_or_default spots number d d0 inside) ∙ same_is (get_or spots number d0).place place here in
        let away : same_place (get_or spots number d).place (get_or spots k d).place ≡ false = others_differ spots number k d apart inside within differs in
        subst (λ (x : Spot). IsSpot p states (n + 1) x) (sym (get_or-set_other spots number k new d differs))
        (passed_over p states n (get_or spots k d) (ap (λ (x : Place). same_place x (get_or spots k d).place) (at ∙ sym place_is) ∙ away) (were k d within))

pub not_found : (p : Program) (states : ℕ → Option State) (n : ℕ) (place : Place) (spots : List Spot) (number : ℕ) → AreApart spots → AllBefore spots place number → OthersNot spots place number → ((d : Spot) → number < length spots → same_place (get_or spots number d).place place ≡ false) → p.place n ≡ place → AreSpots p states n spots → AreSpots p states (n + 1) spots
not_found p states n place spots number apart before others differs at were k d within =
    passed_over p states n (get_or spots k d) (ap (λ (x : Place). same_place x (get_or spots k d).place) at ∙ other_way (get_or spots k d).place place (away k d within)) (were k d within)
  where
    away : (k : ℕ) (d : Spot) → k < length spots → same_place (get_or spots k d).place place ≡ false
    away k d within = elim (cases_order k number) [
      | inr (inl lower) ↦ before_is_other (get_or spots k d).place place (before k d lower)
      | inl same ↦ subst (λ j. same_place (get_or spots j d).place place ≡ false) (sym same) (differs d (omega (arith, same, within)))
      | inr (inr lower) ↦
          let inside : number < length spots = omega (arith, lower, within) in
          let behind : is_before place (get_or spots number d).place ≡ true = is_behind (get_or spots number d).place place (others number d (omega arith) inside) (differs d inside) in
          behind_is_other place (get_or spots k d).place (before_both place (get_or spots number d).place (get_or spots k d).place behind (apart number k d lower within))
    ]

pub still_apart : (old new : List Spot) → AreApart old → length new ≡ length old → ((k : ℕ) (d : Spot) → (get_or new k d).place ≡ (get_or old k d).place) → AreApart new
still_apart old new apart len places i j d lower inside =
    ap (λ (x : Place). is_before x (get_or new j d).place) (places i d)
    ∙ ap (λ (x : Place). is_before (get_or old i d).place x) (places j d)
    ∙ apart i j d lower (omega (arith, inside, len))

pub kept_or_not : (b : Bool) (o : Option State) → IsTrue b ↔ IsSome o → b ≡ is_some o
kept_or_not true None h = let e : is_some {T = State} None ≡ true = h.0 refl in cc
kept_or_not true (Some s) h = refl
kept_or_not false None h = refl
kept_or_not false (Some s) h = let e : false ≡ true = h.1 refl in cc

pub or_is : (o r : Option ℕ) → option_or o r ≡ first_of o r
or_is None r = refl
or_is (Some k) r = refl

-- ---- one more place
apart_one_more : (spots : List Spot) (new : Spot) → AreApart spots → ((d : Spot) → 0 < length spots → is_before (get_or spots (length spots - 1) d).place new.place ≡ true) → AreApart (spots ++ new ∷ [])
apart_one_more spots new apart last i j d lower inside =
    let len : length (spots ++ new ∷ []) ≡ length spots + 1 = length-append spots (new ∷ []) in
    let at_i : get_or (spots ++ new ∷ []) i d ≡ get_or spots i d = get_or_append_left spots (new ∷ []) d i (omega (arith, lower, inside, len)) in
    elim (cases_lt j (length spots)) [
      | inl within ↦
          ap (λ (x : Spot). is_before x.place (get_or (spots ++ new ∷ []) j d).place) at_i
          ∙ ap (λ (x : Spot). is_before (get_or spots i d).place x.place) (get_or_append_left spots (new ∷ []) d j within)
          ∙ apart i j d lower within
      | inr behind ↦
          let is_last : j ≡ length spots = omega (arith, inside, len, behind) in
          let at_j : get_or (spots ++ new ∷ []) j d ≡ new = ap (λ k. get_or (spots ++ new ∷ []) k d) is_last ∙ get_or-append_seam spots new [] d in
          ap (λ (x : Spot). is_before x.place (get_or (spots ++ new ∷ []) j d).place) at_i
          ∙ ap (λ (x : Spot). is_before (get_or spots i d).place x.place) at_j
          ∙ before_last i (omega (arith, lower, is_last))
    ]
  where
    before_last : (i : ℕ) → i < length spots → is_before (get_or spots i d).place new.place ≡ true
    before_last i inside = elim (cases_lt i (length spots - 1)) [
      | inl lower ↦ before_both (get_or spots i d).place (get_or spots (length spots - 1) d).place new.place (apart i (length spots - 1) d lower (omega (arith, inside))) (last d (omega (arith, inside)))
      | inr is_last ↦
          let same : length spots - 1 ≡ i = omega (arith, inside, is_last) in
          subst (λ (k : ℕ). is_before (get_or spots k d).place new.place ≡ true) same (last d (omega (arith, inside)))
    ]

pub apart_more : (spots : List Spot) (new : Spot) → AreApart spots
    → ((d : Spot) → 0 < length spots → is_before new.place (get_or spots (length spots - 1) d).place ≡ false)
    → ((d : Spot) → 0 < length spots → same_place (get_or spots (length spots - 1) d).place new.place ≡ false)
    → AreApart (spots ++ new ∷ [])
apart_more spots new apart behind differs =
    apart_one_more spots new apart (λ d some. is_behind new.place (get_or spots (length spots - 1) d).place (behind d some) (other_way (get_or spots (length spots - 1) d).place new.place (differs d some)))

pub spots_more : (p : Program) (states : ℕ → Option State) (spots : List Spot) (new : Spot) → IsSpot p states 0 new → AreSpots p states 0 spots → AreSpots p states 0 (spots ++ new ∷ [])
spots_more p states spots new one were k d inside =
    let len : length (spots ++ new ∷ []) ≡ length spots + 1 = length-append spots (new ∷ []) in
    elim (cases_lt k (length spots)) [
      | inl within ↦ subst (λ (x : Spot). IsSpot p states 0 x) (sym (get_or_append_left spots (new ∷ []) d k within)) (were k d within)
      | inr behind ↦
          let is_last : k ≡ length spots = omega (arith, inside, len, behind) in
          let at_k : get_or (spots ++ new ∷ []) k d ≡ new = ap (λ j. get_or (spots ++ new ∷ []) j d) is_last ∙ get_or-append_seam spots new [] d in
          subst (λ (x : Spot). IsSpot p states 0 x) (sym at_k) one
    ]
