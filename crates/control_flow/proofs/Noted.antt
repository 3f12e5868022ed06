-- Lone jumps, of one point more.
use Rattle.std.proofs.Common.{◌≡◌, ℕ, ◌+◌, ◌<◌, inl, inr, Bool, true, false, cond, List, [], ◌∷◌, ◌++◌, Some, All, Contains, refl, sym, ◌∙◌, subst, arith}
use Rattle.std.specs.BTreeMap.{Updates, get, is_at}
use Rattle.std.specs.Ordering.{is_eq, nat_cmp, ordering_then}
use Rattle.std.proofs.lemmas.Bool.Decides.{nat_tests}
use Rattle.std.proofs.lemmas.List.Elements.{All-contains, All-push, All-weaker, Contains-push_cases}
use Rattle.ot_base.specs.Places.{place_cmp}
use Rattle.ot_base.specs.declared.place.Place.{Place}
use Rattle.alternatives.specs.declared.point.Point.{Point}
use Rattle.flow_defs.specs.Coded.{Coded}
use Rattle.flow_defs.specs.Code.{point_at}
use Rattle.point_edges.specs.Tables.{table_start_of}
use Rattle.control_flow.specs.Lone.{AreLoneJumps, GoAlike, HasEdgesOf, IsFirstJump, is_lone_jump}
use Rattle.control_flow.specs.declared.lone_jumps.LoneJumps.{LoneJumps}

same_sec : (a b c d : ℕ) → is_eq (ordering_then (nat_cmp a c) (nat_cmp b d)) ≡ true → a ≡ c
same_sec a b c d x = grind (arith, nat_tests)

same_off : (a b c d : ℕ) → is_eq (ordering_then (nat_cmp a c) (nat_cmp b d)) ≡ true → b ≡ d
same_off a b c d x = grind (arith, nat_tests)

place_of : (p : Place) (sec off : ℕ) → p.sec ≡ sec → p.off ≡ off → p ≡ record { sec = sec; off = off }
place_of p sec off e f = rw (← e, ← f) refl

is_one_place : (p q : Place) → is_at (place_cmp p) q ≡ true → p ≡ q
is_one_place p q x = place_of p q.sec q.off (same_sec p.sec p.off q.sec q.off x) (same_off p.sec p.off q.sec q.off x)

same_some : {X : Type 0} {a b : X} → Some a ≡ Some b → a ≡ b
same_some e = cc

module _ (o : Coded) (jumps : LoneJumps) (n : ℕ) (are : AreLoneJumps o jumps n) where
  old : (start : Place) (r : ℕ) → get place_cmp jumps.firsts start ≡ Some r → IsFirstJump o jumps.alike.items (n + 1) start r
  old start r at =
      let is = are.firsts start r at in
      record { earlier = (let l : r < n = is.earlier in omega arith); own = is.own; lone = is.lone; begins = is.begins }

  later : All (λ q. q < n + 1) jumps.alike.items
  later = All-weaker (λ (q : ℕ). q < n) (λ (q : ℕ). q < n + 1) (λ q l. omega arith) jumps.alike.items are.earlier

  -- one that is no lone jump
  pub jumps_more : AreLoneJumps o jumps (n + 1)
  jumps_more = record { firsts = old; earlier = later }

  not_in_grown : (r : ℕ) → r < n → (Contains jumps.alike.items r → ⊥) → Contains (jumps.alike.items ++ n ∷ []) r → ⊥
  not_in_grown r l own c = elim (Contains-push_cases jumps.alike.items n r c) [ inl here ↦ own here | inr same ↦ absurd (omega arith) ]

  -- one that goes like an earlier one
  pub alike_more : (after : LoneJumps) → after.firsts ≡ jumps.firsts → after.alike.items ≡ jumps.alike.items ++ n ∷ [] → AreLoneJumps o after (n + 1)
  alike_more after same grown = record {
    firsts = λ start r at.
        let is = are.firsts start r (subst (λ m. get place_cmp m start ≡ Some r) same at) in
        record {
          earlier = (let l : r < n = is.earlier in omega arith);
          own = subst (λ (ns : List ℕ). Contains ns r → ⊥) (sym grown) (not_in_grown r is.earlier is.own);
          lone = is.lone;
          begins = is.begins;
        };
    earlier = subst (All (λ (q : ℕ). q < n + 1)) (sym grown) (All-push (λ (q : ℕ). q < n + 1) jumps.alike.items n later (omega arith));
  }

  -- the first one through its table
  pub first_more : (after : LoneJumps) (start : Place) → Updates place_cmp jumps.firsts after.firsts start (Some n) → after.alike.items ≡ jumps.alike.items → is_lone_jump o (point_at o n) ≡ true → table_start_of o (point_at o n) ≡ Some start → AreLoneJumps o after (n + 1)
  first_more after start updates same lone begins = record {
    firsts = λ place r at.
        let told : cond (is_at (place_cmp start) place) (Some n) (get place_cmp jumps.firsts place) ≡ Some r = sym (updates.0 place) ∙ at in
        subst (λ (ns : List ℕ). IsFirstJump o ns (n + 1) place r) (sym same) (by (is_at (place_cmp start) place) place r refl told);
    earlier = subst (All (λ (q : ℕ). q < n + 1)) (sym same) later;
  }
    where
      here : IsFirstJump o jumps.alike.items (n + 1) start n
      here = record {
        earlier = omega arith;
        own = λ c. absurd (let l : n < n = All-contains (λ (q : ℕ). q < n) jumps.alike.items n are.earlier c in omega arith);
        lone = lone;
        begins = begins;
      }

      by : (b : Bool) (place : Place) (r : ℕ) → is_at (place_cmp start) place ≡ b → cond b (Some n) (get place_cmp jumps.firsts place) ≡ Some r → IsFirstJump o jumps.alike.items (n + 1) place r
      by true place r is told = subst (λ (q : ℕ). IsFirstJump o jumps.alike.items (n + 1) place q) (same_some told) (subst (λ (p : Place). IsFirstJump o jumps.alike.items (n + 1) p n) (is_one_place start place is) here)
      by false place r isnt told = old place r told

  -- a lone jump has the edges of the first one through its table
  pub has_edges : ((one other : Point) → is_lone_jump o one ≡ true → is_lone_jump o other ≡ true → table_start_of o one ≡ table_start_of o other → GoAlike o one other) → (start : Place) (r : ℕ) (grown : List ℕ) → get place_cmp jumps.firsts start ≡ Some r → grown ≡ jumps.alike.items ++ n ∷ [] → is_lone_jump o (point_at o n) ≡ true → table_start_of o (point_at o n) ≡ Some start → HasEdgesOf o grown n r
  has_edges law start r grown at same lone begins =
      let is = are.firsts start r at in
      record {
        earlier = is.earlier;
        own = subst (λ (ns : List ℕ). Contains ns r → ⊥) (sym same) (not_in_grown r is.earlier is.own);
        go_alike = law (point_at o n) (point_at o r) lone is.lone (begins ∙ sym is.begins);
      }
