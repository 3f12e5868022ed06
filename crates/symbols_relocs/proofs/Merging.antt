-- One symbol more among functions that are merged in order.
use Rattle.std.proofs.Common.{◌≡◌, ◌≢◌, ◌⊎◌, inl, inr, ℕ, ◌<◌, ◌≤◌, ◌+◌, ◌-◌, Bool, true, false, cond, ◌&&◌, ltb, List, [], ◌∷◌, ◌++◌, length, set, take, Result, Ok, Err, IfOk, arith, refl, sym, ap, ◌∙◌}
use Rattle.std.specs.List.{Contains}
use Rattle.std.specs.List.Sorted.{IsPermutation}
use Rattle.std.proofs.lemmas.Bool.{cases_lt, cases_eq, ltb-true, lt-ltb}
use Rattle.std.proofs.lemmas.List.{get_or-set_same, get_or-set_other, get_or_append_left, get_or_default, get_or_push, get_or-take, length_push, length-take-le, take_more}
use Rattle.std.proofs.lemmas.List.Elements.{Contains-push_cases, Contains-push, Contains-append_left}
use Rattle.std.proofs.lemmas.List.Sorted.{Contains-permutation, IsPermutation-sym, length_permutation}
use Rattle.std.proofs.Math.ListN.{length-set}
use Rattle.ot_base.specs.Places.{is_before, same_place}
use Rattle.symbols_relocs.specs.declared.function.Function.{Function}
use Rattle.symbols_relocs.specs.Lists.{AreMerged, IsMergedFrom, AreByStart, widened, with_symbol, function, no_function}
use Rattle.symbols_relocs.proofs.PlaceOrder.{before_up_to, not_behind_other, same_is}

and_false : (x y : Bool) → x ≡ true → (x && y) ≡ false → y ≡ false
and_false true y e h = h
and_false false y e h = cc

and_true : (x y : Bool) → (x && y) ≡ true → (x ≡ true) × (y ≡ true)
and_true true y h = (refl, h)
and_true false y h = cc

lt_or_eq : (i n : ℕ) → i < n + 1 → (i < n) ⊎ (i ≡ n)
lt_or_eq i n h = elim (cases_lt i n) [ inl lt ↦ inl lt | inr ge ↦ inr (omega arith) ]

module _ (seen fs : List Function) (f : Function) (m : AreMerged seen fs) (order : (g : Function) → Contains seen g → is_before f.start g.start ≡ false) where
  no_later : (i : ℕ) → i < length fs → is_before f.start (function fs i).start ≡ false
  no_later i h = let from = m.from i h in rw (← from.lowest_start) (order from.lowest from.has_lowest)

  at_old : (i : ℕ) → i < length fs → function (fs ++ f ∷ []) i ≡ function fs i
  at_old i h = get_or_append_left fs (f ∷ []) no_function i h

  at_new : function (fs ++ f ∷ []) (length fs) ≡ f
  at_new = get_or_push fs f no_function (length fs) refl

  keep_from : (g : Function) → IsMergedFrom seen g → IsMergedFrom (seen ++ f ∷ []) g
  keep_from g w = record {
    lowest = w.lowest;
    has_lowest = Contains-append_left seen (f ∷ []) w.lowest w.has_lowest;
    lowest_start = w.lowest_start;
    lowest_sym = w.lowest_sym;
    largest = w.largest;
    has_largest = Contains-append_left seen (f ∷ []) w.largest w.has_largest;
    largest_start = w.largest_start;
    largest_size = w.largest_size;
  }

  -- a symbol that starts behind the others is a function of its own
  module _ (differs : (0 < length fs) → same_place (function fs (length fs - 1)).start f.start ≡ false) where
    before_new : (i : ℕ) → i < length fs → is_before (function fs i).start f.start ≡ true
    before_new i h =
        let last : ℕ = length fs - 1 in
        let some : 0 < length fs = omega arith in
        let last_in : last < length fs = omega arith in
        elim (cases_lt i last) [
          | inl lt ↦ before_up_to (function fs i).start (function fs last).start f.start (m.rising i last lt last_in) (no_later last last_in)
          | inr ge ↦
              let e : i ≡ last = omega arith in
              rw e (not_behind_other (function fs last).start f.start (no_later last last_in) (differs some))
        ]

    pub added : AreMerged (seen ++ f ∷ []) (fs ++ f ∷ [])
    added = record {
      few = let a = length_push fs f in let b = length_push seen f in let c = m.few in omega arith;
      rising = λ i j lt inside.
          let len = length_push fs f in
          elim (lt_or_eq j (length fs) (omega arith)) [
            | inl old ↦ let i_in : i < length fs = omega arith in rw (at_old i i_in, at_old j old) (m.rising i j lt old)
            | inr new ↦ let i_in : i < length fs = omega arith in rw (new, at_old i i_in, at_new) (before_new i i_in)
          ];
      from = λ i inside.
          let len = length_push fs f in
          elim (lt_or_eq i (length fs) (omega arith)) [
            | inl old ↦ rw (at_old i old) (keep_from (function fs i) (m.from i old))
            | inr new ↦ rw (new, at_new) (record {
              lowest = f;
              has_lowest = Contains-push seen f;
              lowest_start = refl;
              lowest_sym = refl;
              largest = f;
              has_largest = Contains-push seen f;
              largest_start = refl;
              largest_size = refl;
            })
          ];
      covers = λ g has.
          let len = length_push fs f in
          elim (Contains-push_cases seen f g has) [
            | inl old ↦ let w = m.covers g old in record {
              index = w.index;
              inside = let h = w.inside in omega arith;
              start = rw (at_old w.index w.inside) w.start;
              sym = rw (at_old w.index w.inside) w.sym;
              size = rw (at_old w.index w.inside) w.size;
            }
            | inr new ↦ record {
              index = length fs;
              inside = omega arith;
              start = rw (at_new) (ap (λ (x : Function). x.start) new);
              sym = let e : f.sym ≡ g.sym = ap (λ (x : Function). x.sym) new in rw (at_new) (omega arith);
              size = let e : f.size ≡ g.size = ap (λ (x : Function). x.size) new in rw (at_new) (omega arith);
            }
          ];
    }

  -- one that starts where the last function does belongs to it
  module _ (some : 0 < length fs) (same : same_place (function fs (length fs - 1)).start f.start ≡ true) where
    at_last : function (set fs (length fs - 1) (widened (function fs (length fs - 1)) f)) (length fs - 1) ≡ widened (function fs (length fs - 1)) f
    at_last = let h : length fs - 1 < length fs = omega arith in rw get_or-set_same refl

    at_other : (i : ℕ) → i ≢ length fs - 1 → function (set fs (length fs - 1) (widened (function fs (length fs - 1)) f)) i ≡ function fs i
    at_other i ne = get_or-set_other fs (length fs - 1) i (widened (function fs (length fs - 1)) f) no_function ne

    starts : (i : ℕ) → (function (set fs (length fs - 1) (widened (function fs (length fs - 1)) f)) i).start ≡ (function fs i).start
    starts i = elim (cases_eq i (length fs - 1)) [
      | inl e ↦ rw (e, at_last) refl
      | inr ne ↦ rw (at_other i ne) refl
    ]

    f_start : f.start ≡ (function fs (length fs - 1)).start
    f_start = sym (same_is (function fs (length fs - 1)).start f.start same)

    wide_from : IsMergedFrom seen (function fs (length fs - 1)) → IsMergedFrom (seen ++ f ∷ []) (widened (function fs (length fs - 1)) f)
    wide_from w = elim (cases_lt f.sym (function fs (length fs - 1)).sym) [
      | inl lower ↦ elim (cases_lt (function fs (length fs - 1)).size f.size) [
        | inl larger ↦ record {
          lowest = f;
          has_lowest = Contains-push seen f;
          lowest_start = f_start;
          lowest_sym = omega arith;
          largest = f;
          has_largest = Contains-push seen f;
          largest_start = f_start;
          largest_size = omega arith;
        }
        | inr others ↦ record {
          lowest = f;
          has_lowest = Contains-push seen f;
          lowest_start = f_start;
          lowest_sym = omega arith;
          largest = w.largest;
          has_largest = Contains-append_left seen (f ∷ []) w.largest w.has_largest;
          largest_start = w.largest_start;
          largest_size = let e = w.largest_size in omega arith;
        }
      ]
      | inr others ↦ elim (cases_lt (function fs (length fs - 1)).size f.size) [
        | inl larger ↦ record {
          lowest = w.lowest;
          has_lowest = Contains-append_left seen (f ∷ []) w.lowest w.has_lowest;
          lowest_start = w.lowest_start;
          lowest_sym = let e = w.lowest_sym in omega arith;
          largest = f;
          has_largest = Contains-push seen f;
          largest_start = f_start;
          largest_size = omega arith;
        }
        | inr small ↦ record {
          lowest = w.lowest;
          has_lowest = Contains-append_left seen (f ∷ []) w.lowest w.has_lowest;
          lowest_start = w.lowest_start;
          lowest_sym = let e = w.lowest_sym in omega arith;
          largest = w.largest;
          has_largest = Contains-append_left seen (f ∷ []) w.largest w.has_largest;
          largest_start = w.largest_start;
          largest_size = let e = w.largest_size in omega arith;
        }
      ]
    ]

    pub joined : AreMerged (seen ++ f ∷ []) (set fs (length fs - 1) (widened (function fs (length fs - 1)) f))
    joined = record {
      few = let a = length_push seen f in let c = m.few in rw (length-set) (omega arith);
      rising = λ i j lt inside. rw (starts i, starts j) (m.rising i j lt (let e = length-set fs (length fs - 1) (widened (function fs (length fs - 1)) f) in omega arith));
      from = λ i inside.
          let i_in : i < length fs = omega (arith, length-set {A = Function}) in
          elim (cases_eq i (length fs - 1)) [
            | inl e ↦ rw (e, at_last) (wide_from (m.from (length fs - 1) (omega arith)))
            | inr ne ↦ rw (at_other i ne) (keep_from (function fs i) (m.from i i_in))
          ];
      covers = λ g has.
          elim (Contains-push_cases seen f g has) [
            | inl old ↦ let w = m.covers g old in record {
              index = w.index;
              inside = let h = w.inside in rw (length-set) h;
              start = starts w.index ∙ w.start;
              sym = elim (cases_eq w.index (length fs - 1)) [
                | inl e ↦ let h : (function fs w.index).sym ≤ g.sym = w.sym in rw (e, at_last) (let h2 : (function fs (length fs - 1)).sym ≤ g.sym = rw (← e) h in omega arith)
                | inr ne ↦ rw (at_other w.index ne) w.sym
              ];
              size = elim (cases_eq w.index (length fs - 1)) [
                | inl e ↦ let h : g.size ≤ (function fs w.index).size = w.size in rw (e, at_last) (let h2 : g.size ≤ (function fs (length fs - 1)).size = rw (← e) h in omega arith)
                | inr ne ↦ rw (at_other w.index ne) w.size
              ];
            }
            | inr new ↦ record {
              index = length fs - 1;
              inside = rw (length-set) (omega arith);
              start = starts (length fs - 1) ∙ sym f_start ∙ ap (λ (x : Function). x.start) new;
              sym = let e : f.sym ≡ g.sym = ap (λ (x : Function). x.sym) new in rw at_last (omega arith);
              size = let e : f.size ≡ g.size = ap (λ (x : Function). x.size) new in rw at_last (omega arith);
            }
          ];
    }

  pub with_symbol_merged : AreMerged (seen ++ f ∷ []) (with_symbol fs f)
  with_symbol_merged = by_test (ltb 0 (length fs) && same_place (function fs (length fs - 1)).start f.start) refl
    where
      by_test : (b : Bool) → (ltb 0 (length fs) && same_place (function fs (length fs - 1)).start f.start) ≡ b → AreMerged (seen ++ f ∷ []) (cond b (set fs (length fs - 1) (widened (function fs (length fs - 1)) f)) (fs ++ f ∷ []))
      by_test true e = let p = and_true _ _ e in joined (ltb-true 0 (length fs) p.0) p.1
      by_test false e = added (λ some. and_false _ _ (lt-ltb 0 (length fs) some) e)

pub nothing_merged : AreMerged [] []
nothing_merged = record {
  few = omega arith;
  rising = λ i j lt inside. absurd (omega arith);
  from = λ i inside. absurd (omega arith);
  covers = λ f has. let inside = has.1 in absurd (omega arith);
}

-- functions are of symbols in whatever order
pub merged_before_sorting : (symbols sorted fs : List Function) → IsPermutation symbols sorted → AreMerged sorted fs → AreMerged symbols fs
merged_before_sorting symbols sorted fs p m = record {
  few = let h = m.few in let e = length_permutation symbols sorted p in omega arith;
  rising = m.rising;
  from = λ i inside. let w = m.from i inside in record {
    lowest = w.lowest;
    has_lowest = Contains-permutation sorted symbols w.lowest (IsPermutation-sym symbols sorted p) w.has_lowest;
    lowest_start = w.lowest_start;
    lowest_sym = w.lowest_sym;
    largest = w.largest;
    has_largest = Contains-permutation sorted symbols w.largest (IsPermutation-sym symbols sorted p) w.has_largest;
    largest_start = w.largest_start;
    largest_size = w.largest_size;
  };
  covers = λ f has. m.covers f (Contains-permutation symbols sorted f p has);
}

-- of symbols in order, none starts behind the next
pub no_earlier_behind : (xs : List Function) → AreByStart xs → (i : ℕ) → i < length xs → (g : Function) → Contains (take i xs) g → is_before (function xs i).start g.start ≡ false
no_earlier_behind xs up i inside g has =
    let short : length (take i xs) ≡ i = length-take-le i xs (omega arith) in
    let k : ℕ = has.0 in
    let low : k < length (take i xs) = has.1 in
    let k_low : k < i = omega arith in
    let k_in : k < length xs = omega arith in
    let e : function xs k ≡ g = get_or_default xs k no_function g k_in ∙ sym (get_or-take i xs k g k_low) ∙ has.2 in
    rw (← e) (up k i (omega arith) inside)

-- one symbol more in a loop
pub merged_more : (xs fs : List Function) (i : ℕ) (f : Function) → AreByStart xs → i < length xs → f ≡ function xs i → AreMerged (take i xs) fs → AreMerged (take (i + 1) xs) (with_symbol fs f)
merged_more xs fs i f up inside e m =
    rw (take_more xs i no_function inside, e) (with_symbol_merged (take i xs) fs (function xs i) m (no_earlier_behind xs up i inside))

pub merged_result : {A E : Type 0} (list : A → List Function) (symbols sorted lent : List Function) (r : Result A E) → IsPermutation symbols sorted → lent ≡ sorted → IfOk r (λ fs. AreMerged lent (list fs)) → IfOk r (λ fs. AreMerged symbols (list fs))
merged_result list symbols sorted lent (Ok fs) p e m = merged_before_sorting symbols sorted (list fs) p (rw (← e) m)
merged_result list symbols sorted lent (Err x) p e m = tt
