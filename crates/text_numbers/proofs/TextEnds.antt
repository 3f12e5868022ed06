-- The first zero byte from an offset on, by that before a later offset and from there on.
use Rattle.std.proofs.Common.{◌≡◌, ℕ, ◌+◌, ◌-◌, ◌<◌, ◌≤◌, Bool, true, false, ◌==◌, not, cond, eqb, List, ◌++◌, length, length-take, length-drop, drop, slice_range, refl, ap, ◌∙◌, arith}
use Rattle.std.specs.List.{prefix_len}
use Rattle.std.proofs.lemmas.Bool.{eqb-true}
use Rattle.std.proofs.lemmas.Bool.Decides.{nat_tests}
use Rattle.std.proofs.lemmas.List.Folds.{drop_split, prefix_len-append}
use Rattle.std.proofs.lemmas.List.Sums.{prefix_len-le-length}
use Rattle.text_numbers.specs.Ends.{end_from}

abbrev nonzero : ℕ → Bool
nonzero c = not (c == 0)

at_less : (a n x : ℕ) → a < n → cond (eqb a n) x a ≡ a
at_less a n x h = by (eqb a n) refl
  where
    by : (b : Bool) → eqb a n ≡ b → cond b x a ≡ a
    by true e = absurd (omega (arith, eqb-true a n e, h))
    by false e = refl

at_equal : (a n x : ℕ) → a ≡ n → cond (eqb a n) x a ≡ x
at_equal a n x h = let t : eqb a n ≡ true = grind (arith, nat_tests) in ap (λ b. cond b x a) t

pub end_within : (table : List ℕ) (at : ℕ) → at ≤ length table → end_from table at ≤ length table
end_within table at inside =
    let a = prefix_len-le-length nonzero (drop at table) in
    let b : length (drop at table) ≡ length table - at = simp length-drop refl in
    omega (arith, a, b)

module _ (table : List ℕ) (at behind : ℕ) (order : at ≤ behind) (inside : behind ≤ length table) where
  length_between : length (slice_range table at behind) ≡ behind - at
  length_between = simp (length-take, length-drop) (omega arith)

  split : prefix_len nonzero (drop at table) ≡ cond (eqb (prefix_len nonzero (slice_range table at behind)) (length (slice_range table at behind))) (length (slice_range table at behind) + prefix_len nonzero (drop behind table)) (prefix_len nonzero (slice_range table at behind))
  split = ap (prefix_len nonzero) (drop_split table at behind order) ∙ prefix_len-append nonzero (slice_range table at behind) (drop behind table)

  pub found_before : (len : ℕ) → len ≡ prefix_len nonzero (slice_range table at behind) → at + len < behind → at + len ≡ end_from table at
  found_before len e h =
      let l = length_between in
      let s = split ∙ at_less (prefix_len nonzero (slice_range table at behind)) (length (slice_range table at behind)) (length (slice_range table at behind) + prefix_len nonzero (drop behind table)) (omega (arith, e, h, l)) in
      omega (arith, e, s)

  pub found_behind : (len : ℕ) → len ≡ prefix_len nonzero (slice_range table at behind) → behind ≤ at + len → end_from table behind ≡ end_from table at
  found_behind len e h =
      let l = length_between in
      let most = prefix_len-le-length nonzero (slice_range table at behind) in
      let s = split ∙ at_equal (prefix_len nonzero (slice_range table at behind)) (length (slice_range table at behind)) (length (slice_range table at behind) + prefix_len nonzero (drop behind table)) (omega (arith, e, h, l, most)) in
      omega (arith, s, l)
