-- The ranges of a map in the order of their bases.
use Rattle.std.proofs.Common.{◌≡◌, ℕ, zero, suc, ◌+◌, ◌<◌, ◌≤◌, Bool, true, false, ◌&&◌, ◌||◌, List, [], ◌∷◌, Some, refl, sym, ◌∙◌, ap, subst, leb, ltb, length, get_or, map, arith}
use Rattle.std.specs.Prelude.{Contains}
use Rattle.std.specs.List.{list_any}
use Rattle.std.specs.Ordering.{nat_cmp}
use Rattle.std.specs.BTreeMap.{BTreeMap, get, keys, values, IsOrdered}
use Rattle.std.proofs.lemmas.Cmp.{nat_cmp_total}
use Rattle.std.proofs.lemmas.Bool.Decides.{nat_tests}
use Rattle.std.proofs.lemmas.List.{get_or-map, length-map}
use Rattle.std.proofs.lemmas.Map.Keys.{below_from_sorted}
use Rattle.std.proofs.lemmas.Map.Views.{All-found, Contains-from_lookup}
use Rattle.table_defs.specs.declared.range.Range.{Range}
use Rattle.table_defs.specs.Placement.{covers, is_inside}
use Rattle.std.specs.Ordering.{eq_by_cmp}
use Rattle.orc_walk.proofs.BaseLemmas.{same_key, same_section}
use Rattle.orc_walk.specs.Blocks.{IsAscending}
use Rattle.orc_walk.specs.Layout.{IsLaid}

abbrev Laid : Type 0
Laid = BTreeMap ℕ Range

abbrev no_range : Range
no_range = record { sec = 0; base = 0; size = 0 }

-- the value at a place is that of the key at the place
value_at : (m : Laid) (i : ℕ) (d : Range) → IsOrdered nat_cmp m → i < length (values m) → get nat_cmp m (get_or (keys m) i 0) ≡ Some (get_or (values m) i d)
value_at m i d ordered lt =
    let entries : i < length m.entries = subst (λ n. i < n) (length-map m.entries (λ e. e.1)) lt in
    let found : get nat_cmp m (get_or m.entries i (0, d)).0 ≡ Some (get_or m.entries i (0, d)).1 = All-found nat_cmp_total m ordered i (0, d) entries in
    let key : get_or (keys m) i 0 ≡ (get_or m.entries i (0, d)).0 = get_or-map (λ e. e.0) m.entries i (0, d) 0 entries in
    let value : get_or (values m) i d ≡ (get_or m.entries i (0, d)).1 = get_or-map (λ e. e.1) m.entries i (0, d) d entries in
    ap (get nat_cmp m) key ∙ found ∙ ap Some (sym value)

same_length : (m : Laid) → length (keys m) ≡ length (values m)
same_length m = length-map m.entries (λ e. e.0) ∙ sym (length-map m.entries (λ e. e.1))

pub values_ascend : (ranges : List Range) (m : Laid) → IsOrdered nat_cmp m → IsLaid ranges m → IsAscending (values m)
values_ascend ranges m ordered is = record {
  not_empty = (λ i d lt. (is.of_these _ _ (value_at m i d ordered lt)).not_empty);
  in_memory = (λ i d lt. (is.of_these _ _ (value_at m i d ordered lt)).in_memory);
  apart = (λ i j d less lt.
      let before : get_or (keys m) i 0 < get_or (keys m) j 0 = below_from_sorted (keys m) i j 0 ordered less (subst (λ n. j < n) (sym (same_length m)) lt) in
      let ends : (get_or (values m) i d).base + (get_or (values m) i d).size ≤ get_or (keys m) j 0 = is.apart (get_or (keys m) i 0) (get_or (keys m) j 0) (get_or (values m) i d) (get_or (values m) j d) (value_at m i d ordered (omega arith)) (value_at m j d ordered lt) before in
      let begins : (get_or (values m) j d).base ≡ get_or (keys m) j 0 = (is.of_these (get_or (keys m) j 0) (get_or (values m) j d) (value_at m j d ordered lt)).begins in
      omega arith);
}

both_ways : (a b : Bool) → (a ≡ true → b ≡ true) → (b ≡ true → a ≡ true) → a ≡ b
both_ways true b there back = sym (there refl)
both_ways false true there back = back refl
both_ways false false there back = refl

any_there : {X : Type 0} (p : X → Bool) (xs : List X) (x : X) → Contains xs x → p x ≡ true → list_any p xs ≡ true
any_there p xs x there pass = at p xs there.0 x there.1 (ap p there.2 ∙ pass)
  where
    or_true : (a : Bool) → (a || true) ≡ true
    or_true true = refl
    or_true false = refl

    at : {X : Type 0} (p : X → Bool) (xs : List X) (k : ℕ) (d : X) → k < length xs → p (get_or xs k d) ≡ true → list_any p xs ≡ true
    at p [] k d lt pass = absurd (omega arith)
    at p (x ∷ xs) zero d lt pass = ap (λ b. b || list_any p xs) pass
    at p (x ∷ xs) (suc k) d lt pass = ap (λ b. p x || b) (at p xs k d (omega arith) pass) ∙ or_true (p x)

any_from : (p : Range → Bool) (xs : List Range) → list_any p xs ≡ true → (k : ℕ) × (k < length xs) × ((d : Range) → p (get_or xs k d) ≡ true)
any_from p [] h = absurd (let e : false ≡ true = h in cc)
any_from p (x ∷ xs) h = go (any_from p xs) (p x) refl
  where
    go : (list_any p xs ≡ true → (k : ℕ) × (k < length xs) × ((d : Range) → p (get_or xs k d) ≡ true)) → (b : Bool) → p x ≡ b → (k : ℕ) × (k < length (x ∷ xs)) × ((d : Range) → p (get_or (x ∷ xs) k d) ≡ true)
    go rest true is = (0, omega arith, λ d. is)
    go rest false is = let found = rest (sym (ap (λ b. b || list_any p xs) is) ∙ h) in (suc found.0, omega (arith, found.1), found.2)

covered_some : (a b x : ℕ) → (leb a x && ltb x (a + b)) ≡ true → 0 < b
covered_some a b x h = grind (arith, nat_tests)

same_key_back : (x y : ℕ) → eq_by_cmp nat_cmp x y ≡ true → x ≡ y
same_key_back x y h = same_section x y (sym (same_key x y) ∙ h)

mapped : {X Y : Type 0} (f : X → Y) (xs : List X) (x : X) → Contains xs x → Contains (map f xs) (f x)
mapped f xs x there = (there.0, subst (λ n. there.0 < n) (sym (length-map xs f)) there.1, get_or-map f xs there.0 x (f x) there.1 ∙ ap f there.2)

pub same_inside : (ranges : List Range) (m : Laid) (address : ℕ) → IsOrdered nat_cmp m → IsLaid ranges m → is_inside (values m) address ≡ is_inside ranges address
same_inside ranges m address ordered is = both_ways (is_inside (values m) address) (is_inside ranges address)
    (λ h.
    let found = any_from (λ r. covers r address) (values m) h in
    let range : Range = get_or (values m) found.0 no_range in
    let at = is.of_these (get_or (keys m) found.0 0) range (value_at m found.0 no_range ordered found.1) in
    any_there (λ r. covers r address) ranges range at.among (found.2 no_range))
    (λ h.
    let found = any_from (λ r. covers r address) ranges h in
    let range : Range = get_or ranges found.0 no_range in
    let some : 0 < range.size = covered_some range.base range.size address (found.2 no_range) in
    let kept = is.kept found.0 no_range found.1 some in
    let entry = Contains-from_lookup same_key_back range.base range m.entries kept in
    any_there (λ r. covers r address) (values m) range (mapped (λ e. e.1) m.entries (range.base, range) entry) (found.2 no_range))
