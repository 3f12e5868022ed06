-- Records that points have in common, of one point more.
use Rattle.std.proofs.Common.{◌≡◌, ℕ, ◌+◌, ◌<◌, List, [], ◌∷◌, ◌++◌, Some, length, get_or, set, inl, inr, refl, sym, ap, ◌∙◌, subst, arith, length-set, get_or-set_same, get_or-set_other}
use Rattle.std.specs.Prelude.{slice_get, slice_index}
use Rattle.std.proofs.lemmas.Bool.{cases_eq, cases_lt}
use Rattle.std.proofs.lemmas.List.{get_or_append_left, get_or_push, length_push}
use Rattle.std.proofs.lemmas.Option.{get_or_from_slice_get, slice_get_read, slice_get_within}
use Rattle.control_flow.specs.Numbers.{AreNumbered, HaveNumbers, IsNumbered}

pub first_numbered : {X : Type 0} (P : ℕ → X → Type 0) (x : X) → AreNumbered P (x ∷ []) [] 0
first_numbered P x = record {
  have = record { long = refl; each = λ q below. absurd (omega arith) };
  some = omega arith;
  short = omega arith;
}

pub numbered_more : {X : Type 0} (P : ℕ → X → Type 0) (before after : List X) (numbers : List ℕ) (n number : ℕ) (x : X) → AreNumbered P before numbers n → IsNumbered before after x number → P n x → AreNumbered P after (numbers ++ number ∷ []) (n + 1)
numbered_more {X} P before after numbers n number x are is here = record {
  have = record { long = omega (arith, length_push numbers number, are.have.long); each = each };
  some = omega (arith, slice_get_within after number x is.here);
  short = omega (arith, is.short, are.short);
}
  where
    each : (q : ℕ) → q < n + 1 → (y : X) × (slice_get after (slice_index (numbers ++ number ∷ []) q) ≡ Some y) × P q y
    each q below = elim (cases_lt q n) [
      | inl less ↦
          let own = are.have.each q less in
          let at : slice_index (numbers ++ number ∷ []) q ≡ slice_index numbers q = get_or_append_left numbers (number ∷ []) 0 q (omega (arith, are.have.long)) in
          (own.0, subst (λ (k : ℕ). slice_get after k ≡ Some own.0) (sym at) (is.kept (slice_index numbers q) own.0 own.1), own.2)
      | inr more ↦
          let same : q ≡ n = omega arith in
          let at : slice_index (numbers ++ number ∷ []) q ≡ number = get_or_push numbers number 0 q (are.have.long ∙ sym same) in
          (x, subst (λ (k : ℕ). slice_get after k ≡ Some x) (sym at) is.here, subst (λ (m : ℕ). P m x) (sym same) here)
    ]

same_some : {X : Type 0} {a b : X} → Some a ≡ Some b → a ≡ b
same_some e = cc

-- what stands at a point's number is the point's
pub numbered_at : {X : Type 0} (P : ℕ → X → Type 0) (items : List X) (numbers : List ℕ) (n q k : ℕ) (x : X) → HaveNumbers P items numbers n → q < n → slice_index numbers q ≡ k → slice_get items k ≡ Some x → P q x
numbered_at P items numbers n q k x are below number at =
    let own = are.each q below in
    subst (P q) (same_some (sym (subst (λ (m : ℕ). slice_get items m ≡ Some own.0) number own.1) ∙ at)) own.2

-- and it is there
pub numbered_inside : {X : Type 0} (P : ℕ → X → Type 0) (items : List X) (numbers : List ℕ) (n q k : ℕ) → HaveNumbers P items numbers n → q < n → slice_index numbers q ≡ k → k < length items
numbered_inside P items numbers n q k are below number =
    let own = are.each q below in
    subst (λ (m : ℕ). m < length items) number (slice_get_within items (slice_index numbers q) own.0 own.1)

module _ {X : Type 0} (before after : List X) (x : X) (is : after ≡ before ++ x ∷ []) where
  longer : length after ≡ length before + 1
  longer = ap length is ∙ length_push before x

  new_item : slice_get after (length before) ≡ Some x
  new_item = slice_get_read after (length after) (length before) x refl (omega (arith, longer)) (sym (ap (λ (xs : List X). get_or xs (length before) x) is ∙ get_or_push before x x (length before) refl))

  old_item : (k : ℕ) (y : X) → slice_get before k ≡ Some y → slice_get after k ≡ Some y
  old_item k y at =
      let inside = slice_get_within before k y at in
      slice_get_read after (length after) k y refl (omega (arith, longer, inside))
      (sym (ap (λ (xs : List X). get_or xs k y) is ∙ (get_or_append_left before (x ∷ []) y k inside ∙ get_or_from_slice_get before k y y at)))

  -- an item that is put behind a list has a number there
  pub put_behind : IsNumbered before after x (length before)
  put_behind = record { here = new_item; kept = old_item; short = omega (arith, longer) }

-- and one that is there already
pub stays : {X : Type 0} (before after : List X) (x : X) (number : ℕ) → after ≡ before → slice_get before number ≡ Some x → IsNumbered before after x number
stays {X} before after x number same at = record {
  here = subst (λ (xs : List X). slice_get xs number ≡ Some x) (sym same) at;
  kept = λ k y own. subst (λ (xs : List X). slice_get xs k ≡ Some y) (sym same) own;
  short = omega (arith, ap length same);
}

-- one point has another record, and the others keep theirs
pub renumbered : {X : Type 0} (P Q : ℕ → X → Type 0) (before after : List X) (numbers : List ℕ) (n k number : ℕ) (x : X) → HaveNumbers P before numbers n → IsNumbered before after x number → k < n → ((q : ℕ) (y : X) → (q ≡ k → ⊥) → P q y → Q q y) → Q k x → HaveNumbers Q after (set numbers k number) n
renumbered {X} P Q before after numbers n k number x are is inside others own = record {
  long = length-set numbers k number ∙ are.long;
  each = each;
}
  where
    each : (q : ℕ) → q < n → (y : X) × (slice_get after (slice_index (set numbers k number) q) ≡ Some y) × Q q y
    each q below = elim (cases_eq q k) [
      | inl same ↦
          let at : slice_index (set numbers k number) k ≡ number = get_or-set_same numbers k number 0 (omega (arith, are.long, inside)) in
          (x, subst (λ (i : ℕ). slice_get after (slice_index (set numbers k number) i) ≡ Some x) (sym same) (subst (λ (i : ℕ). slice_get after i ≡ Some x) (sym at) is.here), subst (λ (m : ℕ). Q m x) (sym same) own)
      | inr other ↦
          let old = are.each q below in
          let at : slice_index (set numbers k number) q ≡ slice_index numbers q = get_or-set_other numbers k q number 0 other in
          (old.0, subst (λ (i : ℕ). slice_get after i ≡ Some old.0) (sym at) (is.kept (slice_index numbers q) old.0 old.1), others q old.0 other old.2)
    ]

-- all keep theirs, of which something else holds too
pub numbered_otherwise : {X : Type 0} (P Q : ℕ → X → Type 0) (items : List X) (numbers : List ℕ) (n : ℕ) → ((q : ℕ) (x : X) → q < n → P q x → Q q x) → HaveNumbers P items numbers n → HaveNumbers Q items numbers n
numbered_otherwise P Q items numbers n step are = record {
  long = are.long;
  each = λ q below. let own = are.each q below in (own.0, own.1, step q own.0 below own.2);
}

-- so it is where there are few
pub few_otherwise : {X : Type 0} (P Q : ℕ → X → Type 0) (items : List X) (numbers : List ℕ) (n : ℕ) → ((q : ℕ) (x : X) → q < n → P q x → Q q x) → AreNumbered P items numbers n → AreNumbered Q items numbers n
few_otherwise P Q items numbers n step are = record { have = numbered_otherwise P Q items numbers n step are.have; some = are.some; short = are.short }
