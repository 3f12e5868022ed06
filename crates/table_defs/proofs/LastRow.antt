-- The look-up as a maximum over the rows is the last row at or below the address.
use Rattle.std.proofs.Common.{◌≡◌, ℕ, ◌+◌, ◌*◌, ◌<◌, ◌≤◌, ◌⊎◌, true, false, cond, not, ◌&&◌, ◌||◌, List, [], ◌∷◌, ◌++◌, Option, Some, None, refl, sym, ◌∙◌, ap, subst, inl, inr, eqb, ltb, arith}
use Rattle.std.specs.Prelude.{All, option_map}
use Rattle.std.proofs.lemmas.Bool.{ltb-true, ltb-false, lt-ltb, cases_Bool}
use Rattle.std.proofs.lemmas.Bool.Decides.{nat_tests}
use Rattle.std.proofs.lemmas.Option.{none-some}
use Rattle.std.proofs.lemmas.List.Elements.{All-nil, All-cons, All-append, All-weaker, All-head, All-tail}
use Rattle.ot_base.specs.declared.codes.TheConstants.{KIND_UNDEFINED}
use Rattle.table_defs.specs.Lookup.{AddressedRow, addressed, at_or_below, comes_before, IsLast, RowHoldsAt, later, last_of, find_row}
use Rattle.table_defs.specs.WalkLaws.{FoundIsLast, NoneFoundIsNone, OneRowHolds}

-- the order of look-up as an order of numbers
abbrev rank : AddressedRow → ℕ
rank x = 2 * x.address + cond (eqb x.row.kind KIND_UNDEFINED) 0 1

by_rank : (a b j k u : ℕ) → (ltb a b || (eqb a b && (eqb j u && not (eqb k u)))) ≡ ltb (2 * a + cond (eqb j u) 0 1) (2 * b + cond (eqb k u) 0 1)
by_rank a b j k u = grind (arith, nat_tests)

before-rank : (x y : AddressedRow) → comes_before x y ≡ ltb (rank x) (rank y)
before-rank x y = by_rank x.address y.address x.row.kind y.row.kind KIND_UNDEFINED

-- what doesn't come after one that comes before y comes before y
before-trans : (x y z : AddressedRow) → comes_before x z ≡ true → comes_before x y ≡ false → comes_before y z ≡ true
before-trans x y z h k =
    let low : rank x < rank z = ltb-true _ _ (sym (before-rank x z) ∙ h) in
    let up : rank y ≤ rank x = ltb-false _ _ (sym (before-rank x y) ∙ k) in
    before-rank y z ∙ lt-ltb (rank y) (rank z) (omega arith)

before-chain : (x y z : AddressedRow) → comes_before x z ≡ true → comes_before y x ≡ true → comes_before y z ≡ true
before-chain x y z h k =
    let low : rank x < rank z = ltb-true _ _ (sym (before-rank x z) ∙ h) in
    let up : rank y < rank x = ltb-true _ _ (sym (before-rank y x) ∙ k) in
    before-rank y z ∙ lt-ltb (rank y) (rank z) (omega arith)

some_or_none : {A : Type 0} (o : Option A) → (o ≡ None) ⊎ ((x : A) × (o ≡ Some x))
some_or_none None = inl refl
some_or_none (Some x) = inr (x, refl)

Some-injective : {A : Type 0} {x y : A} → Some x ≡ Some y → x ≡ y
Some-injective h = cc

pub last-none : (xs : List AddressedRow) → last_of xs ≡ None → xs ≡ []
last-none [] h = refl
last-none (x ∷ xs) h = cc

last_alone : (y : AddressedRow) (ys : List AddressedRow) (x : AddressedRow) → last_of ys ≡ None → last_of (y ∷ ys) ≡ Some x → IsLast (y ∷ ys) x
last_alone y ys x none h =
    let same : y ≡ x = Some-injective (sym (ap (λ o. Some (later y o)) none) ∙ h) in
    let empty : ys ≡ [] = last-none ys none in
    record {
      ahead = [];
      behind = [];
      all = cc;
      before_none = All-nil _;
      after_each = All-nil _;
    }

-- the row in front comes after all of the rest
last_in_front : (y : AddressedRow) (ys : List AddressedRow) (z : AddressedRow) → IsLast ys z → comes_before z y ≡ true → IsLast (y ∷ ys) y
last_in_front y ys z part h =
    let ahead : All (λ other. comes_before other y ≡ true) part.ahead = All-weaker (λ other. comes_before z other ≡ false) (λ other. comes_before other y ≡ true) (λ other k. before-trans z other y h k) part.ahead part.before_none in
    let behind : All (λ other. comes_before other y ≡ true) part.behind = All-weaker (λ other. comes_before other z ≡ true) (λ other. comes_before other y ≡ true) (λ other k. before-chain z other y h k) part.behind part.after_each in
    record {
      ahead = [];
      behind = ys;
      all = refl;
      before_none = All-nil _;
      after_each = subst (λ rows. All (λ other. comes_before other y ≡ true) rows) (sym part.all) (All-append (λ other. comes_before other y ≡ true) part.ahead (z ∷ part.behind) ahead (All-cons (λ other. comes_before other y ≡ true) z part.behind h behind));
    }

-- the row in front doesn't come after the last of the rest
last_behind : (y : AddressedRow) (ys : List AddressedRow) (z : AddressedRow) → IsLast ys z → comes_before z y ≡ false → IsLast (y ∷ ys) z
last_behind y ys z part h = record {
  ahead = y ∷ part.ahead;
  behind = part.behind;
  all = ap (λ rows. y ∷ rows) part.all;
  before_none = All-cons (λ other. comes_before z other ≡ false) y part.ahead h part.before_none;
  after_each = part.after_each;
}

last_more : (y : AddressedRow) (ys : List AddressedRow) (x z : AddressedRow) → last_of ys ≡ Some z → IsLast ys z → last_of (y ∷ ys) ≡ Some x → IsLast (y ∷ ys) x
last_more y ys x z is part h =
    let now : later y (Some z) ≡ x = Some-injective (sym (ap (λ o. Some (later y o)) is) ∙ h) in
    elim (cases_Bool (comes_before z y)) [
      | inl before ↦
          let same : y ≡ x = sym (ap (λ b. cond b y z) before) ∙ now in
          subst (λ row. IsLast (y ∷ ys) row) same (last_in_front y ys z part before)
      | inr not_before ↦
          let same : z ≡ x = sym (ap (λ b. cond b y z) not_before) ∙ now in
          subst (λ row. IsLast (y ∷ ys) row) same (last_behind y ys z part not_before)
    ]

-- what a maximum over the list gives is its last row
pub last_is : (xs : List AddressedRow) (x : AddressedRow) → last_of xs ≡ Some x → IsLast xs x
last_is [] x h = absurd (none-some x h)
last_is (y ∷ ys) x h =
    elim (some_or_none (last_of ys)) [
      | inl none ↦ last_alone y ys x none h
      | inr found ↦ last_more y ys x found.0 found.1 (last_is ys found.0 found.1) h
    ]

-- a maximum is an element
last-among : (P : AddressedRow → Type 0) (xs : List AddressedRow) (x : AddressedRow) → last_of xs ≡ Some x → All P xs → P x
last-among P xs x h all =
    let part : IsLast xs x = last_is xs x h in
    let parts : All P (part.ahead ++ x ∷ part.behind) = subst (All P) part.all all in
    among part.ahead x part.behind parts
  where
    among : (ahead : List AddressedRow) (x : AddressedRow) (behind : List AddressedRow) → All P (ahead ++ x ∷ behind) → P x
    among [] x behind parts = All-head P x behind parts
    among (y ∷ ahead) x behind parts = among ahead x behind (All-tail P y (ahead ++ x ∷ behind) parts)

last-front : (x : AddressedRow) (behind : List AddressedRow) → All (λ other. comes_before other x ≡ true) behind → last_of (x ∷ behind) ≡ Some x
last-front x behind after =
    elim (some_or_none (last_of behind)) [
      | inl none ↦ ap (λ o. Some (later x o)) none
      | inr found ↦
          let before : comes_before found.0 x ≡ true = last-among (λ other. comes_before other x ≡ true) behind found.0 found.1 after in
          ap (λ o. Some (later x o)) found.1 ∙ ap (λ b. Some (cond b x found.0)) before
    ]

last-split : (ahead : List AddressedRow) (x : AddressedRow) (behind : List AddressedRow) → All (λ other. comes_before x other ≡ false) ahead → All (λ other. comes_before other x ≡ true) behind → last_of (ahead ++ x ∷ behind) ≡ Some x
last-split [] x behind none each = last-front x behind each
last-split (y ∷ ahead) x behind none each =
    let rest : last_of (ahead ++ x ∷ behind) ≡ Some x = last-split ahead x behind (All-tail (λ other. comes_before x other ≡ false) y ahead none) each in
    let first : comes_before x y ≡ false = All-head (λ other. comes_before x other ≡ false) y ahead none in
    ap (λ o. Some (later y o)) rest ∙ ap (λ b. Some (cond b y x)) first

-- the last row is what a maximum over the list gives
pub last_of_last : (xs : List AddressedRow) (x : AddressedRow) → IsLast xs x → last_of xs ≡ Some x
last_of_last xs x part = ap last_of part.all ∙ last-split part.ahead x part.behind part.before_none part.after_each

mapped_some : {A B : Type 0} (f : A → B) (o : Option A) (y : B) → option_map f o ≡ Some y → (x : A) × (o ≡ Some x) × (f x ≡ y)
mapped_some f None y h = absurd (none_is_some h)
  where
    none_is_some : None ≡ Some y → ⊥
    none_is_some h = cc
mapped_some f (Some x) y h = (x, refl, Some-injective h)

mapped_none : {A B : Type 0} (f : A → B) (o : Option A) → option_map f o ≡ None → o ≡ None
mapped_none f None h = refl
mapped_none f (Some x) h = cc

pub found_is_last : FoundIsLast
found_is_last rows ranges address row = (there, back)
  where
    below : List AddressedRow
    below = at_or_below address (addressed ranges rows)

    there : find_row rows ranges address ≡ Some row → RowHoldsAt rows ranges address row
    there h =
        let found = mapped_some (λ x. x.row) (last_of (at_or_below address (addressed ranges rows))) row h in
        record { from = found.0.address; last = last_is _ _ (found.1 ∙ ap (λ r. Some (record { address = found.0.address; row = r })) found.2) }

    back : RowHoldsAt rows ranges address row → find_row rows ranges address ≡ Some row
    back holds = ap (option_map (λ x. x.row)) (last_of_last _ _ holds.last)

pub none_found_is_none : NoneFoundIsNone
none_found_is_none rows ranges address = (λ h. last-none _ (mapped_none _ _ h), λ h. ap (λ xs. option_map (λ x. x.row) (last_of xs)) h)

pub one_row_holds : OneRowHolds
one_row_holds rows ranges address one other first second =
    Some-injective (sym ((found_is_last rows ranges address one).1 first) ∙ (found_is_last rows ranges address other).1 second)
