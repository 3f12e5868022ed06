-- The last row of several lists of rows.
use Rattle.std.proofs.Common.{◌≡◌, ℕ, zero, suc, ◌+◌, ◌*◌, ◌<◌, ◌≤◌, ◌⊎◌, Bool, true, false, cond, ◌||◌, ◌&&◌, not, List, [], ◌∷◌, ◌++◌, Option, Some, None, refl, sym, ◌∙◌, ap, subst, inl, inr, ltb, eqb, arith}
use Rattle.std.specs.Prelude.{All, Contains, IfSome, option_map}
use Rattle.std.proofs.lemmas.Bool.{ltb-false, ltb-true, lt-ltb, le-ltb}
use Rattle.std.proofs.lemmas.Bool.Decides.{nat_tests}
use Rattle.std.proofs.lemmas.List.Elements.{All-nil, All-cons, All-weaker}
use Rattle.ot_base.specs.declared.row.Row.{Row}
use Rattle.table_defs.specs.Lookup.{AddressedRow, comes_before, later, last_of}
use Rattle.orc_merge.specs.Alike.{known}

-- the order of look-up as an order of numbers
abbrev pub kind_rank : ℕ → ℕ
kind_rank kind = cond (eqb kind 0) 0 1

abbrev pub rank : AddressedRow → ℕ
rank row = 2 * row.address + kind_rank row.row.kind

by_rank : (a b j k : ℕ) → (ltb a b || (eqb a b && (eqb j 0 && not (eqb k 0)))) ≡ ltb (2 * a + cond (eqb j 0) 0 1) (2 * b + cond (eqb k 0) 0 1)
by_rank a b j k = grind (arith, nat_tests)

before_rank : (x y : AddressedRow) → comes_before x y ≡ ltb (rank x) (rank y)
before_rank x y = by_rank x.address y.address x.row.kind y.row.kind

pub lower : (x y : AddressedRow) → comes_before x y ≡ true → rank x < rank y
lower x y h = ltb-true (rank x) (rank y) (sym (before_rank x y) ∙ h)

pub not_lower : (x y : AddressedRow) → comes_before x y ≡ false → rank y ≤ rank x
not_lower x y h = ltb-false (rank x) (rank y) (sym (before_rank x y) ∙ h)

pub is_lower : (x y : AddressedRow) → rank x < rank y → comes_before x y ≡ true
is_lower x y h = before_rank x y ∙ lt-ltb (rank x) (rank y) h

pub is_not_lower : (x y : AddressedRow) → rank y ≤ rank x → comes_before x y ≡ false
is_not_lower x y h = before_rank x y ∙ le-ltb (rank x) (rank y) h

-- the later of the last rows of two lists, where a tie goes to the second
abbrev pub latest : Option AddressedRow → Option AddressedRow → Option AddressedRow
latest None other = other
latest (Some x) other = Some (later x other)

later_thrice : (x y z : AddressedRow) → later x (Some (later y (Some z))) ≡ later (later x (Some y)) (Some z)
later_thrice x y z = go (comes_before z y) (comes_before y x) refl refl
  where
    go : (p q : Bool) → comes_before z y ≡ p → comes_before y x ≡ q → cond (comes_before (cond (comes_before z y) y z) x) x (cond (comes_before z y) y z) ≡ cond (comes_before z (cond (comes_before y x) x y)) (cond (comes_before y x) x y) z
    go true true h k =
        let under : comes_before z x ≡ true = is_lower z x (let one = lower z y h in let two = lower y x k in omega arith) in
        ap (λ b. cond (comes_before (cond b y z) x) x (cond b y z)) h ∙ ap (λ b. cond b x y) k
        ∙ sym (ap (λ b. cond (comes_before z (cond b x y)) (cond b x y) z) k ∙ ap (λ b. cond b x z) under)
    go true false h k =
        ap (λ b. cond (comes_before (cond b y z) x) x (cond b y z)) h ∙ ap (λ b. cond b x y) k
        ∙ sym (ap (λ b. cond (comes_before z (cond b x y)) (cond b x y) z) k ∙ ap (λ b. cond b y z) h)
    go false true h k =
        ap (λ b. cond (comes_before (cond b y z) x) x (cond b y z)) h
        ∙ sym (ap (λ b. cond (comes_before z (cond b x y)) (cond b x y) z) k)
    go false false h k =
        let over : comes_before z x ≡ false = is_not_lower z x (let one = not_lower z y h in let two = not_lower y x k in omega arith) in
        ap (λ b. cond (comes_before (cond b y z) x) x (cond b y z)) h ∙ ap (λ b. cond b x z) over
        ∙ sym (ap (λ b. cond (comes_before z (cond b x y)) (cond b x y) z) k ∙ ap (λ b. cond b y z) h)

later_latest : (x : AddressedRow) (one other : Option AddressedRow) → later x (latest one other) ≡ later (later x one) other
later_latest x None other = refl
later_latest x (Some y) None = refl
later_latest x (Some y) (Some z) = later_thrice x y z

pub last_of-append : (xs ys : List AddressedRow) → last_of (xs ++ ys) ≡ latest (last_of xs) (last_of ys)
last_of-append [] ys = refl
last_of-append (x ∷ xs) ys = ap (λ o. Some (later x o)) (last_of-append xs ys) ∙ ap Some (later_latest x (last_of xs) (last_of ys))

-- membership, from the front
pub Contains-head : {A : Type 0} (x : A) (xs : List A) → Contains (x ∷ xs) x
Contains-head x xs = (0, omega arith, refl)

pub Contains-tail : {A : Type 0} (x y : A) (xs : List A) → Contains xs y → Contains (x ∷ xs) y
Contains-tail x y xs (k, lt, is) = (suc k, omega arith, is)

pub Contains-cases : {A : Type 0} (x y : A) (xs : List A) → Contains (x ∷ xs) y → (x ≡ y) ⊎ Contains xs y
Contains-cases x y xs (zero, lt, is) = inl is
Contains-cases x y xs (suc k, lt, is) = inr (k, omega arith, is)

pub Contains-none : {A : Type 0} (y : A) → Contains [] y → ⊥
Contains-none y (k, lt, is) = omega arith

-- the last row of a list is one of it, and none of it is later
abbrev pub IsGreatest : List AddressedRow → Option AddressedRow → Type 0
IsGreatest xs None = xs ≡ []
IsGreatest xs (Some last) = Contains xs last × All (λ x. rank x ≤ rank last) xs

pub last_is_greatest : (xs : List AddressedRow) → IsGreatest xs (last_of xs)
last_is_greatest [] = refl
last_is_greatest (x ∷ xs) = go (last_of xs) (last_is_greatest xs)
  where
    pick : (other : AddressedRow) → IsGreatest xs (Some other) → (b : Bool) → comes_before other x ≡ b → IsGreatest (x ∷ xs) (Some (cond b x other))
    pick other greatest true is =
        let lt : rank other < rank x = lower other x is in
        (Contains-head x xs, All-cons (λ y. rank y ≤ rank x) x xs (omega arith) (All-weaker (λ y. rank y ≤ rank other) (λ y. rank y ≤ rank x) (λ y le. omega arith) xs greatest.1))
    pick other greatest false is = (Contains-tail x other xs greatest.0, All-cons (λ y. rank y ≤ rank other) x xs (not_lower other x is) greatest.1)

    go : (o : Option AddressedRow) → IsGreatest xs o → IsGreatest (x ∷ xs) (Some (later x o))
    go None none = subst (λ ys. IsGreatest (x ∷ ys) (Some x)) (sym none) (Contains-head x [], All-cons (λ y. rank y ≤ rank x) x [] (omega arith) (All-nil _))
    go (Some other) is = pick other is (comes_before other x) refl

-- what is known of the stack by the last row
abbrev pub told : Option AddressedRow → Option Row
told o = known (option_map (λ x. x.row) o)

-- the last row says nothing, and lies at or below an address
abbrev pub IsQuiet : ℕ → Option AddressedRow → Type 0
IsQuiet base o = IfSome o (λ x. (x.row.kind ≡ 0) × (x.address ≤ base))

-- the last row says nothing where it lies below an address
abbrev pub IsQuietBelow : ℕ → Option AddressedRow → Type 0
IsQuietBelow base o = IfSome o (λ x. x.address < base → x.row.kind ≡ 0)

nothing_told : (x : AddressedRow) → x.row.kind ≡ 0 → told (Some x) ≡ None
nothing_told x h = ap (λ kind. cond (eqb kind 0) None (Some x.row)) h

zero_rank : (x : AddressedRow) → x.row.kind ≡ 0 → rank x ≡ 2 * x.address
zero_rank x h = ap (λ kind. 2 * x.address + kind_rank kind) h ∙ omega arith

no_rank : (kind : ℕ) → kind_rank kind ≡ 0 → kind ≡ 0
no_rank kind h = grind (arith, nat_tests)

small_rank : (kind : ℕ) → kind_rank kind ≤ 1
small_rank kind = grind (arith, nat_tests)

-- a row that is no later than one that says nothing says nothing either, or lies below it
pub no_later : (x y : AddressedRow) → x.row.kind ≡ 0 → rank y ≤ rank x → (y.address < x.address) ⊎ ((y.address ≡ x.address) × (y.row.kind ≡ 0))
no_later x y nothing le =
    let whole = zero_rank x nothing in
    go (kind_rank y.row.kind) refl (ltb y.address x.address) refl
  where
    go : (n : ℕ) → kind_rank y.row.kind ≡ n → (b : Bool) → ltb y.address x.address ≡ b → (y.address < x.address) ⊎ ((y.address ≡ x.address) × (y.row.kind ≡ 0))
    go n is true lt = inl (ltb-true _ _ lt)
    go n is false lt =
        let whole = zero_rank x nothing in
        let above : x.address ≤ y.address = ltb-false _ _ lt in
        inr (omega arith, no_rank y.row.kind (omega arith))

-- a row below one that says nothing comes before it
pub higher : (x y : AddressedRow) → y.address < x.address → rank x ≤ rank y → ⊥
higher x y lt le = let small = small_rank y.row.kind in omega arith

-- Rows that say nothing, at or below an address, tell nothing beside rows that tell nothing below it: in front of them,
pub quiet_front : (base : ℕ) (o m : Option AddressedRow) → IsQuiet base o → IsQuietBelow base m → (told (latest o m) ≡ told m) × IsQuietBelow base (latest o m)
quiet_front base None m quiet below = (refl, below)
quiet_front base (Some x) None quiet below = (nothing_told x quiet.0, λ lt. quiet.0)
quiet_front base (Some x) (Some y) quiet below = go (comes_before y x) refl
  where
    go : (b : Bool) → comes_before y x ≡ b → (told (Some (cond b x y)) ≡ told (Some y)) × IsQuietBelow base (Some (cond b x y))
    go false is = (refl, below)
    go true is =
        let less = lower y x is in
        let y_zero : y.row.kind ≡ 0 = elim (no_later x y quiet.0 (omega arith)) [ inl lt ↦ below (let le = quiet.1 in omega arith) | inr same ↦ same.1 ] in
        (nothing_told x quiet.0 ∙ sym (nothing_told y y_zero), λ lt. quiet.0)

-- and behind them
pub quiet_back : (base : ℕ) (o m : Option AddressedRow) → IsQuiet base o → IsQuietBelow base m → (told (latest m o) ≡ told m) × IsQuietBelow base (latest m o)
quiet_back base None None quiet below = (refl, below)
quiet_back base (Some x) None quiet below = (nothing_told x quiet.0, λ lt. quiet.0)
quiet_back base None (Some y) quiet below = (refl, below)
quiet_back base (Some x) (Some y) quiet below = go (comes_before x y) refl
  where
    go : (b : Bool) → comes_before x y ≡ b → (told (Some (cond b y x)) ≡ told (Some y)) × IsQuietBelow base (Some (cond b y x))
    go true is = (refl, below)
    go false is =
        let y_zero : y.row.kind ≡ 0 = elim (no_later x y quiet.0 (not_lower x y is)) [ inl lt ↦ below (let le = quiet.1 in omega arith) | inr same ↦ same.1 ] in
        (nothing_told x quiet.0 ∙ sym (nothing_told y y_zero), λ lt. quiet.0)

-- two lists that say nothing say nothing together
pub quiet_both : (base : ℕ) (one other : Option AddressedRow) → IsQuiet base one → IsQuiet base other → IsQuiet base (latest one other)
quiet_both base None other first second = second
quiet_both base (Some x) None first second = first
quiet_both base (Some x) (Some y) first second = go (comes_before y x)
  where
    go : (b : Bool) → IsQuiet base (Some (cond b x y))
    go true = first
    go false = second
