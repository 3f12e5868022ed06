-- Pieces of memory in a map by their addresses, and one more of them.
use Rattle.std.proofs.Common.{◌≡◌, ℕ, suc, ◌+◌, ◌^◌, ◌<◌, ◌≤◌, ◌⊎◌, Bool, true, false, cond, ◌&&◌, ◌||◌, List, [], ◌∷◌, Option, Some, None, Vec, refl, sym, ◌∙◌, ap, subst, inl, inr, ltb, length, get_or, arith, rules}
use Rattle.std.proofs.lemmas.Option.{none-some}
use Rattle.std.specs.Prelude.{All, AllPairs, Contains, IsPermutation, IsSome}
use Rattle.std.specs.List.{list_any}
use Rattle.std.specs.Ordering.{nat_cmp, eq_by_cmp, match_ordering, is_gt, is_lt}
use Rattle.std.proofs.lemmas.Map.Keys.{ge_from_not_lt, le_from_not_gt}
use Rattle.std.specs.declared.cmp.Ordering.TheVariants.{Less, Equal, Greater}
use Rattle.std.specs.declared.alloc.Global.{Global}
use Rattle.std.specs.BTreeMap.{BTreeMap, get, insert_entry, IsOrdered}
use Rattle.std.proofs.lemmas.Bool.{cases_lt}
use Rattle.std.proofs.lemmas.Bool.Decides.{nat_tests}
use Rattle.std.proofs.lemmas.Cmp.{nat_cmp_total}
use Rattle.std.proofs.lemmas.List.{get_or-map, length-map}
use Rattle.std.proofs.lemmas.List.Elements.{All-nil, All-cons, All-head, All-tail, All-map}
use Rattle.std.proofs.lemmas.List.Folds.{list_any_none, list_any_at}
use Rattle.std.proofs.lemmas.List.Kept.{AllPairs-cons}
use Rattle.std.proofs.lemmas.List.Sorted.{IsPermutation-refl, IsPermutation-sym, IsPermutation-cons, IsPermutation-trans, IsPermutation-middle, IsPermutation-map, All-permutation}
use Rattle.std.proofs.lemmas.Map.Views.{All-found, Contains-from_lookup}
use Rattle.orc_walk.specs.Memory.{Piece, IsMemory, end_of, piece_of, pieces_of}
use Rattle.orc_walk.proofs.BaseLemmas.{same_key, same_section}
use Rattle.orc_walk.specs.declared.image_fault.ImageWhy.{ImageWhy}
use Rattle.orc_walk.specs.declared.image_fault.ImageWhy.TheVariants.{Wraps, Overlaps}
use Rattle.orc_walk.specs.ImageFile.{overlap, piece_fault}

abbrev Entry : Type 0
Entry = ℕ × Vec ℕ Global

apart_bits : (a b c d : ℕ) → (ltb a d && ltb c b) ≡ false → (b ≤ c) ⊎ (d ≤ a)
apart_bits a b c d h = grind (arith, nat_tests)

no_overlap_bits : (a b c d : ℕ) → (b ≤ c) ⊎ (d ≤ a) → (ltb a d && ltb c b) ≡ false
no_overlap_bits a b c d h = grind (arith, nat_tests)

overlap_bits : (a b c d : ℕ) → a < d → c < b → (ltb a d && ltb c b) ≡ true
overlap_bits a b c d h k = grind (arith, nat_tests)

-- pieces that share no address: one ends where the other begins, or before
apart : (one other : Piece) → overlap one other ≡ false → (end_of one ≤ other.base) ⊎ (end_of other ≤ one.base)
apart one other h = apart_bits one.base (end_of one) other.base (end_of other) h

no_overlap : (one other : Piece) → (end_of one ≤ other.base) ⊎ (end_of other ≤ one.base) → overlap one other ≡ false
no_overlap one other h = no_overlap_bits one.base (end_of one) other.base (end_of other) h

overlaps : (one other : Piece) → one.base < end_of other → other.base < end_of one → overlap one other ≡ true
overlaps one other h k = overlap_bits one.base (end_of one) other.base (end_of other) h k

true_false : {A : Type 0} {b : Bool} → b ≡ true → b ≡ false → A
true_false one other = cc

Some-same : {A : Type 0} {o : Option A} {x y : A} → o ≡ Some x → o ≡ Some y → x ≡ y
Some-same h k = cc

-- what a new piece meets where nothing is wrong with it
pub record Fits (pieces : List Piece) (x : Piece) : Type 0 where
  pub in_memory : end_of x ≤ 2 ^ 64
  pub alone : All (λ p. overlap p x ≡ false) pieces

none_any : (pieces : List Piece) (x : Piece) → list_any (λ p. overlap p x) pieces ≡ false → All (λ p. overlap p x ≡ false) pieces
none_any [] x h = All-nil (λ p. overlap p x ≡ false)
none_any (p ∷ ps) x h = go (none_any ps x) (overlap p x) refl
  where
    go : (list_any (λ p. overlap p x) ps ≡ false → All (λ p. overlap p x ≡ false) ps) → (b : Bool) → overlap p x ≡ b → All (λ p. overlap p x ≡ false) (p ∷ ps)
    go rest true is = true_false (ap (λ b. b || list_any (λ p. overlap p x) ps) is) h
    go rest false is = All-cons (λ p. overlap p x ≡ false) p ps is (rest (sym (ap (λ b. b || list_any (λ p. overlap p x) ps) is) ∙ h))

not_above : (a b : ℕ) → ltb a b ≡ false → b ≤ a
not_above a b h = grind (arith, nat_tests)

not_below : (a b : ℕ) → b ≤ a → ltb a b ≡ false
not_below a b h = grind (arith, nat_tests)

abbrev fault_by : Bool → Bool → Option ImageWhy
fault_by high shared = cond high (Some Wraps) (cond shared (Some Overlaps) None)

by_none : (high shared : Bool) → fault_by high shared ≡ None → (high ≡ false) × (shared ≡ false)
by_none true shared h = absurd (none-some _ (sym h))
by_none false true h = absurd (none-some _ (sym h))
by_none false false h = (refl, refl)

pub fits_from : (pieces : List Piece) (x : Piece) → piece_fault pieces x ≡ None → Fits pieces x
fits_from pieces x none =
    let both = by_none (ltb (2 ^ 64) (end_of x)) (list_any (λ p. overlap p x) pieces) none in
    record { in_memory = not_above (2 ^ 64) (end_of x) both.0; alone = none_any pieces x both.1 }

-- the fault, by whether the piece shares an address
pub fault_shared : (pieces : List Piece) (x : Piece) (shared : Bool) → end_of x ≤ 2 ^ 64 → list_any (λ p. overlap p x) pieces ≡ shared → piece_fault pieces x ≡ cond shared (Some Overlaps) None
fault_shared pieces x shared low is =
    ap (λ b. fault_by b (list_any (λ p. overlap p x) pieces)) (not_below (2 ^ 64) (end_of x) low)
    ∙ ap (fault_by false) is

-- ---- one more piece in the map

less_key : (a b : ℕ) → nat_cmp a b ≡ Less → a < b
less_key a b h = grind (arith, nat_tests)

greater_key : (a b : ℕ) → nat_cmp a b ≡ Greater → b < a
greater_key a b h = grind (arith, nat_tests)

equal_key : (a b : ℕ) → nat_cmp a b ≡ Equal → a ≡ b
equal_key a b h = grind (arith, nat_tests)

-- pieces that aren't empty and begin at one address share it
not_equal : {A : Type 0} (p x : Piece) → 0 < length p.bytes → 0 < length x.bytes → overlap p x ≡ false → x.base ≡ p.base → A
not_equal p x some more none same = true_false (overlaps p x (omega arith) (omega arith)) none

abbrev pub made : ℕ → Vec ℕ Global → Piece
made k v = record { base = k; bytes = v.items }

swapped : {X : Type 0} (x y : X) (zs : List X) → IsPermutation (x ∷ y ∷ zs) (y ∷ x ∷ zs)
swapped x y zs = IsPermutation-sym (y ∷ x ∷ zs) (x ∷ y ∷ zs) (IsPermutation-middle (y ∷ []) x zs)

inserted : (es : List Entry) (k : ℕ) (v : Vec ℕ Global) → 0 < length v.items → All (λ p. 0 < length p.bytes) (pieces_of es) → All (λ p. overlap p (made k v) ≡ false) (pieces_of es) → IsPermutation ((k, v) ∷ es) (insert_entry nat_cmp es k v)
inserted [] k v some full alone = IsPermutation-refl ((k, v) ∷ [])
inserted (e ∷ es) k v some full alone =
    let rest : IsPermutation ((k, v) ∷ es) (insert_entry nat_cmp es k v) = inserted es k v some (All-tail (λ p. 0 < length p.bytes) (piece_of e) (pieces_of es) full) (All-tail (λ p. overlap p (made k v) ≡ false) (piece_of e) (pieces_of es) alone) in
    elim (nat_cmp k e.0) as (λ o. nat_cmp k e.0 ≡ o → IsPermutation ((k, v) ∷ e ∷ es) (match_ordering o ((k, v) ∷ e ∷ es) ((e.0, v) ∷ es) (e ∷ insert_entry nat_cmp es k v))) [
      | Less ↦ λ is. IsPermutation-refl ((k, v) ∷ e ∷ es)
      | Equal ↦ λ is. not_equal (piece_of e) (made k v) (All-head (λ p. 0 < length p.bytes) (piece_of e) (pieces_of es) full) some (All-head (λ p. overlap p (made k v) ≡ false) (piece_of e) (pieces_of es) alone) (equal_key k e.0 is)
      | Greater ↦ λ is. IsPermutation-trans ((k, v) ∷ e ∷ es) (e ∷ (k, v) ∷ es) (e ∷ insert_entry nat_cmp es k v) (swapped (k, v) e es) (IsPermutation-cons e ((k, v) ∷ es) (insert_entry nat_cmp es k v) rest)
    ] refl

-- the map's pieces are the earlier ones and the new one
pub more_pieces : (es : List Entry) (k : ℕ) (v : Vec ℕ Global) → 0 < length v.items → All (λ p. 0 < length p.bytes) (pieces_of es) → All (λ p. overlap p (made k v) ≡ false) (pieces_of es) → IsPermutation (made k v ∷ pieces_of es) (pieces_of (insert_entry nat_cmp es k v))
more_pieces es k v some full alone = IsPermutation-map piece_of ((k, v) ∷ es) (insert_entry nat_cmp es k v) (inserted es k v some full alone)

abbrev pub Before : Piece → Piece → Type 0
Before one other = end_of one ≤ other.base

pairs_head : (p : Piece) (ps : List Piece) → AllPairs Before (p ∷ ps) → All (Before p) ps
pairs_head p ps pairs = λ k d lt. pairs 0 (suc k) d (omega arith) (omega arith)

pub pairs_tail : (p : Piece) (ps : List Piece) → AllPairs Before (p ∷ ps) → AllPairs Before ps
pairs_tail p ps pairs = λ i j d less lt. pairs (suc i) (suc j) d (omega arith) (omega arith)

below_first : (p x : Piece) → 0 < length p.bytes → overlap p x ≡ false → x.base < p.base → Before x p
below_first p x some none less = elim (apart p x none) [
  | inl before ↦ absurd (omega arith)
  | inr behind ↦ behind
]

above_first : (p x : Piece) → 0 < length x.bytes → overlap p x ≡ false → p.base < x.base → Before p x
above_first p x some none less = elim (apart p x none) [
  | inl before ↦ before
  | inr behind ↦ absurd (omega arith)
]

ascends : (es : List Entry) (k : ℕ) (v : Vec ℕ Global) → 0 < length v.items → All (λ p. 0 < length p.bytes) (pieces_of es) → All (λ p. overlap p (made k v) ≡ false) (pieces_of es) → AllPairs Before (pieces_of es) → AllPairs Before (pieces_of (insert_entry nat_cmp es k v))
ascends [] k v some full alone pairs = λ i j d less lt. absurd (omega arith)
ascends (e ∷ es) k v some full alone pairs =
    let p : Piece = piece_of e in
    let x : Piece = made k v in
    let full_rest = All-tail (λ p. 0 < length p.bytes) p (pieces_of es) full in
    let alone_rest = All-tail (λ p. overlap p x ≡ false) p (pieces_of es) alone in
    let here : overlap p x ≡ false = All-head (λ p. overlap p x ≡ false) p (pieces_of es) alone in
    let filled : 0 < length p.bytes = All-head (λ p. 0 < length p.bytes) p (pieces_of es) full in
    let rest : AllPairs Before (pieces_of (insert_entry nat_cmp es k v)) = ascends es k v some full_rest alone_rest (pairs_tail p (pieces_of es) pairs) in
    elim (nat_cmp k e.0) as (λ o. nat_cmp k e.0 ≡ o → AllPairs Before (pieces_of (match_ordering o ((k, v) ∷ e ∷ es) ((e.0, v) ∷ es) (e ∷ insert_entry nat_cmp es k v)))) [
      | Less ↦ λ is.
          let first : Before x p = below_first p x filled here (less_key k e.0 is) in
          AllPairs-cons Before x (p ∷ pieces_of es) (All-cons (Before x) p (pieces_of es) first (λ i d lt. let after : Before p (get_or (pieces_of es) i d) = pairs_head p (pieces_of es) pairs i d lt in omega arith)) pairs
      | Equal ↦ λ is. not_equal p x filled some here (equal_key k e.0 is)
      | Greater ↦ λ is.
          AllPairs-cons Before p (pieces_of (insert_entry nat_cmp es k v)) (All-permutation (Before p) (x ∷ pieces_of es) (pieces_of (insert_entry nat_cmp es k v)) (more_pieces es k v some full_rest alone_rest) (All-cons (Before p) x (pieces_of es) (above_first p x some here (greater_key k e.0 is)) (pairs_head p (pieces_of es) pairs))) rest
    ] refl

-- the map is memory with the new piece too
pub more_memory : (es : List Entry) (k : ℕ) (v : Vec ℕ Global) → 0 < length v.items → IsMemory (pieces_of es) → Fits (pieces_of es) (made k v) → IsMemory (pieces_of (insert_entry nat_cmp es k v))
more_memory es k v some m fit =
    let more = more_pieces es k v some m.not_empty fit.alone in
    record {
      not_empty = All-permutation (λ p. 0 < length p.bytes) (made k v ∷ pieces_of es) (pieces_of (insert_entry nat_cmp es k v)) more (All-cons (λ p. 0 < length p.bytes) (made k v) (pieces_of es) some m.not_empty);
      in_memory = All-permutation (λ p. end_of p ≤ 2 ^ 64) (made k v ∷ pieces_of es) (pieces_of (insert_entry nat_cmp es k v)) more (All-cons (λ p. end_of p ≤ 2 ^ 64) (made k v) (pieces_of es) fit.in_memory m.in_memory);
      ascending = ascends es k v some m.not_empty fit.alone m.ascending;
    }

-- ---- whether a piece shares an address with one in the map

abbrev Ranges : Type 0
Ranges = BTreeMap ℕ (Vec ℕ Global)

found : (m : Ranges) → IsOrdered nat_cmp m → All (λ e. get nat_cmp m e.0 ≡ Some e.1) m.entries
found m ordered = All-found nat_cmp_total m ordered

-- no range begins below the piece's end
pub none_begins : (m : Ranges) (x : Piece) → IsOrdered nat_cmp m → ((q : ℕ) → q < end_of x → get nat_cmp m q ≡ None) → list_any (λ p. overlap p x) (pieces_of m.entries) ≡ false
none_begins m x ordered none = list_any_none (λ p. overlap p x) (pieces_of m.entries) (All-map (λ p. overlap p x ≡ false) piece_of m.entries (λ i d lt. shares (get_or m.entries i d) (found m ordered i d lt)))
  where
    shares : (e : Entry) → get nat_cmp m e.0 ≡ Some e.1 → overlap (piece_of e) x ≡ false
    shares e there = elim (cases_lt e.0 (end_of x)) [
      | inl below ↦ absurd (none-some _ (sym (none e.0 below) ∙ there))
      | inr above ↦ no_overlap (piece_of e) x (inr (omega arith))
    ]

same_key_back : (x y : ℕ) → eq_by_cmp nat_cmp x y ≡ true → x ≡ y
same_key_back x y h = same_section x y (sym (same_key x y) ∙ h)

entry_there : (m : Ranges) (base : ℕ) (v : Vec ℕ Global) → get nat_cmp m base ≡ Some v → Contains m.entries (base, v)
entry_there m base v there = Contains-from_lookup same_key_back base v m.entries there

-- one range shares an address
pub one_overlaps : (m : Ranges) (x : Piece) (base : ℕ) (v : Vec ℕ Global) → get nat_cmp m base ≡ Some v → base < end_of x → x.base < base + length v.items → list_any (λ p. overlap p x) (pieces_of m.entries) ≡ true
one_overlaps m x base v there low high =
    let at = entry_there m base v there in
    let lt : at.0 < length (pieces_of m.entries) = subst (λ n. at.0 < n) (sym (length-map m.entries piece_of)) at.1 in
    let is : get_or (pieces_of m.entries) at.0 (made base v) ≡ made base v = get_or-map piece_of m.entries at.0 (base, v) (made base v) at.1 ∙ ap piece_of at.2 in
    list_any_at (λ p. overlap p x) (pieces_of m.entries) at.0 (made base v) lt (ap (λ p. overlap p x) is ∙ overlaps (made base v) x low high)

-- the last range that begins below the piece's end ends at or below its beginning
pub last_ends : (m : Ranges) (x : Piece) (base : ℕ) (v : Vec ℕ Global) → IsOrdered nat_cmp m → IsMemory (pieces_of m.entries) → get nat_cmp m base ≡ Some v
    → ((q : ℕ) → q < end_of x → IsSome (get nat_cmp m q) → q ≤ base) → base + length v.items ≤ x.base → list_any (λ p. overlap p x) (pieces_of m.entries) ≡ false
last_ends m x base v ordered memory there greatest ends = list_any_none (λ p. overlap p x) (pieces_of m.entries) (All-map (λ p. overlap p x ≡ false) piece_of m.entries (λ i d lt. shares i d lt (found m ordered i d lt)))
  where
    at : Contains m.entries (base, v)
    at = entry_there m base v there

    base_of : (i : ℕ) (d : Entry) → i < length m.entries → (get_or (pieces_of m.entries) i (piece_of d)).base ≡ (get_or m.entries i d).0
    base_of i d lt = ap (λ (p : Piece). p.base) (get_or-map piece_of m.entries i d (piece_of d) lt)

    before : (i : ℕ) (d : Entry) → i < length m.entries → (get_or m.entries i d).0 < base → end_of (piece_of (get_or m.entries i d)) ≤ x.base
    before i d lt less =
        let long : length (pieces_of m.entries) ≡ length m.entries = length-map m.entries piece_of in
        let mine : get_or (pieces_of m.entries) i (piece_of d) ≡ piece_of (get_or m.entries i d) = get_or-map piece_of m.entries i d (piece_of d) lt in
        let last : get_or (pieces_of m.entries) at.0 (piece_of d) ≡ made base v = get_or-map piece_of m.entries at.0 (base, v) (piece_of d) at.1 ∙ ap piece_of at.2 in
        elim (cases_lt i at.0) [
          | inl earlier ↦
              let pair : end_of (get_or (pieces_of m.entries) i (piece_of d)) ≤ (get_or (pieces_of m.entries) at.0 (piece_of d)).base = memory.ascending i at.0 (piece_of d) earlier (omega (arith, long, at.1)) in
              let one : end_of (get_or (pieces_of m.entries) i (piece_of d)) ≡ end_of (piece_of (get_or m.entries i d)) = ap end_of mine in
              let other : (get_or (pieces_of m.entries) at.0 (piece_of d)).base ≡ base = ap (λ (p : Piece). p.base) last in
              omega (arith, pair, one, other)
          | inr later ↦ elim (cases_lt at.0 i) [
            | inl behind ↦
                let pair : end_of (get_or (pieces_of m.entries) at.0 (piece_of d)) ≤ (get_or (pieces_of m.entries) i (piece_of d)).base = memory.ascending at.0 i (piece_of d) behind (omega (arith, long)) in
                let one : end_of (get_or (pieces_of m.entries) at.0 (piece_of d)) ≡ base + length v.items = ap end_of last in
                let other : (get_or (pieces_of m.entries) i (piece_of d)).base ≡ (get_or m.entries i d).0 = ap (λ (p : Piece). p.base) mine in
                absurd (omega (arith, pair, one, other))
            | inr together ↦
                let place : i ≡ at.0 = omega arith in
                let same : (get_or m.entries i d).0 ≡ base = ap (λ (p : Piece). p.base) (sym mine ∙ ap (λ k. get_or (pieces_of m.entries) k (piece_of d)) place ∙ last) in
                absurd (omega (arith, same))
          ]
        ]

    shares : (i : ℕ) (d : Entry) → i < length m.entries → get nat_cmp m (get_or m.entries i d).0 ≡ Some (get_or m.entries i d).1 → overlap (piece_of (get_or m.entries i d)) x ≡ false
    shares i d lt here = elim (cases_lt (get_or m.entries i d).0 (end_of x)) [
      | inr above ↦ no_overlap (piece_of (get_or m.entries i d)) x (inr (omega arith))
      | inl below ↦ elim (cases_lt (get_or m.entries i d).0 base) [
        | inl less ↦ no_overlap (piece_of (get_or m.entries i d)) x (inl (before i d lt less))
        | inr not_less ↦
            let most : (get_or m.entries i d).0 ≤ base = greatest (get_or m.entries i d).0 below (subst IsSome (sym here) (search rules)) in
            let same : (get_or m.entries i d).0 ≡ base = omega arith in
            let value : (get_or m.entries i d).1 ≡ v = Some-same (ap (get nat_cmp m) (sym same) ∙ here) there in
            let long : length (get_or m.entries i d).1.items ≡ length v.items = ap (λ (v : Vec ℕ Global). length v.items) value in
            no_overlap (piece_of (get_or m.entries i d)) x (inl (omega (arith, long, same)))
      ]
    ]

pub not_past : (q last : ℕ) → q ≤ last → is_gt (nat_cmp q last) ≡ false
not_past q last le = grind (arith, nat_tests)

pub at_most : (a b : ℕ) → is_lt (nat_cmp a b) ≡ false → b ≤ a
at_most a b h = ge_from_not_lt a b h

pub is_below : (a b : ℕ) → ltb a b ≡ true → a < b
is_below a b h = grind (arith, nat_tests)

pub is_not_below : (a b : ℕ) → ltb a b ≡ false → b ≤ a
is_not_below a b h = not_above a b h

pub not_over : (q last : ℕ) → is_gt (nat_cmp q last) ≡ false → q ≤ last
not_over q last h = le_from_not_gt q last h
