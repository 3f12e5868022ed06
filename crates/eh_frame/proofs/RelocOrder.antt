-- The relocations of a record are those that come next in the order of their offsets.
use Rattle.std.proofs.Common.{◌≡◌, ◌≢◌, ℕ, zero, suc, ◌+◌, ◌<◌, ◌≤◌, ◌⊎◌, ◌↔◌, Bool, true, false, cond, List, [], ◌∷◌, ◌++◌, length, take, drop, get_or, refl, sym, ◌∙◌, ap, subst, arith}
use Rattle.std.specs.Prelude.{◌&&◌, not, All, IsPermutation, filter, pos, Option, Some, None}
use Rattle.std.proofs.lemmas.Option.{none-some}
use Rattle.std.specs.List.{count_by}
use Rattle.std.specs.List.Sorted.{IsNonDecreasingBy}
use Rattle.std.proofs.lemmas.Bool.{true≢false, lt-ltb, le-ltb, le-leb, lt-leb, ltb-true, ltb-false, cases_lt}
use Rattle.std.proofs.lemmas.List.{take-append-drop, nil_from_length}
use Rattle.std.proofs.lemmas.List.Elements.{All-cons, All-nil, All-head, All-tail, All-from_get_or, filter-append}
use Rattle.std.proofs.lemmas.List.Sums.{length-filter}
use Rattle.std.proofs.lemmas.List.Sorted.{All-permutation, IsPermutation-sym, sum_by-IsPermutation}
use Rattle.std.proofs.Math.Dec.{ltb, leb}
use Rattle.elf_objects.specs.declared.symbol.Reloc.{Reloc}
use Rattle.eh_frame.specs.Records.{relocs_in, relocs_from}
use Rattle.eh_frame.specs.Cursor.{relocs_below, begins_below, only_below, AreFrom}

some_alike : {A : Type 0} {x y : A} → Some x ≡ Some y → x ≡ y
some_alike h = cc

-- One that passes a test, in any order.

cons_alike : {X : Type 0} {x y : X} {xs ys : List X} → (x ∷ xs) ≡ (y ∷ ys) → (x ≡ y) × (xs ≡ ys)
cons_alike h = (cc, cc)

cons-nil : {X : Type 0} {x : X} {xs : List X} → (x ∷ xs) ≡ [] → ⊥
cons-nil h = cc

nil-cons : {X : Type 0} {x : X} {xs : List X} → [] ≡ (x ∷ xs) → ⊥
nil-cons h = cc

none_pass : {X : Type 0} (p : X → Bool) (x : X) (xs : List X) → filter p xs ≡ [] → All (λ z. p z ≡ true → z ≡ x) xs
none_pass {X} p x [] h = All-nil (λ (z : X). p z ≡ true → z ≡ x)
none_pass {X} p x (z ∷ zs) h = go (λ g. none_pass p x zs g) (p z) refl h
  where
    go : (filter p zs ≡ [] → All (λ z. p z ≡ true → z ≡ x) zs) → (b : Bool) → p z ≡ b → cond b (z ∷ filter p zs) (filter p zs) ≡ [] → All (λ z. p z ≡ true → z ≡ x) (z ∷ zs)
    go again true e g = absurd (cons-nil g)
    go again false e g = All-cons (λ (z : X). p z ≡ true → z ≡ x) z zs (λ t. absurd (true≢false (sym t ∙ e))) (again g)

only_passes : {X : Type 0} (p : X → Bool) (x : X) (xs : List X) → filter p xs ≡ x ∷ [] → All (λ z. p z ≡ true → z ≡ x) xs
only_passes {X} p x [] h = absurd (nil-cons h)
only_passes {X} p x (z ∷ zs) h = go (λ g. only_passes p x zs g) (p z) refl h
  where
    go : (filter p zs ≡ x ∷ [] → All (λ z. p z ≡ true → z ≡ x) zs) → (b : Bool) → p z ≡ b → cond b (z ∷ filter p zs) (filter p zs) ≡ x ∷ [] → All (λ z. p z ≡ true → z ≡ x) (z ∷ zs)
    go again true e g = let parts = cons_alike g in All-cons (λ (z : X). p z ≡ true → z ≡ x) z zs (λ t. parts.0) (none_pass p x zs parts.1)
    go again false e g = All-cons (λ (z : X). p z ≡ true → z ≡ x) z zs (λ t. absurd (true≢false (sym t ∙ e))) (again g)

first_passes : {X : Type 0} (p : X → Bool) (x y : X) (rest xs : List X) → All (λ z. p z ≡ true → z ≡ x) xs → filter p xs ≡ y ∷ rest → y ≡ x
first_passes {X} p x y rest [] all h = absurd (nil-cons h)
first_passes {X} p x y rest (z ∷ zs) all h = go (λ g. first_passes p x y rest zs (All-tail (λ (z : X). p z ≡ true → z ≡ x) z zs all) g) (p z) refl h
  where
    go : (filter p zs ≡ y ∷ rest → y ≡ x) → (b : Bool) → p z ≡ b → cond b (z ∷ filter p zs) (filter p zs) ≡ y ∷ rest → y ≡ x
    go again true e g = sym (cons_alike g).0 ∙ All-head (λ (z : X). p z ≡ true → z ≡ x) z zs all e
    go again false e g = again g

same_count : {X : Type 0} (p : X → Bool) (xs ys : List X) → IsPermutation xs ys → length (filter p ys) ≡ length (filter p xs)
same_count p xs ys h = length-filter p ys ∙ sum_by-IsPermutation (λ x. cond (p x) 1 0) xs ys h ∙ sym (length-filter p xs)

one_passes : {X : Type 0} (p : X → Bool) (x : X) (xs ys : List X) → IsPermutation xs ys → filter p xs ≡ x ∷ [] → filter p ys ≡ x ∷ []
one_passes {X} p x xs ys h e = go (filter p ys) refl (same_count p xs ys h ∙ ap length e)
  where
    all : All (λ z. p z ≡ true → z ≡ x) ys
    all = All-permutation (λ (z : X). p z ≡ true → z ≡ x) xs ys h (only_passes p x xs e)

    go : (zs : List X) → filter p ys ≡ zs → length zs ≡ 1 → filter p ys ≡ x ∷ []
    go [] f l = absurd (omega arith)
    go (z ∷ []) f l = f ∙ ap (λ (w : X). w ∷ []) (first_passes p x z [] ys all f)
    go (z ∷ w ∷ zs) f l = absurd (omega arith)

none_passes : {X : Type 0} (p : X → Bool) (xs ys : List X) → IsPermutation xs ys → filter p xs ≡ [] → filter p ys ≡ []
none_passes p xs ys h e = nil_from_length _ (same_count p xs ys h ∙ ap length e)

-- Those before an offset and those from it on.

front_in : (at end : ℕ) (xs : List Reloc) → All (λ r. r.offset < at) xs → relocs_in xs at end ≡ []
front_in at end [] h = refl
front_in at end (r ∷ rs) h =
    let below : r.offset < at = All-head (λ (r : Reloc). r.offset < at) r rs h in
    let no : leb at r.offset ≡ false = lt-leb at r.offset below in
    rw no (front_in at end rs (All-tail (λ (r : Reloc). r.offset < at) r rs h))

front_from : (at : ℕ) (xs : List Reloc) → All (λ r. r.offset < at) xs → relocs_from xs at ≡ []
front_from at [] h = refl
front_from at (r ∷ rs) h =
    let below : r.offset < at = All-head (λ (r : Reloc). r.offset < at) r rs h in
    let no : leb at r.offset ≡ false = lt-leb at r.offset below in
    rw no (front_from at rs (All-tail (λ (r : Reloc). r.offset < at) r rs h))

behind_in : (at end : ℕ) (xs : List Reloc) → All (λ r. at ≤ r.offset) xs → relocs_in xs at end ≡ relocs_below xs end
behind_in at end [] h = refl
behind_in at end (r ∷ rs) h =
    let above : at ≤ r.offset = All-head (λ (r : Reloc). at ≤ r.offset) r rs h in
    let yes : leb at r.offset ≡ true = le-leb at r.offset above in
    let rest = behind_in at end rs (All-tail (λ (r : Reloc). at ≤ r.offset) r rs h) in
    rw (yes, rest) refl

behind_from : (at : ℕ) (xs : List Reloc) → All (λ r. at ≤ r.offset) xs → relocs_from xs at ≡ xs
behind_from at [] h = refl
behind_from at (r ∷ rs) h =
    let above : at ≤ r.offset = All-head (λ (r : Reloc). at ≤ r.offset) r rs h in
    let yes : leb at r.offset ≡ true = le-leb at r.offset above in
    rw yes (ap (λ (xs : List Reloc). r ∷ xs) (behind_from at rs (All-tail (λ (r : Reloc). at ≤ r.offset) r rs h)))

-- So many of the relocations in order lie before an offset, and the others not.
pub record IsCursor (sorted : List Reloc) (next at : ℕ) : Type 0 where
  pub before : All (λ r. r.offset < at) (take next sorted)
  pub behind : All (λ r. at ≤ r.offset) (drop next sorted)

pub are_from : (relocs sorted : List Reloc) (next at : ℕ) → IsPermutation relocs sorted → IsCursor sorted next at → AreFrom relocs at (drop next sorted)
are_from relocs sorted next at h c = record {
  one = λ end reloc e. one_passes _ reloc sorted relocs (IsPermutation-sym relocs sorted h) (inside end ∙ e);
  only = λ end reloc e. sym (inside end) ∙ one_passes _ reloc relocs sorted h e;
  none = ((λ e. sym whole ∙ none_passes _ relocs sorted h e), (λ e. none_passes _ sorted relocs (IsPermutation-sym relocs sorted h) (whole ∙ e)));
}
  where
    inside : (end : ℕ) → relocs_in sorted at end ≡ relocs_below (drop next sorted) end
    inside end =
        ap (λ (xs : List Reloc). relocs_in xs at end) (sym (take-append-drop next sorted))
        ∙ filter-append _ (take next sorted) (drop next sorted)
        ∙ ap (λ (xs : List Reloc). xs ++ relocs_in (drop next sorted) at end) (front_in at end (take next sorted) c.before)
        ∙ behind_in at end (drop next sorted) c.behind

    whole : relocs_from sorted at ≡ drop next sorted
    whole =
        ap (λ (xs : List Reloc). relocs_from xs at) (sym (take-append-drop next sorted))
        ∙ filter-append _ (take next sorted) (drop next sorted)
        ∙ ap (λ (xs : List Reloc). xs ++ relocs_from (drop next sorted) at) (front_from at (take next sorted) c.before)
        ∙ behind_from at (drop next sorted) c.behind

-- none below an offset
pub all_above : (end : ℕ) (xs : List Reloc) → All (λ r. end ≤ r.offset) xs → relocs_below xs end ≡ []
all_above end [] h = refl
all_above end (r ∷ rs) h =
    let above : end ≤ r.offset = All-head (λ (r : Reloc). end ≤ r.offset) r rs h in
    let no : ltb r.offset end ≡ false = le-ltb r.offset end above in
    rw no (all_above end rs (All-tail (λ (r : Reloc). end ≤ r.offset) r rs h))

-- of relocations in order none lies before the first
first_least : (end : ℕ) (r : Reloc) (rs : List Reloc) → IsNonDecreasingBy (λ (r : Reloc). r.offset) (r ∷ rs) → end ≤ r.offset → All (λ r. end ≤ r.offset) (r ∷ rs)
first_least end r rs up h = All-from_get_or (λ (r : Reloc). end ≤ r.offset) (r ∷ rs) r (λ i k. let e = up 0 i r (omega arith) k in omega arith)

pub none_below : (end : ℕ) (rs : List Reloc) → IsNonDecreasingBy (λ (r : Reloc). r.offset) rs → begins_below rs end ≡ false → All (λ r. end ≤ r.offset) rs
none_below end [] up h = All-nil (λ (r : Reloc). end ≤ r.offset)
none_below end (r ∷ rs) up h = first_least end r rs up (ltb-false r.offset end h)

pub some_below : (end : ℕ) (rs : List Reloc) → begins_below rs end ≡ true → relocs_below rs end ≢ []
some_below end [] h e = true≢false (sym h)
some_below end (r ∷ rs) h e = cons-nil (sym (ap (λ (b : Bool). cond b (r ∷ relocs_below rs end) (relocs_below rs end)) h) ∙ e)

further : (r : Reloc) (rs : List Reloc) → IsNonDecreasingBy (λ (r : Reloc). r.offset) (r ∷ rs) → IsNonDecreasingBy (λ (r : Reloc). r.offset) rs
further r rs up i j d h k = up (suc i) (suc j) d (omega arith) (omega arith)

-- the one below an offset
pub record IsOnly (rs : List Reloc) (end : ℕ) (r : Reloc) : Type 0 where
  pub one : relocs_below rs end ≡ r ∷ []
  pub some : 1 ≤ length rs
  pub others : All (λ r. end ≤ r.offset) (drop 1 rs)

kept : (end : ℕ) (x : Reloc) (xs : List Reloc) (b : Bool) → ltb x.offset end ≡ b → relocs_below (x ∷ xs) end ≡ cond b (x ∷ relocs_below xs end) (relocs_below xs end)
kept end x xs b e = ap (λ (b : Bool). cond b (x ∷ relocs_below xs end) (relocs_below xs end)) e

pub only_is : (end : ℕ) (rs : List Reloc) (r : Reloc) → IsNonDecreasingBy (λ (r : Reloc). r.offset) rs → only_below rs end ≡ Some r → IsOnly rs end r
only_is end [] r up e = absurd (none-some _ e)
only_is end (x ∷ xs) r up e = go (ltb x.offset end) (begins_below xs end) refl refl e
  where
    go : (b c : Bool) → ltb x.offset end ≡ b → begins_below xs end ≡ c → cond (b && not c) (Some x) None ≡ Some r → IsOnly (x ∷ xs) end r
    go true true f g h = absurd (none-some _ h)
    go true false f g h =
        let others = none_below end xs (further x xs up) g in
        record {
          one = kept end x xs true f ∙ ap (λ (rs : List Reloc). x ∷ rs) (all_above end xs others) ∙ ap (λ (y : Reloc). y ∷ []) (some_alike h);
          some = omega arith;
          others = others;
        }
    go false true f g h = absurd (none-some _ h)
    go false false f g h = absurd (none-some _ h)

pub only_isnt : (end : ℕ) (rs : List Reloc) (r : Reloc) → IsNonDecreasingBy (λ (r : Reloc). r.offset) rs → only_below rs end ≡ None → relocs_below rs end ≡ r ∷ [] → ⊥
only_isnt end [] r up e f = nil-cons f
only_isnt end (x ∷ xs) r up e f = go (ltb x.offset end) (begins_below xs end) refl refl e
  where
    go : (b c : Bool) → ltb x.offset end ≡ b → begins_below xs end ≡ c → cond (b && not c) (Some x) None ≡ None → ⊥
    go true true g h i = some_below end xs h (cons_alike (sym (kept end x xs true g) ∙ f)).1
    go true false g h i = none-some _ (sym i)
    go false c g h i = nil-cons (sym (all_above end (x ∷ xs) (first_least end x xs up (ltb-false x.offset end g))) ∙ f)

-- those of a section that lie before an offset, from its beginning on
pub in_front : (relocs sorted : List Reloc) (end : ℕ) → IsPermutation relocs sorted → (relocs_in relocs 0 end ≡ [] → relocs_below sorted end ≡ []) × (relocs_below sorted end ≡ [] → relocs_in relocs 0 end ≡ [])
in_front relocs sorted end h = (
  (λ e. sym all ∙ none_passes _ relocs sorted h e),
  (λ e. none_passes _ sorted relocs (IsPermutation-sym relocs sorted h) (all ∙ e)),
)
  where
    no_reloc : Reloc
    no_reloc = record { offset = 0; kind = 0; sym = 0; addend = pos 0 }

    all : relocs_in sorted 0 end ≡ relocs_below sorted end
    all = behind_in 0 end sorted (All-from_get_or (λ (r : Reloc). 0 ≤ r.offset) sorted no_reloc (λ i k. omega arith))
