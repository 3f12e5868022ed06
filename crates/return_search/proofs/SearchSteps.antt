-- Steps of a search: what is found by one more edge or call.
use Rattle.std.proofs.Common.{◌≡◌, ℕ, zero, suc, ◌+◌, ◌<◌, ◌≤◌, ◌⊎◌, inl, inr, Bool, true, false, cond, List, [], ◌∷◌, ◌++◌, Option, Some, None, All, Contains, map, length, get_or, set, refl, sym, ap, ◌∙◌, subst, arith, length-set, get_or-set_same, get_or-set_other}
use Rattle.std.specs.Prelude.{count_by}
use Rattle.std.proofs.lemmas.Bool.{cases_eq, cases_order}
use Rattle.std.proofs.lemmas.List.{length_push}
use Rattle.std.proofs.lemmas.List.Elements.{Contains-append_left, Contains-push, All-push}
use Rattle.std.proofs.lemmas.List.Sums.{sum_by-set, count_by-le-length}
use Rattle.machine_defs.specs.Program.{Program}
use Rattle.machine_defs.specs.MayReturn.{MayReturn}
use Rattle.return_search.specs.declared.searched_flow.Flow.{Flow}
use Rattle.return_search.specs.declared.return_search.Search.{Search}
use Rattle.return_search.specs.Chained.{IsLastBelow}
use Rattle.return_search.specs.Told.{TellsFlow, start_of}
use Rattle.return_search.specs.Shape.{HasShape}
use Rattle.return_search.specs.Backward.{IsEdgeOf}
use Rattle.return_search.specs.Search.{is_set, AreSound, Extends}
use Rattle.return_search.proofs.Ranges.{starts_ascend}

-- where a walk along a chain stands, and which numbers it has passed
abbrev pub IsCursor : List (Option ℕ) → ℕ → Option ℕ → Type 0
IsCursor keys key None = Unit {0}
IsCursor keys key (Some i) = (i < length keys) × (get_or keys i None ≡ Some key)

abbrev pub IsPassed : Option ℕ → ℕ → Type 0
IsPassed None j = Unit {0}
IsPassed (Some i) j = i < j

abbrev pub left : Option ℕ → ℕ
left None = 0
left (Some i) = suc i

-- at the start no number with the key is passed
pub cursor_first : (keys : List (Option ℕ)) (key : ℕ) (o : Option ℕ) → IsLastBelow keys key (length keys) o → IsCursor keys key o
cursor_first keys key None h = tt
cursor_first keys key (Some i) (l, is, past) = (l, is)

pub none_passed : (keys : List (Option ℕ)) (key : ℕ) (o : Option ℕ) → IsLastBelow keys key (length keys) o → (j : ℕ) → j < length keys → get_or keys j None ≡ Some key → IsPassed o j → ⊥
none_passed keys key None h j l is passed = h j l is
none_passed keys key (Some i) (l, at, past) j below is passed = past j passed below is

-- with each step one number more is passed
pub cursor_next : (keys : List (Option ℕ)) (key i : ℕ) (o : Option ℕ) → i < length keys → IsLastBelow keys key i o → IsCursor keys key o
cursor_next keys key i None inside h = tt
cursor_next keys key i (Some k) inside (l, is, past) = (omega arith, is)

pub passed_next : (keys : List (Option ℕ)) (key i : ℕ) (o : Option ℕ) → IsLastBelow keys key i o → (j : ℕ) → get_or keys j None ≡ Some key → IsPassed o j → (i < j) ⊎ (j ≡ i)
passed_next keys key i o h j is passed = elim (cases_order j i) [ inl at ↦ inr at | inr other ↦ elim other [ inl below ↦ absurd (none o h passed below) | inr above ↦ inl above ] ]
  where
    none : (o : Option ℕ) → IsLastBelow keys key i o → IsPassed o j → j < i → ⊥
    none None h passed below = h j below is
    none (Some k) (l, at, past) passed below = past j passed below is

pub left_less : (keys : List (Option ℕ)) (key i : ℕ) (o : Option ℕ) → IsLastBelow keys key i o → left o < suc i
left_less keys key i None h = omega arith
left_less keys key i (Some k) (l, is, past) = omega arith

-- an edge is of one point
pub edge_of_one : (flow : Flow) → HasShape flow → (q r i : ℕ) → IsEdgeOf flow q i → IsEdgeOf flow r i → q ≡ r
edge_of_one flow shape q r i one other = elim (cases_order q r) [
  | inl same ↦ same
  | inr differ ↦ elim differ [
    | inl below ↦ absurd (let h : start_of flow (q + 1) ≤ start_of flow r = starts_ascend flow shape (q + 1) r (omega arith) (omega (arith, other.point)) in omega (arith, h, one.to, other.from))
    | inr above ↦ absurd (let h : start_of flow (r + 1) ≤ start_of flow q = starts_ascend flow shape (r + 1) q (omega arith) (omega (arith, one.point)) in omega (arith, h, other.to, one.from))
  ]
]

-- the key of one of them
pub key_at : {X : Type 0} (f : X → Option ℕ) (xs : List X) (i : ℕ) (d : X) → i < length xs → get_or (map f xs) i None ≡ f (get_or xs i d)
key_at f [] i d h = absurd (omega (arith, h))
key_at f (x ∷ xs) zero d h = refl
key_at f (x ∷ xs) (suc i) d h = key_at f xs i d (omega (arith, h))

-- a point more is found
pub holds_still : (found : List Bool) (q r : ℕ) → q < length found → is_set found r ≡ true → is_set (set found q true) r ≡ true
holds_still found q r inside h = elim (cases_eq r q) [
  | inl same ↦ subst (λ (k : ℕ). is_set (set found q true) k ≡ true) (sym same) (get_or-set_same found q true false inside)
  | inr other ↦ get_or-set_other found q r true false other ∙ h
]

pub holds_new : (found : List Bool) (q : ℕ) → q < length found → is_set (set found q true) q ≡ true
holds_new found q inside = get_or-set_same found q true false inside

pub holds_before : (found : List Bool) (q r : ℕ) → is_set (set found q true) r ≡ true → is_set found r ≡ true ⊎ (r ≡ q)
holds_before found q r h = elim (cases_eq r q) [ inl same ↦ inr same | inr other ↦ inl (sym (get_or-set_other found q r true false other) ∙ h) ]

pub found_push : (found : List Bool) (order : List ℕ) (q : ℕ) → q < length found → All (λ r. is_set found r ≡ true) order → All (λ r. is_set (set found q true) r ≡ true) (order ++ q ∷ [])
found_push found order q inside all = All-push (λ r. is_set (set found q true) r ≡ true) order q (λ k d l. holds_still found q (get_or order k d) inside (all k d l)) (holds_new found q inside)

abbrev one : Bool → ℕ
one b = cond b 1 0

pub count_push : (found : List Bool) (q : ℕ) → q < length found → is_set found q ≡ false → count_by (λ b. b) (set found q true) ≡ count_by (λ b. b) found + 1
count_push found q inside new =
    let e = sum_by-set one found q true false inside in
    let z : one (is_set found q) ≡ 0 = ap one new in
    omega (arith, e, z)

pub room_for : (found : List Bool) (q : ℕ) → q < length found → is_set found q ≡ false → count_by (λ b. b) found < length found
room_for found q inside new = omega (arith, count_push found q inside new, count_by-le-length (λ (b : Bool). b) (set found q true), length-set found q true)

-- it is sound to find a point from which a return may come
pub sound_find : (flow : Flow) (found known : List Bool) (q : ℕ) → AreSound flow found known → ((p : Program) → TellsFlow p flow → MayReturn p q) → AreSound flow (set found q true) known
sound_find flow found known q sound may = record {
  points = λ p tells r h. elim (holds_before found q r h) [ inl was ↦ sound.points p tells r was | inr new ↦ subst (MayReturn p) (sym new) (may p tells) ];
  entries = sound.entries;
}

pub extends_itself : (s : Search) → Extends s s
extends_itself s = record { found = λ q h. h; waiting = λ q h. h; new = λ q h. inl h; grown = refl; more = omega arith }

pub extends_more : (r s t : Search) → Extends r s → Extends s t → Extends r t
extends_more r s t one other = record {
  found = λ q h. other.found q (one.found q h);
  waiting = λ q h. other.waiting q (one.waiting q h);
  new = λ q h. elim (other.new q h) [
    | inl was ↦ elim (one.new q was) [ inl first ↦ inl first | inr listed ↦ inr (other.waiting q listed) ]
    | inr listed ↦ inr listed
  ];
  grown = omega (arith, one.grown, other.grown);
  more = omega (arith, one.more, other.more);
}

-- one more is found, and listed
pub extends_one : (s t : Search) (q : ℕ) → q < length s.found.items → is_set s.found.items q ≡ false → t.found.items ≡ set s.found.items q true → t.waiting.items ≡ s.waiting.items ++ q ∷ [] → Extends s t
extends_one s t q inside new found pushed =
    let count : count_by (λ b. b) t.found.items ≡ count_by (λ b. b) s.found.items + 1 = ap (count_by (λ b. b)) found ∙ count_push s.found.items q inside new in
    let long : length t.waiting.items ≡ length s.waiting.items + 1 = ap length pushed ∙ length_push s.waiting.items q in
    record {
      found = λ r h. subst (λ (fs : List Bool). is_set fs r ≡ true) (sym found) (holds_still s.found.items q r inside h);
      waiting = λ r h. subst (λ (xs : List ℕ). Contains xs r) (sym pushed) (Contains-append_left s.waiting.items (q ∷ []) r h);
      new = λ r h. elim (holds_before s.found.items q r (subst (λ (fs : List Bool). is_set fs r ≡ true) found h)) [
        | inl was ↦ inl was
        | inr same ↦ inr (subst (λ (xs : List ℕ). Contains xs r) (sym pushed) (subst (Contains (s.waiting.items ++ q ∷ [])) (sym same) (Contains-push s.waiting.items q)))
      ];
      grown = omega (arith, count, long);
      more = omega (arith, count);
    }
