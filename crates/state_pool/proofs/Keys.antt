-- A state is one of the states of keys exactly where its key is found among them.
use Rattle.std.proofs.Common.{◌≡◌, ℕ, ◌<◌, Bool, true, false, List, [], ◌∷◌, ◌++◌, length, Some, Contains, get_or, slice_get, ap, sym, ◌∙◌, refl, cond, rules, arith}
use Rattle.std.specs.Bool.{Decides}
use Rattle.std.specs.Cmp.Rules.{hashing}
use Rattle.std.specs.List.{list_any, position}
use Rattle.std.proofs.lemmas.List.{get_or-map, length-map, map-append}
use Rattle.std.proofs.lemmas.List.Folds.{list_any_at}
use Rattle.std.proofs.lemmas.List.Quantifiers.{position-Some}
use Rattle.std.proofs.lemmas.Map.Views.{Contains-from_any}
use Rattle.std.proofs.lemmas.Option.{slice_get_read}
use Rattle.indexmap.specs.IndexSet.{insert_key}
use Rattle.state_defs.specs.declared.state.State.{State}
use Rattle.state_pool.specs.contracts.key.KeyPartialEq.TheImpl as key_impl
use Rattle.state_pool.specs.declared.key.Key.{Key}
use Rattle.state_pool.specs.Keys.{states_of}

abbrev pub key_of : State → Key
key_of s = record { 0 = s }

abbrev state_in : Key → State
state_in key = key.0

-- `==` of keys
abbrev pub is_same_key : Key → Key → Bool
is_same_key = key_impl.eq-value.it

is_same_key-Decides : (one other : Key) → Decides (is_same_key one other) (one ≡ other)
is_same_key-Decides = search (hashing, rules)

length-states : (keys : List Key) → length (states_of keys) ≡ length keys
length-states keys = length-map keys state_in

decided : (b : Bool) → (b ≡ true → ⊥) → b ≡ false
decided true h = absurd (h refl)
decided false h = refl

-- what is found isn't absent
pub absent : (keys : List Key) (s : State) → false ≡ list_any (is_same_key (key_of s)) keys → Contains (states_of keys) s → ⊥
absent keys s none (k, below, is) =
    let lt : k < length keys = omega (arith, length-states keys) in
    let same : key_of s ≡ get_or keys k (key_of s) = ap key_of (sym is ∙ get_or-map state_in keys k (key_of s) s lt) in
    let found : list_any (is_same_key (key_of s)) keys ≡ true = list_any_at (is_same_key (key_of s)) keys k (key_of s) lt ((is_same_key-Decides (key_of s) (get_or keys k (key_of s))).1 same) in
    cc

-- the key that is found is that of the state
pub at_position : (keys : List Key) (s : State) (i : ℕ) → Some i ≡ position (is_same_key (key_of s)) keys → slice_get (states_of keys) i ≡ Some s
at_position keys s i h =
    let facts = position-Some (is_same_key (key_of s)) keys i (key_of s) (sym h) in
    let same : key_of s ≡ get_or keys i (key_of s) = (is_same_key-Decides (key_of s) (get_or keys i (key_of s))).0 facts.1 in
    let read : s ≡ get_or (states_of keys) i s = ap state_in same ∙ sym (get_or-map state_in keys i (key_of s) s facts.0) in
    slice_get_read (states_of keys) (length keys) i s (sym (length-states keys)) facts.0 read

state_among : (keys : List Key) (s : State) → Contains keys (key_of s) → Contains (states_of keys) s
state_among keys s (k, below, is) =
    let lt : k < length (states_of keys) = omega (arith, length-states keys) in
    (k, lt, get_or-map state_in keys k (key_of s) s below ∙ ap state_in is)

one_more : (b : Bool) (keys : List Key) (s : State) → b ≡ false → states_of (cond b keys (keys ++ key_of s ∷ [])) ≡ states_of keys ++ s ∷ []
one_more true keys s e = cc
one_more false keys s e = map-append state_in keys (key_of s ∷ [])

-- what isn't among the keys is put at their end
pub at_end : (keys new : List Key) (s : State) → (Contains (states_of keys) s → ⊥) → new ≡ insert_key is_same_key keys (key_of s) → states_of new ≡ states_of keys ++ s ∷ []
at_end keys new s not_there is =
    let exact : (one other : Key) → is_same_key one other ≡ true → one ≡ other = λ one other. (is_same_key-Decides one other).0 in
    let none : list_any (is_same_key (key_of s)) keys ≡ false =
    decided (list_any (is_same_key (key_of s)) keys) (λ found. not_there (state_among keys s (Contains-from_any exact (key_of s) keys found))) in
    ap states_of is ∙ one_more (list_any (is_same_key (key_of s)) keys) keys s none
