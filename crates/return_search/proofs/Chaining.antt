-- Chains when a number is added.
use Rattle.std.proofs.Common.{◌≡◌, ◌≢◌, ℕ, ◌+◌, ◌<◌, ◌≤◌, ◌⊎◌, inl, inr, Bool, cond, List, [], ◌∷◌, ◌++◌, Option, Some, None, replicate, length, get_or, set, refl, sym, ap, ◌∙◌, subst, arith, get_or-set_same, get_or-set_other, length-set}
use Rattle.std.proofs.lemmas.List.{get_or_append_left, get_or_push, get_or-replicate, length_push, length-replicate}
use Rattle.std.proofs.lemmas.Bool.{cases_eq, lt-ltb, le-ltb}
use Rattle.return_search.specs.declared.chains.TheConstants.{OPEN}
use Rattle.return_search.specs.Chained.{IsLastBelow, IsOpen, OpensNone, linked, no_number, AreChains}

-- what is below a place stays as it is when more is put behind
below_push : (keys : List (Option ℕ)) (y : Option ℕ) (key n : ℕ) (o : Option ℕ) → n ≤ length keys → IsLastBelow keys key n o → IsLastBelow (keys ++ y ∷ []) key n o
below_push keys y key n None short h = λ j l e. h j l (sym (get_or_append_left keys (y ∷ []) None j (omega arith)) ∙ e)
below_push keys y key n (Some i) short (l, is, past) = (l, get_or_append_left keys (y ∷ []) None i (omega arith) ∙ is, λ j above below e. past j above below (sym (get_or_append_left keys (y ∷ []) None j (omega arith)) ∙ e))

split_last : (j n : ℕ) → j < n + 1 → (j < n) ⊎ (j ≡ n)
split_last j n h = grind arith

-- the last one stays so where another key is put behind
last_other : (keys : List (Option ℕ)) (y : Option ℕ) (key : ℕ) (o : Option ℕ) → y ≢ Some key → IsLastBelow keys key (length keys) o → IsLastBelow (keys ++ y ∷ []) key (length (keys ++ y ∷ [])) o
last_other keys y key None other h = λ j l e.
    elim (split_last j (length keys) (omega (arith, length_push keys y))) [
      | inl below ↦ h j below (sym (get_or_append_left keys (y ∷ []) None j below) ∙ e)
      | inr at ↦ other (sym (get_or_push keys y None j (sym at)) ∙ e)
    ]
last_other keys y key (Some i) other (l, is, past) = (
  omega (arith, length_push keys y),
  get_or_append_left keys (y ∷ []) None i l ∙ is,
  λ j above below e.
      elim (split_last j (length keys) (omega (arith, length_push keys y))) [
        | inl less ↦ past j above less (sym (get_or_append_left keys (y ∷ []) None j less) ∙ e)
        | inr at ↦ other (sym (get_or_push keys y None j (sym at)) ∙ e)
      ],
)

-- the one put behind is the last with its key
last_new : (keys : List (Option ℕ)) (key : ℕ) → IsLastBelow (keys ++ Some key ∷ []) key (length (keys ++ Some key ∷ [])) (Some (length keys))
last_new keys key = (omega (arith, length_push keys (Some key)), get_or_push keys (Some key) None (length keys) refl, λ j above below. absurd (omega (arith, length_push keys (Some key))))

-- a link to a number before is told, and one to itself is none
linked_before : (n link : ℕ) → link < n → linked n link ≡ Some link
linked_before n link h = ap (λ (b : Bool). cond b (Some link) None) (lt-ltb link n h)

linked_itself : (n link : ℕ) → n ≤ link → linked n link ≡ None
linked_itself n link h = ap (λ (b : Bool). cond b (Some link) None) (le-ltb link n h)

split_at : (a b : ℕ) → (a < b) ⊎ (b ≤ a)
split_at a b = grind arith

-- a head is a link of the next number
linked_head : (keys : List (Option ℕ)) (key n head : ℕ) → n ≤ no_number → IsLastBelow keys key n (linked no_number head) → linked n head ≡ linked no_number head
linked_head keys key n head few h = elim (split_at head no_number) [
  | inl below ↦
      let is : linked no_number head ≡ Some head = linked_before no_number head below in
      let last : IsLastBelow keys key n (Some head) = subst (IsLastBelow keys key n) is h in
      linked_before n head last.0 ∙ sym is
  | inr beyond ↦ linked_itself n head (omega (arith, few, beyond)) ∙ sym (linked_itself no_number head beyond)
]

-- no number yet
pub chains_none : (n : ℕ) → AreChains (replicate n OPEN) [] []
chains_none n = record {
  long = refl;
  last = λ key l. subst (IsLastBelow [] key 0) (sym (ap (linked no_number) (get_or-replicate n key OPEN 0 (omega (arith, l, length-replicate n OPEN))) ∙ linked_itself no_number OPEN (omega arith))) (λ j h. absurd (omega arith));
  before = λ m key l. absurd (omega arith);
}

-- no number has an open key
pub last_open : (heads links : List ℕ) (keys : List (Option ℕ)) (key : ℕ) → AreChains heads links keys → key < length heads → IsOpen heads key → IsLastBelow keys key (length keys) None
last_open heads links keys key are inside is =
    subst (IsLastBelow keys key (length keys)) (ap (linked no_number) is ∙ linked_itself no_number OPEN (omega arith)) (are.last key inside)

-- an open key is closed
pub chains_close : (heads links : List ℕ) (keys : List (Option ℕ)) (key : ℕ) → IsOpen heads key → key < length heads → AreChains heads links keys → AreChains (set heads key no_number) links keys
chains_close heads links keys key is inside are = record { long = are.long; last = last; before = are.before }
  where
    last : (other : ℕ) → other < length (set heads key no_number) → IsLastBelow keys other (length keys) (linked no_number (get_or (set heads key no_number) other 0))
    last other l = elim (cases_eq other key) [
      | inl same ↦ subst (λ (k : ℕ). IsLastBelow keys k (length keys) (linked no_number (get_or (set heads key no_number) k 0))) (sym same)
          (subst (IsLastBelow keys key (length keys)) (sym (ap (linked no_number) (get_or-set_same heads key no_number 0 inside) ∙ linked_itself no_number no_number (omega arith))) (last_open heads links keys key are inside is))
      | inr different ↦ subst (IsLastBelow keys other (length keys)) (sym (ap (linked no_number) (get_or-set_other heads key other no_number 0 different))) (are.last other (omega (arith, simp length-set at l)))
    ]

-- a head is never set to that of open keys
pub opens_none : (heads : List ℕ) (key head : ℕ) → head ≤ no_number → key < length heads → OpensNone heads (set heads key head)
opens_none heads key head few inside other is = elim (cases_eq other key) [
  | inl same ↦ absurd (let now : get_or (set heads key head) other 0 ≡ head = ap (λ (k : ℕ). get_or (set heads key head) k 0) same ∙ get_or-set_same heads key head 0 inside in omega (arith, now, is, few))
  | inr different ↦ sym (get_or-set_other heads key other head 0 different) ∙ is
]

module _ (heads : List ℕ) (links : List ℕ) (keys : List (Option ℕ)) (are : AreChains heads links keys) (y : Option ℕ) (link : ℕ) where
  before_push : ((key : ℕ) → y ≡ Some key → IsLastBelow keys key (length keys) (linked (length keys) link)) → (n key : ℕ) → n < length (keys ++ y ∷ []) → get_or (keys ++ y ∷ []) n None ≡ Some key → IsLastBelow (keys ++ y ∷ []) key n (linked n (get_or (links ++ link ∷ []) n 0))
  before_push new n key l e = elim (split_last n (length keys) (omega (arith, length_push keys y))) [ inl less ↦ old less | inr at ↦ here at ]
    where
      old : n < length keys → IsLastBelow (keys ++ y ∷ []) key n (linked n (get_or (links ++ link ∷ []) n 0))
      old less =
          let long : length links ≡ length keys = are.long in
          let same : get_or (links ++ link ∷ []) n 0 ≡ get_or links n 0 = get_or_append_left links (link ∷ []) 0 n (omega arith) in
          let was : IsLastBelow keys key n (linked n (get_or links n 0)) = are.before n key less (sym (get_or_append_left keys (y ∷ []) None n less) ∙ e) in
          subst (λ (k : ℕ). IsLastBelow (keys ++ y ∷ []) key n (linked n k)) (sym same) (below_push keys y key n (linked n (get_or links n 0)) (omega arith) was)

      here : n ≡ length keys → IsLastBelow (keys ++ y ∷ []) key n (linked n (get_or (links ++ link ∷ []) n 0))
      here at =
          let long : length links ≡ length keys = are.long in
          let is : get_or (links ++ link ∷ []) n 0 ≡ link = get_or_push links link 0 n (omega arith) in
          let key_is : y ≡ Some key = sym (get_or_push keys y None n (sym at)) ∙ e in
          let now : IsLastBelow keys key n (linked n link) = subst (λ (k : ℕ). IsLastBelow keys key k (linked k link)) (sym at) (new key key_is) in
          subst (λ (k : ℕ). IsLastBelow (keys ++ y ∷ []) key n (linked n k)) (sym is) (below_push keys y key n (linked n link) (omega arith) now)

  long_push : length (links ++ link ∷ []) ≡ length (keys ++ y ∷ [])
  long_push = omega (arith, length_push links link, length_push keys y, are.long)

-- a number with a key
pub chains_add : (heads links : List ℕ) (keys : List (Option ℕ)) (key n : ℕ) → n ≡ length links → n < no_number → key < length heads → AreChains heads links keys → AreChains (set heads key n) (links ++ get_or heads key 0 ∷ []) (keys ++ Some key ∷ [])
chains_add heads links keys key n is few inside are = record {
  long = long_push heads links keys are (Some key) link;
  last = last;
  before = before_push heads links keys are (Some key) link before;
}
  where
    link : ℕ
    link = get_or heads key 0

    at : n ≡ length keys
    at = is ∙ are.long

    last : (other : ℕ) → other < length (set heads key n) → IsLastBelow (keys ++ Some key ∷ []) other (length (keys ++ Some key ∷ [])) (linked no_number (get_or (set heads key n) other 0))
    last other l = elim (cases_eq other key) [
      | inl same ↦ subst (λ (k : ℕ). IsLastBelow (keys ++ Some key ∷ []) k (length (keys ++ Some key ∷ [])) (linked no_number (get_or (set heads key n) k 0))) (sym same)
          (subst (IsLastBelow (keys ++ Some key ∷ []) key (length (keys ++ Some key ∷ []))) (sym (ap (linked no_number) (get_or-set_same heads key n 0 inside) ∙ (linked_before no_number n few ∙ ap Some at))) (last_new keys key))
      | inr different ↦ subst (IsLastBelow (keys ++ Some key ∷ []) other (length (keys ++ Some key ∷ []))) (sym (ap (linked no_number) (get_or-set_other heads key other n 0 different)))
          (last_other keys (Some key) other (linked no_number (get_or heads other 0)) (λ e. different (let z : other ≡ key = cc in z)) (are.last other (omega (arith, simp length-set at l))))
    ]

    before : (k : ℕ) → Some key ≡ Some k → IsLastBelow keys k (length keys) (linked (length keys) link)
    before k e =
        let same : key ≡ k = cc in
        let old : IsLastBelow keys key (length keys) (linked no_number link) = are.last key inside in
        let told : linked (length keys) link ≡ linked no_number link = linked_head keys key (length keys) link (omega (arith, few, at)) old in
        subst (λ (j : ℕ). IsLastBelow keys j (length keys) (linked (length keys) link)) same (subst (IsLastBelow keys key (length keys)) (sym told) old)
