-- Turns that name the one before, and the turns up to each of them.
use Rattle.std.proofs.Common.{◌≡◌, ◌≢◌, ℕ, zero, suc, ◌+◌, ◌<◌, ◌≤◌, ◌^◌, ◌⊎◌, inl, inr, List, [], ◌∷◌, ◌++◌, Option, Some, None, fold, length, map, replicate, reverse, take, get_or, set, slice_get, refl, ap, sym, ◌∙◌, subst, arith, length-append, length-set, get_or-set_same, get_or-set_other}
use Rattle.std.specs.Prelude.{sum_by}
use Rattle.std.proofs.lemmas.List.{get_or-map, length-map, get_or_past, map-set, ext_get_or, get_or_default, get_or-replicate, length-replicate, append_assoc, reverse-append, take_all, take-append-le}
use Rattle.std.proofs.Math.ListN.{get_or-append}
use Rattle.std.proofs.lemmas.List.Sums.{fold-append, sum_by-cons, sum_by-set}
use Rattle.std.proofs.lemmas.Option.{slice_get-get_or, slice_get_within, get_or_from_slice_get}
use Rattle.std.proofs.Math.Seq.{get_or-append_seam}
use Rattle.state_ways.specs.declared.steps.WayStep.{WayStep}
use Rattle.state_ways.specs.declared.steps.WayKind.TheVariants.{Next}
use Rattle.state_ways.specs.declared.ways.Turn.{Turn}
use Rattle.state_ways.specs.Turns.{AreInOrder, AreTurns, chain_at, chains_of, is_vacant, nowhere, up_to, with_turn}
use Rattle.state_ways.specs.Ways.{turns_at}

-- one turn more
chain_more : (turns : List Turn) (t : Turn) → chains_of (turns ++ t ∷ []) ≡ with_turn (chains_of turns) t
chain_more turns t = fold-append with_turn [] turns (t ∷ [])

length_from : (chains : List (List WayStep)) (turns : List Turn) → length (fold with_turn chains turns) ≡ length chains + length turns
length_from chains [] = omega arith
length_from chains (t ∷ turns) =
    let k : length (with_turn chains t) ≡ length chains + 1 = length-append chains ((up_to chains t.before ++ t.step ∷ []) ∷ []) in
    let l : length (fold with_turn (with_turn chains t) turns) ≡ length (with_turn chains t) + length turns = length_from (with_turn chains t) turns in
    omega (arith, k, l)

pub length_chains : (turns : List Turn) → length (chains_of turns) ≡ length turns
length_chains turns = let l : length (chains_of turns) ≡ 0 + length turns = length_from [] turns in omega (arith, l)

-- what is there stays
stays_from : (chains : List (List WayStep)) (turns : List Turn) (i : ℕ) → i < length chains → get_or (fold with_turn chains turns) i [] ≡ get_or chains i []
stays_from chains [] i h = refl
stays_from chains (t ∷ turns) i h =
    let k : length (with_turn chains t) ≡ length chains + 1 = length-append chains ((up_to chains t.before ++ t.step ∷ []) ∷ []) in
    stays_from (with_turn chains t) turns i (omega (arith, k, h)) ∙ get_or-append chains ((up_to chains t.before ++ t.step ∷ []) ∷ []) [] i h

up_to_same : (one other : List (List WayStep)) (before : Option ℕ) (n : ℕ) → ((j : ℕ) → before ≡ Some j → j < n) → ((j : ℕ) → j < n → get_or one j [] ≡ get_or other j []) → up_to one before ≡ up_to other before
up_to_same one other None n falls same = refl
up_to_same one other (Some j) n falls same = same j (falls j refl)

chain_from : (chains : List (List WayStep)) (turns : List Turn) (k : ℕ) (t : Turn) → slice_get turns k ≡ Some t → ((j : ℕ) → t.before ≡ Some j → j < length chains + k) → get_or (fold with_turn chains turns) (length chains + k) [] ≡ up_to (fold with_turn chains turns) t.before ++ t.step ∷ []
chain_from chains [] k t e falls = absurd (let l : k < 0 = slice_get_within [] k t e in omega (arith, l))
chain_from chains (x ∷ turns) zero t e falls =
    let same : x ≡ t = cc in
    let n : length chains + 0 ≡ length chains = omega arith in
    let more : length (with_turn chains x) ≡ length chains + 1 = length-append chains ((up_to chains x.before ++ x.step ∷ []) ∷ []) in
    let here : get_or (fold with_turn (with_turn chains x) turns) (length chains) [] ≡ up_to chains x.before ++ x.step ∷ [] = stays_from (with_turn chains x) turns (length chains) (omega (arith, more)) ∙ get_or-append_seam chains (up_to chains x.before ++ x.step ∷ []) [] [] in
    let old : up_to chains t.before ≡ up_to (fold with_turn (with_turn chains x) turns) t.before =
    up_to_same chains (fold with_turn (with_turn chains x) turns) t.before (length chains) (λ j b. let l : j < length chains + 0 = falls j b in omega (arith, l)) (λ j l. sym (stays_from chains (x ∷ turns) j l)) in
    ap (λ (m : ℕ). get_or (fold with_turn (with_turn chains x) turns) m []) n ∙ (here ∙ (ap (λ (y : Turn). up_to chains y.before ++ y.step ∷ []) same ∙ ap (λ (w : List WayStep). w ++ t.step ∷ []) old))
chain_from chains (x ∷ turns) (suc k) t e falls =
    let more : length (with_turn chains x) ≡ length chains + 1 = length-append chains ((up_to chains x.before ++ x.step ∷ []) ∷ []) in
    let n : length chains + suc k ≡ length (with_turn chains x) + k = omega (arith, more) in
    ap (λ (m : ℕ). get_or (fold with_turn (with_turn chains x) turns) m []) n
    ∙ chain_from (with_turn chains x) turns k t e (λ j b. let l : j < length chains + suc k = falls j b in omega (arith, l, more))

-- the turns up to one are those up to the one before it, and itself
pub chain_is : (turns : List Turn) (i : ℕ) (t : Turn) → slice_get turns i ≡ Some t → ((j : ℕ) → t.before ≡ Some j → j < i) → chain_at (chains_of turns) i ≡ up_to (chains_of turns) t.before ++ t.step ∷ []
chain_is turns i t e falls =
    let n : i ≡ 0 + i = omega arith in
    ap (λ (m : ℕ). get_or (chains_of turns) m []) n ∙ chain_from [] turns i t e (λ j b. let l : j < i = falls j b in omega (arith, l))

not_empty : (xs : List WayStep) (x : WayStep) → xs ++ x ∷ [] ≢ []
not_empty [] x e = (let k : ⊥ = cc in k)
not_empty (y ∷ xs) x e = (let k : ⊥ = cc in k)

within : (q n : ℕ) → (q < n) ⊎ (n ≤ q)
within q n = grind arith

same_or_not : (q r : ℕ) → (r ≡ q) ⊎ (r ≢ q)
same_or_not q r = grind arith

vacant_one : (i : ℕ) → i ≡ nowhere → is_vacant i ≡ 1
vacant_one i e = rw e refl

vacant_few : (i : ℕ) → is_vacant i ≤ 1
vacant_few i = grind arith

vacant_none : (i : ℕ) → i ≢ nowhere → is_vacant i ≡ 0
vacant_none i ne = grind arith

few_by : (f : ℕ → ℕ) → ((i : ℕ) → f i ≤ 1) → (xs : List ℕ) → sum_by f xs ≤ length xs
few_by f few [] = omega arith
few_by f few (x ∷ xs) =
    let k : sum_by f xs ≤ length xs = few_by f few xs in
    let l : f x ≤ 1 = few x in
    let m : sum_by f (x ∷ xs) ≡ f x + sum_by f xs = sum_by-cons f x xs in
    omega (arith, k, l, m)

few_vacant : (last : List ℕ) → sum_by is_vacant last ≤ length last
few_vacant last = few_by is_vacant vacant_few last

module _ (last : List ℕ) (turns : List Turn) (are : AreTurns last turns) where
  abbrev view : List (List WayStep)
  view = map (chain_at (chains_of turns)) last

  pub view_at : (q : ℕ) → q < length last → turns_at view q ≡ chain_at (chains_of turns) (get_or last q 0)
  view_at q h = get_or-map (chain_at (chains_of turns)) last q 0 [] h

  pub point_inside : (q : ℕ) → q < length view → q < length last
  point_inside q h = subst (λ (n : ℕ). q < n) (length-map last (chain_at (chains_of turns))) h

  few_turns : length turns ≤ nowhere
  few_turns = omega (arith, are.counted, are.few)

  pub hidden : (q : ℕ) → q < length last → get_or last q 0 ≡ nowhere → turns_at view q ≡ []
  hidden q h e =
      let l : length (chains_of turns) ≡ length turns = length_chains turns in
      view_at q h ∙ (ap (chain_at (chains_of turns)) e ∙ get_or_past (chains_of turns) nowhere [] (omega (arith, l, few_turns)))

  pub named_of : (q : ℕ) → q < length last → get_or last q 0 ≢ nowhere → get_or last q 0 < length turns
  named_of q h ne = elim (are.named q 0 h) [ inl e ↦ absurd (ne e) | inr l ↦ l ]

  pub shown : (q : ℕ) → q < length last → get_or last q 0 ≢ nowhere → turns_at view q ≢ []
  shown q h ne e =
      let l : get_or last q 0 < length turns = named_of q h ne in
      let t : Turn = get_or turns (get_or last q 0) (record { step = record { point = 0; kind = Next }; before = None }) in
      let f : slice_get turns (get_or last q 0) ≡ Some t = slice_get-get_or turns (get_or last q 0) _ l in
      not_empty (up_to (chains_of turns) t.before) t.step (sym (chain_is turns (get_or last q 0) t f (λ j b. are.before (get_or last q 0) j t f b)) ∙ (sym (view_at q h) ∙ e))

  pub vacant_at : (q : ℕ) → q < length last → turns_at view q ≡ [] → get_or last q 0 ≡ nowhere
  vacant_at q h e = elim (same_or_not nowhere (get_or last q 0)) [ inl s ↦ s | inr ne ↦ absurd (shown q h ne e) ]

  module _ (q : ℕ) (h : q < length last) (e : get_or last q 0 ≡ nowhere) where
    -- there is a number for one turn more
    pub room : length turns < length last
    room =
        let k : sum_by is_vacant (set last q 0) + is_vacant (get_or last q 0) ≡ sum_by is_vacant last + 0 = sum_by-set is_vacant last q 0 0 h in
        let v : is_vacant (get_or last q 0) ≡ 1 = vacant_one (get_or last q 0) e in
        omega (arith, k, v, are.counted)

    -- a point names a turn that there is
    pub turns_passed : (last_turn : ℕ) → (last_turn ≡ nowhere) ⊎ (last_turn < length turns) → AreTurns (set last q last_turn) turns
    turns_passed n named = record {
      few = rw length-set are.few;
      counted =
          (let k : sum_by is_vacant (set last q n) + is_vacant (get_or last q 0) ≡ sum_by is_vacant last + is_vacant n = sum_by-set is_vacant last q n 0 h in
          let v : is_vacant (get_or last q 0) ≡ 1 = vacant_one (get_or last q 0) e in
          let w : is_vacant n ≤ 1 = vacant_few n in
          let l : length (set last q n) ≡ length last = length-set last q n in
          omega (arith, k, v, w, l, are.counted));
      named = λ k d l. at_point n named k d (subst (λ (m : ℕ). k < m) (length-set last q n) l);
      before = are.before;
    }
      where
        at_point : (n : ℕ) → (n ≡ nowhere) ⊎ (n < length turns) → (k d : ℕ) → k < length last → (get_or (set last q n) k d ≡ nowhere) ⊎ (get_or (set last q n) k d < length turns)
        at_point n named k d l = elim (same_or_not q k) [
          | inl s ↦ subst (λ (i : ℕ). (i ≡ nowhere) ⊎ (i < length turns)) (sym (ap (λ (m : ℕ). get_or (set last q n) m d) s ∙ get_or-set_same last q n d h)) named
          | inr ne ↦ subst (λ (i : ℕ). (i ≡ nowhere) ⊎ (i < length turns)) (sym (get_or-set_other last q k n d ne)) (are.named k d l)
        ]

    -- there is one turn more, and the point names it
    pub turns_more : (t : Turn) → ((j : ℕ) → t.before ≡ Some j → j < length turns) → AreTurns (set last q (length turns)) (turns ++ t ∷ [])
    turns_more t falls = record {
      few = rw length-set are.few;
      counted =
          (let k : sum_by is_vacant (set last q (length turns)) + is_vacant (get_or last q 0) ≡ sum_by is_vacant last + is_vacant (length turns) = sum_by-set is_vacant last q (length turns) 0 h in
          let v : is_vacant (get_or last q 0) ≡ 1 = vacant_one (get_or last q 0) e in
          let w : is_vacant (length turns) ≡ 0 = vacant_none (length turns) (λ s. let r : length turns < length last = room in omega (arith, s, r, are.few)) in
          let l : length (set last q (length turns)) ≡ length last = length-set last q (length turns) in
          let m : length (turns ++ t ∷ []) ≡ length turns + 1 = length-append turns (t ∷ []) in
          omega (arith, k, v, w, l, m, are.counted));
      named = λ k d l. at_point k d (subst (λ (m : ℕ). k < m) (length-set last q (length turns)) l);
      before = λ i j x f b. falls_at i j x f b (within i (length turns));
    }
      where
        more : length (turns ++ t ∷ []) ≡ length turns + 1
        more = length-append turns (t ∷ [])

        at_point : (k d : ℕ) → k < length last → (get_or (set last q (length turns)) k d ≡ nowhere) ⊎ (get_or (set last q (length turns)) k d < length (turns ++ t ∷ []))
        at_point k d l = elim (same_or_not q k) [
          | inl s ↦ inr (let g : get_or (set last q (length turns)) k d ≡ length turns = ap (λ (m : ℕ). get_or (set last q (length turns)) m d) s ∙ get_or-set_same last q (length turns) d h in omega (arith, g, more))
          | inr ne ↦ (let g : get_or (set last q (length turns)) k d ≡ get_or last k d = get_or-set_other last q k (length turns) d ne in elim (are.named k d l) [ inl n ↦ inl (g ∙ n) | inr m ↦ inr (omega (arith, g, m, more)) ])
        ]

        falls_at : (i j : ℕ) (x : Turn) → slice_get (turns ++ t ∷ []) i ≡ Some x → x.before ≡ Some j → (i < length turns) ⊎ (length turns ≤ i) → j < i
        falls_at i j x f b (inl l) =
            let g : slice_get turns i ≡ Some (get_or turns i x) = slice_get-get_or turns i x l in
            let k : get_or turns i x ≡ x = sym (get_or-append turns (t ∷ []) x i l) ∙ get_or_from_slice_get (turns ++ t ∷ []) i x x f in
            are.before i j x (g ∙ ap Some k) b
        falls_at i j x f b (inr l) =
            let m : i < length (turns ++ t ∷ []) = slice_get_within (turns ++ t ∷ []) i x f in
            let s : i ≡ length turns = omega (arith, l, m, more) in
            let k : t ≡ x = sym (get_or-append_seam turns t [] x) ∙ (ap (λ (n : ℕ). get_or (turns ++ t ∷ []) n x) (sym s) ∙ get_or_from_slice_get (turns ++ t ∷ []) i x x f) in
            let c : t.before ≡ Some j = ap (λ (y : Turn). y.before) k ∙ b in
            let w : j < length turns = falls j c in
            omega (arith, w, s)

    -- what a list has of ways then
    pub view_passed : (r : ℕ) → r < length last → map (chain_at (chains_of turns)) (set last q (get_or last r 0)) ≡ set view q (turns_at view r)
    view_passed r l = map-set (chain_at (chains_of turns)) last q (get_or last r 0) ∙ ap (λ (w : List WayStep). set view q w) (sym (view_at r l))

    pub view_more : (t : Turn) → map (chain_at (chains_of (turns ++ t ∷ []))) (set last q (length turns)) ≡ set view q (up_to (chains_of turns) t.before ++ t.step ∷ [])
    view_more t = map-set (chain_at (chains_of (turns ++ t ∷ []))) last q (length turns) ∙ (ap (λ (xs : List (List WayStep)). set xs q (chain_at (chains_of (turns ++ t ∷ [])) (length turns))) olds ∙ ap (λ (w : List WayStep). set view q w) new)
      where
        long : length (chains_of turns) ≡ length turns
        long = length_chains turns

        own : List WayStep
        own = up_to (chains_of turns) t.before ++ t.step ∷ []

        new : chain_at (chains_of (turns ++ t ∷ [])) (length turns) ≡ up_to (chains_of turns) t.before ++ t.step ∷ []
        new = ap (λ (xs : List (List WayStep)). chain_at xs (length turns)) (chain_more turns t) ∙ (ap (λ (n : ℕ). get_or (with_turn (chains_of turns) t) n []) (sym long) ∙ get_or-append_seam (chains_of turns) (up_to (chains_of turns) t.before ++ t.step ∷ []) [] [])

        old_at : (i : ℕ) → (i ≡ nowhere) ⊎ (i < length turns) → chain_at (chains_of (turns ++ t ∷ [])) i ≡ chain_at (chains_of turns) i
        old_at i (inr l) = ap (λ (xs : List (List WayStep)). chain_at xs i) (chain_more turns t) ∙ get_or-append (chains_of turns) ((up_to (chains_of turns) t.before ++ t.step ∷ []) ∷ []) [] i (omega (arith, l, long))
        old_at i (inl s) =
            let r : length turns < length last = room in
            let m : length (chains_of (turns ++ t ∷ [])) ≡ length (turns ++ t ∷ []) = length_chains (turns ++ t ∷ []) in
            let a : length (turns ++ t ∷ []) ≡ length turns + 1 = length-append turns (t ∷ []) in
            get_or_past (chains_of (turns ++ t ∷ [])) i [] (omega (arith, s, r, m, a, are.few)) ∙ sym (get_or_past (chains_of turns) i [] (omega (arith, s, r, long, are.few)))

        olds : map (chain_at (chains_of (turns ++ t ∷ []))) last ≡ view
        olds = ext_get_or [] (map (chain_at (chains_of (turns ++ t ∷ []))) last) view (length-map last (chain_at (chains_of (turns ++ t ∷ []))) ∙ sym (length-map last (chain_at (chains_of turns)))) (λ k l. each k (subst (λ (m : ℕ). k < m) (length-map last (chain_at (chains_of (turns ++ t ∷ [])))) l))
          where
            each : (k : ℕ) → k < length last → get_or (map (chain_at (chains_of (turns ++ t ∷ []))) last) k [] ≡ get_or view k []
            each k l = get_or-map (chain_at (chains_of (turns ++ t ∷ []))) last k 0 [] l ∙ (old_at (get_or last k 0) (are.named k 0 l) ∙ sym (view_at k l))

-- what is read of a list of numbers
pub read_last : (last : List ℕ) (q x : ℕ) → q < length last → x ≡ get_or last q x → x ≡ get_or last q 0
read_last last q x h e = e ∙ get_or_default last q x 0 h

-- a point to which a way is noted names a turn
pub named_at : (last : List ℕ) (turns : List Turn) → AreTurns last turns → (q : ℕ) → q < length last → turns_at (map (chain_at (chains_of turns)) last) q ≢ [] → get_or last q 0 < length turns
named_at last turns are q h ne = named_of last turns are q h (λ e. ne (hidden last turns are q h e))

-- where no turn is named yet, no way is noted
pub none_noted : (points : ℕ) → map (chain_at (chains_of [])) (replicate points nowhere) ≡ replicate points []
none_noted zero = refl
none_noted (suc n) = ap (λ (xs : List (List WayStep)). [] ∷ xs) (none_noted n)

pub none_named : (points : ℕ) → points < 2 ^ 32 → AreTurns (replicate points nowhere) []
none_named points few = record {
  few = rw length-replicate few;
  counted = (let k : sum_by is_vacant (replicate points nowhere) ≤ length (replicate points nowhere) = few_vacant (replicate points nowhere) in omega (arith, k));
  named = λ k d l. inl (get_or-replicate points k nowhere d (subst (λ (n : ℕ). k < n) (length-replicate points nowhere) l));
  before = λ i j t e b. absurd (let l : i < 0 = slice_get_within [] i t e in omega (arith, l));
}

-- how many turns there may be up to one
abbrev pub turns_behind : Option ℕ → ℕ
turns_behind None = 0
turns_behind (Some i) = i + 1

-- one turn is pushed, and those up to the one before it are still to come
pub one_pushed : (turns : List Turn) → AreInOrder turns → (i : ℕ) (d : Turn) → i < length turns → (into all : List WayStep) → into ++ reverse (chain_at (chains_of turns) i) ≡ all → (into ++ (get_or turns i d).step ∷ []) ++ reverse (up_to (chains_of turns) (get_or turns i d).before) ≡ all
one_pushed turns order i d l into all h =
    let t : Turn = get_or turns i d in
    let f : slice_get turns i ≡ Some t = slice_get-get_or turns i d l in
    let e : chain_at (chains_of turns) i ≡ up_to (chains_of turns) t.before ++ t.step ∷ [] = chain_is turns i t f (λ j b. order i j t f b) in
    let r : reverse (up_to (chains_of turns) t.before ++ t.step ∷ []) ≡ (t.step ∷ []) ++ reverse (up_to (chains_of turns) t.before) = reverse-append (up_to (chains_of turns) t.before) (t.step ∷ []) in
    append_assoc into (t.step ∷ []) (reverse (up_to (chains_of turns) t.before)) ∙ (ap (λ (w : List WayStep). into ++ w) (sym (ap reverse e ∙ r)) ∙ h)

pub before_in : (turns : List Turn) → AreInOrder turns → (i j : ℕ) (d : Turn) → i < length turns → (get_or turns i d).before ≡ Some j → j < length turns
before_in turns order i j d l b = let k : j < i = order i j (get_or turns i d) (slice_get-get_or turns i d l) b in omega (arith, k, l)

-- what a list begins with stays
pub begins_so : (old xs more : List WayStep) → take (length old) xs ≡ old → take (length old) (xs ++ more) ≡ old
begins_so old xs more e = elim (within (length xs) (length old)) [
  | inr l ↦ take-append-le (length old) xs more l ∙ e
  | inl l ↦ (let k : length xs ≡ length old = ap length (sym (take_all (length old) xs (omega (arith, l))) ∙ e) in absurd (omega (arith, k, l)))
]
