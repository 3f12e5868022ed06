-- Edges that stay are moved to the front of their list.
use Rattle.std.proofs.Common.{◌≡◌, ℕ, ◌+◌, ◌-◌, ◌<◌, ◌≤◌, ◌⊎◌, inl, inr, Bool, true, false, cond, List, [], ◌∷◌, ◌++◌, drop, filter, get_or, length, set, take, sym, ap, ◌∙◌, subst, arith, length-drop}
use Rattle.std.specs.Prelude.{slice_index, slice_range}
use Rattle.std.proofs.lemmas.List.{append_assoc, append-nil, drop-drop, drop-set-lt, get_or-drop, get_or-take, get_or_append_left, get_or_push, get_or_read, length-take-le, take_more, take_more_set}
use Rattle.std.proofs.lemmas.List.Elements.{filter-append}
use Rattle.std.proofs.lemmas.Grind.{drop_more_same}
use Rattle.machine_defs.specs.declared.flow.Edge.{Edge}
use Rattle.return_search.specs.declared.searched_flow.Flow.{Flow}
use Rattle.return_search.specs.Told.{edges_from, start_of}
use Rattle.return_search.specs.Shape.{HasShape, points_of}
use Rattle.return_search.specs.Stays.{AreKept, stays}
use Rattle.return_search.proofs.Keeping.{kept_more, kept_none, kept_part}

-- what stands behind is read as before
pub same_at : {X : Type 0} (xs ys : List X) (i : ℕ) (d : X) → drop i xs ≡ drop i ys → get_or xs i d ≡ get_or ys i d
same_at {X = X} xs ys i d same =
    let here : i + 0 ≡ i = omega arith in
    sym (get_or-drop i xs 0 d ∙ ap (λ (k : ℕ). get_or xs k d) here) ∙ (ap (λ (zs : List X). get_or zs 0 d) same ∙ (get_or-drop i ys 0 d ∙ ap (λ (k : ℕ). get_or ys k d) here))

pub same_behind : {X : Type 0} (xs ys : List X) (i n : ℕ) → i ≤ n → drop i xs ≡ drop i ys → drop n xs ≡ drop n ys
same_behind {X = X} xs ys i n ordered same =
    let there : i + (n - i) ≡ n = omega arith in
    subst (λ (k : ℕ). drop k xs ≡ drop k ys) there (sym (drop-drop (n - i) i xs) ∙ (ap (λ (zs : List X). drop (n - i) zs) same ∙ drop-drop (n - i) i ys))

module _ {X : Type 0} (p : X → Bool) (old now : List X) (from i : ℕ) (e d : X) (ordered : from ≤ i) (inside : i < length old) (read : e ≡ get_or old i d) where
  abbrev part : ℕ → List X
  part k = take (k - from) (drop from old)

  part_more : part (i + 1) ≡ part i ++ e ∷ []
  part_more =
      let next : i + 1 - from ≡ i - from + 1 = omega arith in
      let there : from + (i - from) ≡ i = omega arith in
      ap (λ (k : ℕ). take k (drop from old)) next
      ∙ (take_more (drop from old) (i - from) d (omega (arith, length-drop from old))
      ∙ ap (λ (x : X). part i ++ x ∷ []) (get_or-drop from old (i - from) d ∙ (ap (λ (k : ℕ). get_or old k d) there ∙ sym read)))

  filter_more : (b : Bool) → p e ≡ b → filter p (part (i + 1)) ≡ filter p (part i) ++ cond b (e ∷ []) []
  filter_more b is = ap (filter p) part_more ∙ (filter-append p (part i) (e ∷ []) ∙ ap (λ (c : Bool). filter p (part i) ++ cond c (e ∷ []) []) is)

  -- one that stays
  pub kept_one : (kept end : ℕ) → end ≤ i → length now ≡ length old → p e ≡ true → take end now ≡ take kept old ++ filter p (part i) → take (end + 1) (set now end e) ≡ take kept old ++ filter p (part (i + 1))
  kept_one kept end short long is so_far =
      take_more_set now end e (omega (arith, inside, short, long))
      ∙ (ap (λ (xs : List X). xs ++ e ∷ []) so_far
      ∙ (append_assoc (take kept old) (filter p (part i)) (e ∷ []) ∙ ap (λ (xs : List X). take kept old ++ xs) (sym (filter_more true is))))

  pub rest_one : (end : ℕ) → end ≤ i → drop i now ≡ drop i old → drop (i + 1) (set now end e) ≡ drop (i + 1) old
  rest_one end short so_far = drop-set-lt (i + 1) now end e (omega (arith, short)) ∙ drop_more_same now old i so_far

  -- one that doesn't
  pub dropped_one : (kept end : ℕ) → p e ≡ false → take end now ≡ take kept old ++ filter p (part i) → take end now ≡ take kept old ++ filter p (part (i + 1))
  dropped_one kept end is so_far = so_far ∙ ap (λ (xs : List X). take kept old ++ xs) (sym (filter_more false is ∙ append-nil (filter p (part i))))

-- those of the first points, which all come back, are kept as they are
pub first_kept : (flow : Flow) → HasShape flow → (comes_back : ℕ → Bool) (n : ℕ) → n ≤ points_of flow → ((q : ℕ) → 0 ≤ q → q < n → comes_back q ≡ true) → AreKept flow comes_back (take (n + 1) flow.starts.items) (take (start_of flow n) flow.edges.items) n
first_kept flow shape comes_back n inside back =
    let starts = flow.starts.items in
    let room : n + 1 ≤ length starts = omega (arith, inside, shape.starts) in
    let at : (k : ℕ) → k ≤ n → get_or (take (n + 1) starts) k 0 ≡ start_of flow k = λ k l. get_or-take (n + 1) starts k 0 (omega arith) in
    let whole : start_of flow n - 0 ≡ start_of flow n = omega arith in
    let part : slice_range flow.edges.items (start_of flow 0) (start_of flow n) ≡ take (start_of flow n) flow.edges.items = ap (λ (k : ℕ). slice_range flow.edges.items k (start_of flow n)) shape.first ∙ ap (λ (k : ℕ). take k flow.edges.items) whole in
    subst (λ (es : List Edge). AreKept flow comes_back (take (n + 1) starts) es n) part
    (kept_part flow shape comes_back (0 ∷ []) [] 0 (kept_none flow comes_back) n (omega arith) inside back (take (n + 1) starts) (length-take-le (n + 1) starts room)
    (λ k l. let zero : k ≡ 0 = omega arith in subst (λ (j : ℕ). get_or (take (n + 1) starts) j 0 ≡ get_or (0 ∷ []) j 0) (sym zero) (at 0 (omega arith) ∙ shape.first))
    (λ k from l. omega (arith, at k l, shape.first)))

-- where the edges of a point further on begin is what it was
pub start_at : (flow : Flow) → HasShape flow → (starts : List ℕ) (q k n : ℕ) → length starts ≡ length flow.starts.items → ((j : ℕ) → q < j → slice_index starts j ≡ start_of flow j) → q < k → k ≤ points_of flow → n ≡ get_or starts k n → n ≡ start_of flow k
start_at flow shape starts q k n long same behind inside read = get_or_read starts k n (omega (arith, long, shape.starts, inside)) read 0 ∙ same k behind

-- the edges of one point more, and of those behind it that come back
module _ (flow : Flow) (shape : HasShape flow) (comes_back : ℕ → Bool) (starts less : List ℕ) (edges own moved : List Edge) (q n kept from to until end : ℕ) (inside : q < points_of flow) (kept_so_far : AreKept flow comes_back (take (q + 1) starts) (take kept edges) q) where
  abbrev new : List Edge
  new = filter (λ e. stays (comes_back q) e.kind) (edges_from flow q)

  abbrev all : List Edge
  all = take kept edges ++ new

  pub points_kept : length starts ≡ length flow.starts.items → from ≡ start_of flow q → to ≡ start_of flow (q + 1) → until ≡ start_of flow n → drop from edges ≡ drop from flow.edges.items
      → take end own ≡ take kept edges ++ filter (λ e. stays (comes_back q) e.kind) (slice_range edges from to) → end ≤ to → end ≤ length own → drop to own ≡ drop to edges
      → from ≤ to → q + 1 ≤ n → n ≤ points_of flow → ((k : ℕ) → q + 1 ≤ k → k < n → comes_back k ≡ true)
      → take (end + (until - to)) moved ≡ take end own ++ slice_range own to until
      → length less ≡ length starts → ((k : ℕ) → k < q + 1 → slice_index less k ≡ slice_index starts k) → ((k : ℕ) → q + 1 ≤ k → k < n + 1 → slice_index less k + (to - end) ≡ slice_index starts k) → ((k : ℕ) → q < k → slice_index starts k ≡ start_of flow k)
      → AreKept flow comes_back (take (n + 1) less) (take (end + (until - to)) moved) n
  points_kept long starts_at ends_at until_at rest is short within behind ordered later last back moves long_less before lessened later_starts =
      subst (λ (es : List Edge). AreKept flow comes_back (take (n + 1) less) es n) (sym moved_is)
      (kept_part flow shape comes_back (take (q + 1) starts ++ length all ∷ []) all (q + 1) (kept_more flow shape comes_back (take (q + 1) starts) (take kept edges) q inside kept_so_far) n later last back (take (n + 1) less) (length-take-le (n + 1) less room) same shifted)
    where
      range : slice_range edges from to ≡ edges_from flow q
      range = ap (take (to - from)) rest ∙ (ap (λ (a : ℕ). slice_range flow.edges.items a to) starts_at ∙ ap (λ (b : ℕ). slice_range flow.edges.items (start_of flow q) b) ends_at)

      now : take end own ≡ all
      now = is ∙ ap (λ (es : List Edge). take kept edges ++ filter (λ e. stays (comes_back q) e.kind) es) range

      count : end ≡ length all
      count = sym (length-take-le end own within) ∙ ap length now

      untouched : drop to own ≡ drop to flow.edges.items
      untouched = behind ∙ same_behind edges flow.edges.items from to ordered rest

      part : slice_range own to until ≡ slice_range flow.edges.items (start_of flow (q + 1)) (start_of flow n)
      part = ap (take (until - to)) untouched ∙ (ap (λ (a : ℕ). slice_range flow.edges.items a until) ends_at ∙ ap (λ (b : ℕ). slice_range flow.edges.items (start_of flow (q + 1)) b) until_at)

      moved_is : take (end + (until - to)) moved ≡ all ++ slice_range flow.edges.items (start_of flow (q + 1)) (start_of flow n)
      moved_is = moves ∙ (ap (λ (es : List Edge). es ++ slice_range own to until) now ∙ ap (λ (es : List Edge). all ++ es) part)

      room : n + 1 ≤ length less
      room = omega (arith, long_less, long, shape.starts, last)

      at : (k : ℕ) → k ≤ n → slice_index (take (n + 1) less) k ≡ slice_index less k
      at k l = get_or-take (n + 1) less k 0 (omega arith)

      split : (k : ℕ) → k ≤ q + 1 → (k < q + 1) ⊎ (k ≡ q + 1)
      split k l = grind arith

      shifted : (k : ℕ) → q + 1 ≤ k → k ≤ n → slice_index (take (n + 1) less) k + start_of flow (q + 1) ≡ start_of flow k + length all
      shifted k beyond l = omega (arith, at k l, lessened k beyond (omega arith), later_starts k (omega arith), ends_at, count, short)

      long_starts : length (take (q + 1) starts) ≡ q + 1
      long_starts = length-take-le (q + 1) starts (omega (arith, long, shape.starts, inside))

      same : (k : ℕ) → k ≤ q + 1 → slice_index (take (n + 1) less) k ≡ slice_index (take (q + 1) starts ++ length all ∷ []) k
      same k l = elim (split k l) [
        | inl below ↦ at k (omega (arith, later)) ∙ (before k below ∙ (sym (get_or-take (q + 1) starts k 0 below) ∙ sym (get_or_append_left (take (q + 1) starts) (length all ∷ []) 0 k (omega (arith, long_starts)))))
        | inr here ↦
            let start : slice_index (take (n + 1) less) k ≡ length all = omega (arith, shifted k (omega arith) (omega (arith, later)), ap (start_of flow) here) in
            start ∙ sym (get_or_push (take (q + 1) starts) (length all) 0 k (omega (arith, long_starts)))
      ]
