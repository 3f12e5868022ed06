-- The edges that stay, point by point.
use Rattle.std.proofs.Common.{◌≡◌, ℕ, ◌+◌, ◌-◌, ◌^◌, ◌<◌, ◌≤◌, ◌⊎◌, inl, inr, Bool, true, if◌then◌else◌, List, [], ◌∷◌, ◌++◌, All, filter, length, drop, refl, sym, ap, ◌∙◌, subst, arith, length-append}
use Rattle.std.specs.Prelude.{slice_index, slice_range}
use Rattle.std.proofs.lemmas.List.{length_push, get_or_append_left, get_or_push}
use Rattle.std.proofs.lemmas.List.Elements.{All-append, All-filter, All-take, All-drop, All-nil}
use Rattle.std.proofs.lemmas.List.Sums.{length-filter, count_by-le-length}
use Rattle.machine_defs.specs.declared.flow.Edge.{Edge}
use Rattle.machine_defs.specs.declared.flow.EdgeKind.{EdgeKind}
use Rattle.machine_defs.specs.declared.flow.EdgeKind.TheVariants.{Next, Taken, Fixup, Table, Sibling}
use Rattle.return_search.specs.declared.searched_flow.Flow.{Flow}
use Rattle.return_search.specs.Told.{edges_from, start_of}
use Rattle.return_search.specs.Shape.{HasShape, points_of}
use Rattle.return_search.specs.Stays.{stays, AreKept}
use Rattle.return_search.proofs.Ranges.{ends_within, length_range, range_behind, range_new, range_of_range, range_push, starts_ascend}

-- of no point
pub kept_none : (flow : Flow) (comes_back : ℕ → Bool) → AreKept flow comes_back (0 ∷ []) [] 0
kept_none flow comes_back = record {
  long = omega arith;
  end = refl;
  short = omega arith;
  ascending = λ q l. absurd (omega arith);
  within = λ q l. absurd (omega arith);
  each = λ q l. absurd (omega arith);
  targets = All-nil (λ (e : Edge). e.to < points_of flow);
}

-- of one point more
module _ (flow : Flow) (shape : HasShape flow) (comes_back : ℕ → Bool) (starts : List ℕ) (edges : List Edge) (n : ℕ) (inside : n < points_of flow) (kept : AreKept flow comes_back starts edges n) where
  abbrev pub new : List Edge
  new = filter (λ e. stays (comes_back n) e.kind) (edges_from flow n)

  new_short : length new ≤ start_of flow (n + 1) - start_of flow n
  new_short =
      let a = length-filter (λ (e : Edge). stays (comes_back n) e.kind) (edges_from flow n) in
      let b = count_by-le-length (λ (e : Edge). stays (comes_back n) e.kind) (edges_from flow n) in
      let d = length_range flow.edges.items (start_of flow n) (start_of flow (n + 1)) (ends_within flow shape n inside) in
      omega (arith, a, b, d)

  pub kept_short : length (edges ++ new) ≤ start_of flow (n + 1)
  kept_short =
      let l = length-append edges new in
      let s : length edges ≤ start_of flow n = kept.short in
      omega (arith, l, s, new_short, shape.ascending n inside)

  pub kept_few : length (edges ++ new) < 2 ^ 32
  kept_few = omega (arith, kept_short, ends_within flow shape n inside, shape.few_edges)

  abbrev all_starts : List ℕ
  all_starts = starts ++ length (edges ++ new) ∷ []

  start_old : (q : ℕ) → q < n + 1 → slice_index all_starts q ≡ slice_index starts q
  start_old q l = get_or_append_left starts (length (edges ++ new) ∷ []) 0 q (omega (arith, kept.long))

  start_new : slice_index all_starts (n + 1) ≡ length (edges ++ new)
  start_new = get_or_push starts (length (edges ++ new)) 0 (n + 1) kept.long

  longer : length edges ≤ length (edges ++ new)
  longer = omega (arith, length-append edges new)

  split : (q : ℕ) → q < n + 1 → (q < n) ⊎ (q ≡ n)
  split q l = grind arith

  ascending : (q : ℕ) → q < n + 1 → slice_index all_starts q ≤ slice_index all_starts (q + 1)
  ascending q l = elim (split q l) [
    | inl less ↦ omega (arith, start_old q l, start_old (q + 1) (omega arith), kept.ascending q less)
    | inr same ↦ subst (λ (k : ℕ). slice_index all_starts k ≤ slice_index all_starts (k + 1)) (sym same) (omega (arith, start_old n (omega arith), start_new, kept.end, longer))
  ]

  within : (q : ℕ) → q < n + 1 → slice_index all_starts (q + 1) ≤ length (edges ++ new)
  within q l = elim (split q l) [
    | inl less ↦ omega (arith, start_old (q + 1) (omega arith), kept.within q less, longer)
    | inr same ↦ subst (λ (k : ℕ). slice_index all_starts (k + 1) ≤ length (edges ++ new)) (sym same) (omega (arith, start_new))
  ]

  range_old : (q : ℕ) → q < n → slice_range (edges ++ new) (slice_index all_starts q) (slice_index all_starts (q + 1)) ≡ slice_range edges (slice_index starts q) (slice_index starts (q + 1))
  range_old q l =
      ap (λ (a : ℕ). slice_range (edges ++ new) a (slice_index all_starts (q + 1))) (start_old q (omega arith))
      ∙ (ap (slice_range (edges ++ new) (slice_index starts q)) (start_old (q + 1) (omega arith)) ∙ range_push edges new (slice_index starts q) (slice_index starts (q + 1)) (kept.ascending q l) (kept.within q l))

  range_last : slice_range (edges ++ new) (slice_index all_starts n) (slice_index all_starts (n + 1)) ≡ new
  range_last =
      ap (λ (a : ℕ). slice_range (edges ++ new) a (slice_index all_starts (n + 1))) (start_old n (omega arith) ∙ kept.end)
      ∙ (ap (slice_range (edges ++ new) (length edges)) start_new ∙ range_new edges new)

  each : (q : ℕ) → q < n + 1 → slice_range (edges ++ new) (slice_index all_starts q) (slice_index all_starts (q + 1)) ≡ filter (λ e. stays (comes_back q) e.kind) (edges_from flow q)
  each q l = elim (split q l) [
    | inl less ↦ range_old q less ∙ kept.each q less
    | inr same ↦ subst (λ (k : ℕ). slice_range (edges ++ new) (slice_index all_starts k) (slice_index all_starts (k + 1)) ≡ filter (λ e. stays (comes_back k) e.kind) (edges_from flow k)) (sym same) range_last
  ]

  targets : All (λ e. e.to < points_of flow) (edges ++ new)
  targets =
      let P : Edge → Type 0 = λ e. e.to < points_of flow in
      All-append P edges new kept.targets
      (All-filter (λ e. stays (comes_back n) e.kind) P (edges_from flow n) (All-take P (start_of flow (n + 1) - start_of flow n) (drop (start_of flow n) flow.edges.items) (All-drop P (start_of flow n) flow.edges.items shape.targets)))

  pub kept_more : AreKept flow comes_back (starts ++ length (edges ++ new) ∷ []) (edges ++ new) (n + 1)
  kept_more = record {
    long = omega (arith, length_push starts (length (edges ++ new)), kept.long);
    end = start_new;
    short = kept_short;
    ascending = ascending;
    within = within;
    each = each;
    targets = targets;
  }

-- all edges stay at points that come back
stays_one : (comes_back : Bool) → comes_back ≡ true → (kind : EdgeKind) → stays comes_back kind ≡ true
stays_one comes_back is Next = is
stays_one comes_back is Taken = refl
stays_one comes_back is Fixup = refl
stays_one comes_back is Table = refl
stays_one comes_back is Sibling = refl

stays_all : (comes_back : Bool) → comes_back ≡ true → (edges : List Edge) → filter (λ e. stays comes_back e.kind) edges ≡ edges
stays_all comes_back is [] = refl
stays_all comes_back is (e ∷ edges) = ap (λ (b : Bool). if_cons b (filter (λ d. stays comes_back d.kind) edges)) (stays_one comes_back is e.kind) ∙ ap (λ (es : List Edge). e ∷ es) (stays_all comes_back is edges)
  where
    if_cons : Bool → List Edge → List Edge
    if_cons b es = if b then e ∷ es else es

-- of points that all come back: the new starts say as much less than the flow's, from the first of them on
module _ (flow : Flow) (shape : HasShape flow) (comes_back : ℕ → Bool) (starts : List ℕ) (edges : List Edge) (n : ℕ) (kept : AreKept flow comes_back starts edges n) (m : ℕ) (ordered : n ≤ m) (inside : m ≤ points_of flow) (back : (q : ℕ) → n ≤ q → q < m → comes_back q ≡ true) (after : List ℕ) (long : length after ≡ m + 1) (same : (k : ℕ) → k ≤ n → slice_index after k ≡ slice_index starts k) (less : (k : ℕ) → n ≤ k → k ≤ m → slice_index after k + start_of flow n ≡ start_of flow k + length edges) where
  abbrev part : List Edge
  part = slice_range flow.edges.items (start_of flow n) (start_of flow m)

  part_end : start_of flow m ≤ length flow.edges.items
  part_end = omega (arith, starts_ascend flow shape m (points_of flow) inside (omega arith), shape.last)

  part_long : length (edges ++ part) ≡ length edges + (start_of flow m - start_of flow n)
  part_long = length-append edges part ∙ ap (λ (k : ℕ). length edges + k) (length_range flow.edges.items (start_of flow n) (start_of flow m) part_end)

  part_ordered : start_of flow n ≤ start_of flow m
  part_ordered = starts_ascend flow shape n m ordered inside

  split_at : (q k : ℕ) → (q < k) ⊎ (k ≤ q)
  split_at q k = grind arith

  -- where the edges of one of these points begin
  begins : (q : ℕ) → n ≤ q → q ≤ m → slice_index after q ≡ length edges + (start_of flow q - start_of flow n)
  begins q from to = omega (arith, less q from to, starts_ascend flow shape n q from (omega (arith, to, inside)))

  part_ascending : (q : ℕ) → q < m → slice_index after q ≤ slice_index after (q + 1)
  part_ascending q l = elim (split_at q n) [
    | inl below ↦ omega (arith, same q (omega arith), same (q + 1) (omega arith), kept.ascending q below)
    | inr from ↦ omega (arith, less q from (omega arith), less (q + 1) (omega arith) (omega arith), shape.ascending q (omega arith))
  ]

  part_within : (q : ℕ) → q < m → slice_index after (q + 1) ≤ length (edges ++ part)
  part_within q l = elim (split_at q n) [
    | inl below ↦ omega (arith, same (q + 1) (omega arith), kept.within q below, part_long)
    | inr from ↦ omega (arith, less (q + 1) (omega arith) (omega arith), part_long, part_ordered, starts_ascend flow shape (q + 1) m (omega arith) inside)
  ]

  part_old : (q : ℕ) → q < n → slice_range (edges ++ part) (slice_index after q) (slice_index after (q + 1)) ≡ slice_range edges (slice_index starts q) (slice_index starts (q + 1))
  part_old q l =
      ap (λ (a : ℕ). slice_range (edges ++ part) a (slice_index after (q + 1))) (same q (omega arith))
      ∙ (ap (slice_range (edges ++ part) (slice_index starts q)) (same (q + 1) (omega arith)) ∙ range_push edges part (slice_index starts q) (slice_index starts (q + 1)) (kept.ascending q l) (kept.within q l))

  part_new : (q : ℕ) → n ≤ q → q < m → slice_range (edges ++ part) (slice_index after q) (slice_index after (q + 1)) ≡ edges_from flow q
  part_new q from l =
      let a : ℕ = start_of flow n in
      let i : ℕ = start_of flow q - a in
      let j : ℕ = start_of flow (q + 1) - a in
      let first : a ≤ start_of flow q = starts_ascend flow shape n q from (omega (arith, l, inside)) in
      let step : start_of flow q ≤ start_of flow (q + 1) = shape.ascending q (omega (arith, l, inside)) in
      let last : start_of flow (q + 1) ≤ start_of flow m = starts_ascend flow shape (q + 1) m (omega arith) inside in
      let there : a + i ≡ start_of flow q = omega (arith, first) in
      let behind : a + j ≡ start_of flow (q + 1) = omega (arith, first, step) in
      ap (λ (k : ℕ). slice_range (edges ++ part) k (slice_index after (q + 1))) (begins q from (omega arith))
      ∙ (ap (slice_range (edges ++ part) (length edges + i)) (begins (q + 1) (omega arith) (omega arith))
      ∙ (range_behind edges part i j
      ∙ (range_of_range flow.edges.items a (start_of flow m) i j (omega (arith, step)) (omega (arith, behind, last))
      ∙ (ap (λ (k : ℕ). slice_range flow.edges.items k (a + j)) there ∙ ap (slice_range flow.edges.items (start_of flow q)) behind))))

  part_each : (q : ℕ) → q < m → slice_range (edges ++ part) (slice_index after q) (slice_index after (q + 1)) ≡ filter (λ e. stays (comes_back q) e.kind) (edges_from flow q)
  part_each q l = elim (split_at q n) [
    | inl below ↦ part_old q below ∙ kept.each q below
    | inr from ↦ part_new q from l ∙ sym (stays_all (comes_back q) (back q from l) (edges_from flow q))
  ]

  part_targets : All (λ e. e.to < points_of flow) (edges ++ part)
  part_targets =
      let P : Edge → Type 0 = λ e. e.to < points_of flow in
      All-append P edges part kept.targets (All-take P (start_of flow m - start_of flow n) (drop (start_of flow n) flow.edges.items) (All-drop P (start_of flow n) flow.edges.items shape.targets))

  pub kept_part : AreKept flow comes_back after (edges ++ slice_range flow.edges.items (start_of flow n) (start_of flow m)) m
  kept_part = record {
    long = long;
    end = omega (arith, less m ordered (omega arith), part_long, part_ordered);
    short = omega (arith, part_long, part_ordered, kept.short);
    ascending = part_ascending;
    within = part_within;
    each = part_each;
    targets = part_targets;
  }
