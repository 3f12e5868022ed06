-- Extents in the order of their starts.
use Rattle.std.proofs.Common.{◌≡◌, ◌≢◌, ℕ, ◌+◌, ◌-◌, ◌<◌, ◌≤◌, Bool, true, false, not, ◌&&◌, eqb, leb, ltb, inl, inr, List, length, get_or, set, arith, refl, sym, ap, ◌∙◌, subst}
use Rattle.std.specs.Cmp.{IsTotalOrder}
use Rattle.std.specs.List.{list_any}
use Rattle.std.specs.List.Sorted.{IsPartitionedBy, IsSortedByKey}
use Rattle.std.specs.Ordering.{nat_cmp, is_lt, ordering_then}
use Rattle.std.proofs.lemmas.Bool.{cases_eq, cases_lt, false≢true}
use Rattle.std.proofs.lemmas.Bool.Decides.{nat_tests}
use Rattle.std.proofs.lemmas.Cmp.{nat_cmp_total, on_total, then_total}
use Rattle.std.proofs.lemmas.List.{get_or-set_other, get_or-set_same, get_or_default, length-set}
use Rattle.std.proofs.lemmas.List.Elements.{All-from_get_or}
use Rattle.std.proofs.lemmas.List.Folds.{Any-from_list_any, list_any_at, list_any_none}
use Rattle.std.proofs.lemmas.List.MinMax.{ranks_by}
use Rattle.std.proofs.lemmas.List.Sorted.{sorted_far}
use Rattle.ot_base.specs.declared.place.Place.{Place}
use Rattle.ot_base.specs.Places.{is_before}
use Rattle.symbols_relocs.specs.declared.extents.Extent.{Extent}
use Rattle.symbols_relocs.specs.Extents.{AreByStart, HaveSameBytes, Reach, end_of, has_byte, have_byte, have_start, starts_upto}

pub no_extent : Extent
no_extent = record { start = record { sec = 0; off = 0 }; size = 0 }

place_total : IsTotalOrder (λ (p q : Place). ordering_then (nat_cmp p.sec q.sec) (nat_cmp p.off q.off))
place_total = then_total (on_total (λ (p : Place). p.sec) nat_cmp_total) (on_total (λ (p : Place). p.off) nat_cmp_total)

pub sorted_by_start : (es : List Extent) → IsSortedByKey (λ (e : Extent). e.start) (λ (p q : Place). ordering_then (nat_cmp p.sec q.sec) (nat_cmp p.off q.off)) es → AreByStart es
sorted_by_start es up i j d order inside =
    sorted_far (λ (x y : Extent). is_before x.start y.start) (ranks_by place_total (λ (e : Extent). e.start)) es up i j d order inside

still_upto : (a b c d e f : ℕ) → is_lt (ordering_then (nat_cmp e a) (nat_cmp f b)) ≡ false → not (is_lt (ordering_then (nat_cmp c e) (nat_cmp d f))) ≡ true → not (is_lt (ordering_then (nat_cmp c a) (nat_cmp d b))) ≡ true
still_upto a b c d e f x y = grind (arith, nat_tests)

pub upto_parted : (es : List Extent) (place : Place) → AreByStart es → IsPartitionedBy (λ (e : Extent). not (is_before place e.start)) es
upto_parted es place by i j d order inside h =
    still_upto (get_or es i d).start.sec (get_or es i d).start.off place.sec place.off (get_or es j d).start.sec (get_or es j d).start.off (by i j d order inside) h

pub not_true : (b : Bool) → not b ≡ true → b ≡ false
not_true true h = absurd (let z : ⊥ = cc in z)
not_true false h = refl

pub not_false : (b : Bool) → not b ≡ false → b ≡ true
not_false true h = refl
not_false false h = absurd (let z : ⊥ = cc in z)

-- ---- what starts up to a place
upto_numbers : (a b c d : ℕ) → is_lt (ordering_then (nat_cmp c a) (nat_cmp d b)) ≡ false → a ≡ c → (eqb a c && leb b d) ≡ true
upto_numbers a b c d before same = grind (arith, nat_tests)

other_numbers : (a b c d : ℕ) → is_lt (ordering_then (nat_cmp c a) (nat_cmp d b)) ≡ true → (eqb a c && leb b d) ≡ false
other_numbers a b c d behind = grind (arith, nat_tests)

-- the sections of what stands between
between : (a b c d e f : ℕ) → is_lt (ordering_then (nat_cmp c a) (nat_cmp d b)) ≡ false → is_lt (ordering_then (nat_cmp e c) (nat_cmp f d)) ≡ false → (eqb a e && leb b f) ≡ true → c ≡ e
between a b c d e f x y z = grind (arith, nat_tests)

pub upto : (place : Place) (e : Extent) → is_before place e.start ≡ false → e.start.sec ≡ place.sec → starts_upto place e ≡ true
upto place e before same = upto_numbers e.start.sec e.start.off place.sec place.off before same

pub not_upto : (place : Place) (e : Extent) → is_before place e.start ≡ true → starts_upto place e ≡ false
not_upto place e behind = other_numbers e.start.sec e.start.off place.sec place.off behind

byte_numbers : (a b c d n : ℕ) → (eqb a c && (leb b d && ltb d (b + n))) ≡ true → (eqb a c && leb b d) ≡ true
byte_numbers a b c d n h = grind (arith, nat_tests)

-- what has a place starts up to it
pub byte_upto : (place : Place) (e : Extent) → has_byte place e ≡ true → starts_upto place e ≡ true
byte_upto place e h = byte_numbers e.start.sec e.start.off place.sec place.off e.size h

further : (a b c d n e f m : ℕ) → (eqb a c && (leb b d && ltb d (b + n))) ≡ true → (eqb e c && leb f d) ≡ true → b + n ≤ f + m → (eqb e c && (leb f d && ltb d (f + m))) ≡ true
further a b c d n e f m h u reach = grind (arith, nat_tests)

-- what has a place ends behind it, and so does what reaches as far
pub reaches_byte : (place : Place) (one other : Extent) → has_byte place one ≡ true → starts_upto place other ≡ true → end_of one ≤ end_of other → has_byte place other ≡ true
reaches_byte place one other h u reach = further one.start.sec one.start.off place.sec place.off one.size other.start.sec other.start.off other.size h u reach

same_tests : (a b : Bool) → (a ≡ true → b ≡ true) → (b ≡ true → a ≡ true) → a ≡ b
same_tests true b f g = sym (f refl)
same_tests false true f g = g refl
same_tests false false f g = refl

none_from : (b : Bool) → (b ≡ true → ⊥) → b ≡ false
none_from true h = absurd (h refl)
none_from false h = refl

same_sections : (p : Place) (e f : Extent) → starts_upto p e ≡ true → starts_upto p f ≡ true → e.start.sec ≡ f.start.sec
same_sections p e f x y = sections e.start.sec e.start.off f.start.sec f.start.off p.sec p.off x y
  where
    sections : (a b c d s o : ℕ) → (eqb a s && leb b o) ≡ true → (eqb c s && leb d o) ≡ true → a ≡ c
    sections a b c d s o x y = grind (arith, nat_tests)

module _ (es : List Extent) (place : Place) (by : AreByStart es) (reach : Reach es (length es)) (count : ℕ) (within : count ≤ length es) (upto_ : (k : ℕ) (d : Extent) → k < count → is_before place (get_or es k d).start ≡ false) (behind : (k : ℕ) (d : Extent) → count ≤ k → k < length es → is_before place (get_or es k d).start ≡ true) where
  -- what starts up to the place stands in front of the count
  in_front : (k : ℕ) → k < length es → starts_upto place (get_or es k no_extent) ≡ true → k < count
  in_front k inside h = elim (cases_lt k count) [
    | inl low ↦ low
    | inr high ↦ absurd (false≢true (sym (not_upto place (get_or es k no_extent) (behind k no_extent high inside)) ∙ h))
  ]

  -- where none does
  pub none_upto : ((k : ℕ) → k < count → starts_upto place (get_or es k no_extent) ≡ false) → have_start es place ≡ false
  none_upto none = list_any_none (starts_upto place) es (All-from_get_or (λ e. starts_upto place e ≡ false) es no_extent (λ k inside. elim (cases_lt k count) [
    | inl low ↦ none k low
    | inr high ↦ not_upto place (get_or es k no_extent) (behind k no_extent high inside)
  ]))

  -- where the last of the count is of another section
  pub other_section : (last : ℕ) → last + 1 ≡ count → (get_or es last no_extent).start.sec ≢ place.sec → have_start es place ≡ false
  other_section last is other = none_upto (λ k low. none_from (starts_upto place (get_or es k no_extent)) (λ h.
      let a = get_or es k no_extent in
      let b = get_or es last no_extent in
      other (between a.start.sec a.start.off b.start.sec b.start.off place.sec place.off (by k last no_extent (omega arith) (omega arith)) (upto_ last no_extent (omega arith)) h)))

  pub some_upto : (last : ℕ) → last < length es → starts_upto place (get_or es last no_extent) ≡ true → have_start es place ≡ true
  some_upto last inside h = list_any_at (starts_upto place) es last no_extent inside h

  -- the last of the count has the place where one has it
  pub last_tells : (last : ℕ) → last + 1 ≡ count → starts_upto place (get_or es last no_extent) ≡ true → have_byte es place ≡ has_byte place (get_or es last no_extent)
  last_tells last is starts = same_tests (have_byte es place) (has_byte place (get_or es last no_extent))
      (λ some. found (Any-from_list_any (has_byte place) es some))
      (λ h. list_any_at (has_byte place) es last no_extent (omega arith) h)
    where
      found : (k : ℕ) × (e : Extent) × (k < length es) × (get_or es k e ≡ e) × (has_byte place e ≡ true) → has_byte place (get_or es last no_extent) ≡ true
      found (k, e, inside, at, h) =
          let own : get_or es k no_extent ≡ e = get_or_default es k no_extent e inside ∙ at in
          let has : has_byte place (get_or es k no_extent) ≡ true = ap (has_byte place) own ∙ h in
          let low : k < count = in_front k inside (byte_upto place (get_or es k no_extent) has) in
          let section : (get_or es k no_extent).start.sec ≡ (get_or es last no_extent).start.sec = same_sections place (get_or es k no_extent) (get_or es last no_extent) (byte_upto place (get_or es k no_extent) has) starts in
          reaches_byte place (get_or es k no_extent) (get_or es last no_extent) has starts (reach k last no_extent (omega arith) (omega arith) section)

-- no extent starts up to a place that none has
pub none_has : (es : List Extent) (place : Place) → have_start es place ≡ false → have_byte es place ≡ false
none_has es place none = none_from (have_byte es place) (λ some. found (Any-from_list_any (has_byte place) es some))
  where
    found : (k : ℕ) × (e : Extent) × (k < length es) × (get_or es k e ≡ e) × (has_byte place e ≡ true) → ⊥
    found (k, e, inside, at, h) = false≢true (sym none ∙ list_any_at (starts_upto place) es k e inside (ap (starts_upto place) at ∙ byte_upto place e h))

-- ---- one is changed
-- a test of some stays where the changed one passes where it did, and no other passes by it
any_set : (p : Extent → Bool) (es : List Extent) (k : ℕ) (y : Extent) → k < length es → (p y ≡ true → list_any p es ≡ true) → (p (get_or es k no_extent) ≡ true → p y ≡ true) → list_any p (set es k y) ≡ list_any p es
any_set p es k y inside back there = same_tests (list_any p (set es k y)) (list_any p es) (λ some. from_new (Any-from_list_any p (set es k y) some)) (λ some. from_old (Any-from_list_any p es some))
  where
    from_new : (j : ℕ) × (e : Extent) × (j < length (set es k y)) × (get_or (set es k y) j e ≡ e) × (p e ≡ true) → list_any p es ≡ true
    from_new (j, e, low, at, h) = elim (cases_eq j k) [
      | inl same ↦ back (ap p (sym (get_or-set_same es k y e inside) ∙ ap (λ (i : ℕ). get_or (set es k y) i e) (sym same) ∙ at) ∙ h)
      | inr other ↦ list_any_at p es j e (omega (arith, low, length-set es k y)) (ap p (sym (get_or-set_other es k j y e other) ∙ at) ∙ h)
    ]

    from_old : (j : ℕ) × (e : Extent) × (j < length es) × (get_or es j e ≡ e) × (p e ≡ true) → list_any p (set es k y) ≡ true
    from_old (j, e, low, at, h) = elim (cases_eq j k) [
      | inl same ↦ list_any_at p (set es k y) k e (omega (arith, inside, length-set es k y)) (ap p (get_or-set_same es k y e inside) ∙ there (ap p (get_or_default es k no_extent e inside ∙ ap (λ (i : ℕ). get_or es i e) (sym same) ∙ at) ∙ h))
      | inr other ↦ list_any_at p (set es k y) j e (omega (arith, low, length-set es k y)) (ap p (get_or-set_other es k j y e other ∙ at) ∙ h)
    ]

module _ (es : List Extent) (k : ℕ) (y : Extent) (first : 1 ≤ k) (inside : k < length es) (by : AreByStart es) (reach : Reach es k) (start : y.start ≡ (get_or es k no_extent).start) (own : end_of (get_or es k no_extent) ≤ end_of y) (reaches : (get_or es k no_extent).start.sec ≡ (get_or es (k - 1) no_extent).start.sec → end_of (get_or es (k - 1) no_extent) ≤ end_of y) (bytes : (place : Place) → has_byte place y ≡ true → has_byte place (get_or es k no_extent) ≡ false → has_byte place (get_or es (k - 1) no_extent) ≡ true) where
  start_at : (j : ℕ) → j < length es → (get_or (set es k y) j no_extent).start ≡ (get_or es j no_extent).start
  start_at j low = elim (cases_eq j k) [
    | inl same ↦ ap (λ (i : ℕ). (get_or (set es k y) i no_extent).start) same ∙ ap (λ (e : Extent). e.start) (get_or-set_same es k y no_extent inside) ∙ start ∙ ap (λ (i : ℕ). (get_or es i no_extent).start) (sym same)
    | inr other ↦ ap (λ (e : Extent). e.start) (get_or-set_other es k j y no_extent other)
  ]

  pub set_by_start : AreByStart (set es k y)
  set_by_start i j d order low =
      let low_j : j < length es = omega (arith, low, length-set es k y) in
      let low_i : i < length es = omega (arith, low_j, order) in
      let ei : get_or (set es k y) i d ≡ get_or (set es k y) i no_extent = get_or_default (set es k y) i d no_extent (omega (arith, low, order)) in
      let ej : get_or (set es k y) j d ≡ get_or (set es k y) j no_extent = get_or_default (set es k y) j d no_extent low in
      ap (λ (p : Place). is_before p (get_or (set es k y) i d).start) (ap (λ (e : Extent). e.start) ej ∙ start_at j low_j)
      ∙ ap (λ (p : Place). is_before (get_or es j no_extent).start p) (ap (λ (e : Extent). e.start) ei ∙ start_at i low_i)
      ∙ by i j no_extent order low_j

  sections : (a b c d : ℕ) → is_lt (ordering_then (nat_cmp c a) (nat_cmp d b)) ≡ false → a ≤ c
  sections a b c d h = grind (arith, nat_tests)

  section_upto : (i j : ℕ) → i ≤ j → j < length es → (get_or es i no_extent).start.sec ≤ (get_or es j no_extent).start.sec
  section_upto i j order low = let a = get_or es i no_extent in let b = get_or es j no_extent in sections a.start.sec a.start.off b.start.sec b.start.off (by i j no_extent order low)

  -- up to the changed one
  reach_last : (i : ℕ) → i < k → (get_or es i no_extent).start.sec ≡ (get_or es k no_extent).start.sec → end_of (get_or es i no_extent) ≤ end_of y
  reach_last i low same =
      let up = section_upto i (k - 1) (omega arith) (omega arith) in
      let down = section_upto (k - 1) k (omega arith) inside in
      let own_section : (get_or es k no_extent).start.sec ≡ (get_or es (k - 1) no_extent).start.sec = omega (arith, up, down, same) in
      let before = reach i (k - 1) no_extent (omega arith) (omega arith) (same ∙ own_section) in
      omega (arith, before, reaches own_section)

  reach_each : (i j : ℕ) → i ≤ j → j < k + 1 → (get_or (set es k y) i no_extent).start.sec ≡ (get_or (set es k y) j no_extent).start.sec → end_of (get_or (set es k y) i no_extent) ≤ end_of (get_or (set es k y) j no_extent)
  reach_each i j order low same = elim (cases_eq j k) [
    | inl last ↦ elim (cases_eq i k) [
      | inl both ↦ let e : i ≡ j = both ∙ sym last in let ends : end_of (get_or (set es k y) i no_extent) ≡ end_of (get_or (set es k y) j no_extent) = ap (λ (n : ℕ). end_of (get_or (set es k y) n no_extent)) e in omega (arith, ends)
      | inr other ↦
          let low_i : i < k = below i j k order last other in
          let here : get_or (set es k y) j no_extent ≡ y = ap (λ (n : ℕ). get_or (set es k y) n no_extent) last ∙ get_or-set_same es k y no_extent inside in
          let there : get_or (set es k y) i no_extent ≡ get_or es i no_extent = get_or-set_other es k i y no_extent other in
          let section : (get_or es i no_extent).start.sec ≡ (get_or es k no_extent).start.sec = ap (λ (e : Extent). e.start.sec) (sym there) ∙ same ∙ ap (λ (e : Extent). e.start.sec) here ∙ ap (λ (p : Place). p.sec) start in
          subst (λ (e : Extent). end_of e ≤ end_of (get_or (set es k y) j no_extent)) (sym there) (subst (λ (e : Extent). end_of (get_or es i no_extent) ≤ end_of e) (sym here) (reach_last i low_i section))
    ]
    | inr before ↦
        let low_j : j < k = less j k low before in
        let ej : get_or (set es k y) j no_extent ≡ get_or es j no_extent = get_or-set_other es k j y no_extent before in
        let ei : get_or (set es k y) i no_extent ≡ get_or es i no_extent = get_or-set_other es k i y no_extent (λ e. absurd (omega (arith, e, low_j, order))) in
        subst (λ (e : Extent). end_of e ≤ end_of (get_or (set es k y) j no_extent)) (sym ei) (subst (λ (e : Extent). end_of (get_or es i no_extent) ≤ end_of e) (sym ej) (reach i j no_extent order low_j (ap (λ (e : Extent). e.start.sec) (sym ei) ∙ same ∙ ap (λ (e : Extent). e.start.sec) ej)))
  ]
    where
      below : (i j k : ℕ) → i ≤ j → j ≡ k → i ≢ k → i < k
      below i j k order last other = elim (cases_lt i k) [ inl l ↦ l | inr ge ↦ absurd (other (omega arith)) ]

      less : (j k : ℕ) → j < k + 1 → j ≢ k → j < k
      less j k low other = elim (cases_lt j k) [ inl l ↦ l | inr ge ↦ absurd (other (omega arith)) ]

  pub set_reach : Reach (set es k y) (k + 1)
  set_reach i j d order low same =
      let long : length (set es k y) ≡ length es = length-set es k y in
      let ei : get_or (set es k y) i d ≡ get_or (set es k y) i no_extent = get_or_default (set es k y) i d no_extent (omega (arith, low, order, long, inside)) in
      let ej : get_or (set es k y) j d ≡ get_or (set es k y) j no_extent = get_or_default (set es k y) j d no_extent (omega (arith, low, long, inside)) in
      subst (λ (e : Extent). end_of e ≤ end_of (get_or (set es k y) j d)) (sym ei) (subst (λ (e : Extent). end_of (get_or (set es k y) i no_extent) ≤ end_of e) (sym ej) (reach_each i j order low (ap (λ (e : Extent). e.start.sec) (sym ei) ∙ same ∙ ap (λ (e : Extent). e.start.sec) ej)))

  pub set_same : HaveSameBytes es (set es k y)
  set_same = record {
    bytes = λ place. any_set (has_byte place) es k y inside (λ h. by_own place h (has_byte place (get_or es k no_extent)) refl) (λ h. reaches_byte place (get_or es k no_extent) y h (subst (λ (p : Place). (eqb p.sec place.sec && leb p.off place.off) ≡ true) (sym start) (byte_upto place (get_or es k no_extent) h)) own);
    starts = λ place. any_set (starts_upto place) es k y inside (λ h. list_any_at (starts_upto place) es k no_extent inside (subst (λ (p : Place). (eqb p.sec place.sec && leb p.off place.off) ≡ true) start h)) (λ h. subst (λ (p : Place). (eqb p.sec place.sec && leb p.off place.off) ≡ true) (sym start) h);
  }
    where
      by_own : (place : Place) → has_byte place y ≡ true → (b : Bool) → has_byte place (get_or es k no_extent) ≡ b → have_byte es place ≡ true
      by_own place h true e = list_any_at (has_byte place) es k no_extent inside e
      by_own place h false e = list_any_at (has_byte place) es (k - 1) no_extent (omega arith) (bytes place h e)

pub same_from_sort : (es others : List Extent) → ((place : Place) → have_byte es place ≡ have_byte others place) → ((place : Place) → have_start es place ≡ have_start others place) → HaveSameBytes es others
same_from_sort es others bytes starts = record { bytes = λ place. sym (bytes place); starts = λ place. sym (starts place) }

pub same_trans : (es others more : List Extent) → HaveSameBytes es others → HaveSameBytes others more → HaveSameBytes es more
same_trans es others more one other = record { bytes = λ place. other.bytes place ∙ one.bytes place; starts = λ place. other.starts place ∙ one.starts place }

pub reach_first : (es : List Extent) → Reach es 1
reach_first es i j d order low same = let e : i ≡ j = omega arith in let ends : end_of (get_or es i d) ≡ end_of (get_or es j d) = ap (λ (n : ℕ). end_of (get_or es n d)) e in omega (arith, ends)
