-- Entries overlap exactly where two neighbours among their sorted originals meet.
use Rattle.std.proofs.Common.{◌≡◌, ◌⊎◌, ℕ, suc, ◌+◌, ◌-◌, ◌<◌, ◌≤◌, Bool, true, false, ◌&&◌, not, eqb, List, length, get_or, take, All, inl, inr, arith, refl, sym, ap, ◌∙◌, subst}
use Rattle.std.specs.List.{Contains}
use Rattle.std.specs.List.Sorted.{IsPermutation}
use Rattle.std.proofs.lemmas.Bool.{cases_lt}
use Rattle.std.proofs.lemmas.List.{get_or_default}
use Rattle.std.proofs.lemmas.List.Sorted.{All-permutation, Contains-permutation}
use Rattle.std.proofs.lemmas.List.{length-take, length-take-le}
use Rattle.special_sections.specs.declared.entries.AltEntry.{AltEntry}
use Rattle.alternatives.specs.declared.original.Original.{Original}
use Rattle.alternatives.specs.Originals.{entry_at, no_entry, counts, overlaps, overlaps_earlier}
use Rattle.alternatives.specs.Sorted.{original_of, originals_of, AreByPlace, meets, NoneMeet, SomeMeet, NoneOverlap, SomeOverlap, IsFirstOverlap}
use Rattle.alternatives.proofs.Any.{none_passes, one_passes}
use Rattle.alternatives.proofs.Entries.{IsOriginal, all_original, has_original, entry_taken}
use Rattle.alternatives.proofs.Meets.{met_comm, same, apart_not_met, all_apart, ApartTwo}

and_left : (a b : Bool) → (a && b) ≡ true → a ≡ true
and_left a b h = elim a as (λ a. (a && b) ≡ true → a ≡ true) [ true ↦ λ k. refl | false ↦ λ k. k ] h

bool_cases : (b : Bool) → (b ≡ true) ⊎ (b ≡ false)
bool_cases b = elim b as (λ b. (b ≡ true) ⊎ (b ≡ false)) [ true ↦ inl refl | false ↦ inr refl ]

not_both : (b : Bool) → b ≡ false → b ≡ true → ⊥
not_both b f t = cc

pub overlaps_comm : (a b : AltEntry) → overlaps a b ≡ overlaps b a
overlaps_comm a b = met_comm a.original.sec a.original.off a.original_len b.original.sec b.original.off b.original_len

overlaps_counts : (a b : AltEntry) → overlaps a b ≡ true → counts a ≡ true
overlaps_counts a b h = and_left _ _ (and_left _ _ (and_left _ _ h))

pub none_itself : (a : AltEntry) → overlaps a a ≡ false
none_itself a = apart_not_met a.original.sec a.original.off a.original_len a.original.sec a.original.off a.original_len (same refl refl refl)

counts_some : (a : AltEntry) → counts a ≡ true → 0 < a.original_len
counts_some a h = elim (cases_lt 0 a.original_len) [
  | inl some ↦ some
  | inr none ↦ let zero' : a.original_len ≡ 0 = omega arith in absurd (not_both (not (eqb a.original_len 0)) (ap (λ n. not (eqb n 0)) zero') h)
]

module _ (entries : List AltEntry) (os : List Original) (moved : IsPermutation (originals_of entries) os) (order : AreByPlace os) where
  pub each_original : All (IsOriginal entries) os
  each_original = All-permutation (IsOriginal entries) (originals_of entries) os moved (all_original entries)

  pub some_len : All (λ o. 0 < o.len) os
  some_len k d inside =
      let o : Original = get_or os k d in
      let is = each_original k d inside in
      subst (λ (p : Original). 0 < p.len) (sym is.is) (counts_some (entry_at entries o.entry) is.counts)

  pub meet_overlap : SomeMeet os → SomeOverlap entries (length entries)
  meet_overlap some =
      let d : Original = original_of entries 0 in
      let x : Original = get_or os some.at d in
      let y : Original = get_or os (some.at + 1) d in
      let is = each_original some.at d (omega (arith, some.inside)) in
      let is' = each_original (some.at + 1) d some.inside in
      record {
        one = x.entry;
        other = y.entry;
        one_inside = is.inside;
        other_inside = is'.inside;
        here = ap (λ p. meets p (original_of entries y.entry)) (sym is.is) ∙ ap (λ p. meets x p) (sym is'.is) ∙ some.here d;
      }

  pub none_overlap : NoneMeet os → NoneOverlap entries (length entries)
  none_overlap apart i j i_inside j_inside =
      let a : AltEntry = entry_at entries i in
      let b : AltEntry = entry_at entries j in
      elim (bool_cases (overlaps a b)) [
        | inr none_is ↦ none_is
        | inl one_is ↦
            let x : Original = original_of entries i in
            let y : Original = original_of entries j in
            let p : Contains os x = Contains-permutation (originals_of entries) os x moved (has_original entries i i_inside (overlaps_counts a b one_is)) in
            let q : Contains os y = Contains-permutation (originals_of entries) os y moved (has_original entries j j_inside (overlaps_counts b a (overlaps_comm b a ∙ one_is))) in
            let q_is : get_or os q.0 x ≡ y = get_or_default os q.0 x y q.1 ∙ q.2 in
            elim (cases_lt p.0 q.0) [
              | inl lower ↦ far apart x y p.0 q.0 lower q.1 p.2 q_is
              | inr not_lower ↦ elim (cases_lt q.0 p.0) [
                | inl higher ↦ overlaps_comm a b ∙ far apart y x q.0 p.0 higher p.1 (get_or_default os q.0 y x q.1 ∙ q_is) (get_or_default os p.0 y x p.1 ∙ p.2)
                | inr not_higher ↦
                    let one : p.0 ≡ q.0 = omega arith in
                    let same : x ≡ y = sym p.2 ∙ ap (λ k. get_or os k x) one ∙ q_is in
                    subst (λ o. meets x o ≡ false) same (none_itself a)
              ]
            ]
      ]
    where
      far : NoneMeet os → (x y : Original) (m n : ℕ) → m < n → n < length os → get_or os m x ≡ x → get_or os n x ≡ y → meets x y ≡ false
      far apart x y m n lower inside m_is n_is =
          let k : ℕ = n - m - 1 in
          let there : m + suc k ≡ n = omega arith in
          let two : ApartTwo (get_or os m x) (get_or os (m + suc k) x) = all_apart os order apart some_len x m k (omega arith) in
          let two' : ApartTwo x y = subst (λ o. ApartTwo o y) m_is (subst (λ o. ApartTwo (get_or os m x) o) (ap (λ j. get_or os j x) there ∙ n_is) two) in
          apart_not_met x.place.sec x.place.off x.len y.place.sec y.place.off y.len two'

pub not_before : (entries : List AltEntry) (j : ℕ) → ((i : ℕ) → i < j → overlaps (entry_at entries j) (entry_at entries i) ≡ false) → overlaps_earlier entries j ≡ false
not_before entries j fails = none_passes (overlaps (entry_at entries j)) (take j entries) no_entry (λ i lower.
    let low : i < j = omega (arith, lower, length-take j entries) in
    ap (overlaps (entry_at entries j)) (entry_taken entries j i low) ∙ fails i low)

-- the first that overlaps, where none of those before it do
pub first_is : (entries : List AltEntry) (k : ℕ) → k < length entries → NoneOverlap entries k → SomeOverlap entries (k + 1) → IsFirstOverlap entries k
first_is entries k inside none some =
    elim (cases_lt some.one k) [
      | inl one ↦ elim (cases_lt some.other k) [
        | inl other ↦ absurd (not_both _ (none some.one some.other one other) some.here)
        | inr last ↦
            let is : some.other ≡ k = omega (arith, some.other_inside) in
            found some.one one (subst (λ n. overlaps (entry_at entries n) (entry_at entries some.one) ≡ true) is (overlaps_comm (entry_at entries some.other) (entry_at entries some.one) ∙ some.here))
      ]
      | inr last ↦
          let is : some.one ≡ k = omega (arith, some.one_inside) in
          let here : overlaps (entry_at entries k) (entry_at entries some.other) ≡ true = subst (λ n. overlaps (entry_at entries n) (entry_at entries some.other) ≡ true) is some.here in
          elim (cases_lt some.other k) [
            | inl other ↦ found some.other other here
            | inr other_last ↦
                let is' : some.other ≡ k = omega (arith, some.other_inside) in
                absurd (not_both _ (none_itself (entry_at entries k)) (subst (λ n. overlaps (entry_at entries k) (entry_at entries n) ≡ true) is' here))
          ]
    ]
  where
    found : (i : ℕ) → i < k → overlaps (entry_at entries k) (entry_at entries i) ≡ true → IsFirstOverlap entries k
    found i lower here = record {
      inside = inside;
      counted = overlaps_counts (entry_at entries k) (entry_at entries i) here;
      here = one_passes (overlaps (entry_at entries k)) (take k entries) i no_entry (omega (arith, length-take k entries)) (ap (overlaps (entry_at entries k)) (entry_taken entries k i lower) ∙ here);
      before = λ j low. not_before entries j (λ a h. none j a low (omega arith));
    }

-- of the first n entries
pub taken_some : (entries : List AltEntry) (n : ℕ) → n ≤ length entries → SomeOverlap (take n entries) (length (take n entries)) → SomeOverlap entries n
taken_some entries n within some =
    let len : length (take n entries) ≡ n = length-take-le n entries within in
    let i : some.one < n = omega (arith, len, some.one_inside) in
    let j : some.other < n = omega (arith, len, some.other_inside) in
    record {
      one = some.one;
      other = some.other;
      one_inside = i;
      other_inside = j;
      here = subst (λ a. overlaps a (entry_at entries some.other) ≡ true) (entry_taken entries n some.one i) (subst (λ b. overlaps (entry_at (take n entries) some.one) b ≡ true) (entry_taken entries n some.other j) some.here);
    }

pub taken_none : (entries : List AltEntry) (n : ℕ) → n ≤ length entries → NoneOverlap (take n entries) (length (take n entries)) → NoneOverlap entries n
taken_none entries n within none i j i_in j_in =
    let len : length (take n entries) ≡ n = length-take-le n entries within in
    subst (λ a. overlaps a (entry_at entries j) ≡ false) (entry_taken entries n i i_in) (subst (λ b. overlaps (entry_at (take n entries) i) b ≡ false) (entry_taken entries n j j_in) (none i j (omega arith) (omega arith)))
