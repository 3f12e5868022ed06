-- Nested alternatives are the entries as they are written, but for longer originals.
use Rattle.std.proofs.Common.{◌≡◌, ◌⊎◌, inl, inr, ℕ, zero, suc, ◌<◌, ◌≤◌, Bool, true, false, cond, eqb, max, List, [], ◌∷◌, length, get_or, filter, fold, arith, refl, sym, ap, subst, ◌∙◌}
use Rattle.std.specs.Prelude.{Contains}
use Rattle.std.proofs.lemmas.Bool.{cases_lt}
use Rattle.std.proofs.lemmas.List.{get_or-map, length-map}
use Rattle.ot_base.specs.declared.place.Place.{Place}
use Rattle.ot_base.specs.Places.{same_place}
use Rattle.special_sections.specs.declared.entries.AltEntry.{AltEntry}
use Rattle.special_sections.specs.Laws.{IsNestedFrom}
use Rattle.special_sections.specs.Nested.{longest_at, nested, with_longest}
use Rattle.special_sections.proofs.Nesting.{is_same, same_is}

abbrev longer : ℕ → AltEntry → ℕ
longer longest a = max longest a.original_len

abbrev at_place : Place → AltEntry → Bool
at_place place a = same_place a.original place

-- the longest of some originals at a place, where one is longer than a length
pub record IsReached (entries : List AltEntry) (place : Place) (len : ℕ) : Type 0 where
  pub entry : AltEntry
  pub written : Contains entries entry
  pub here : entry.original ≡ place
  pub is : len ≡ entry.original_len

behind_it : (a : AltEntry) (entries : List AltEntry) (x : AltEntry) → Contains entries x → Contains (a ∷ entries) x
behind_it a entries x c = (suc c.0, omega (arith, c.1), c.2)

first_of : (a : AltEntry) (entries : List AltEntry) → Contains (a ∷ entries) a
first_of a entries = (zero, omega arith, refl)

reached_behind : (a : AltEntry) (entries : List AltEntry) (place : Place) (len : ℕ) → IsReached entries place len → IsReached (a ∷ entries) place len
reached_behind a entries place len r = record { entry = r.entry; written = behind_it a entries r.entry r.written; here = r.here; is = r.is }

no_less : (n : ℕ) (entries : List AltEntry) (place : Place) → n ≤ fold longer n (filter (at_place place) entries)
no_less n [] place = omega arith
no_less n (a ∷ entries) place = elim (at_place place a) as (λ b. n ≤ fold longer n (cond b (a ∷ filter (at_place place) entries) (filter (at_place place) entries))) [
  | true ↦ let rest : max n a.original_len ≤ fold longer (max n a.original_len) (filter (at_place place) entries) = no_less (max n a.original_len) entries place in omega arith
  | false ↦ no_less n entries place
]

reached : (n : ℕ) (entries : List AltEntry) (place : Place) → (fold longer n (filter (at_place place) entries) ≡ n) ⊎ IsReached entries place (fold longer n (filter (at_place place) entries))
reached n [] place = inl refl
reached n (a ∷ entries) place =
    let rest : List AltEntry = filter (at_place place) entries in
    elim (at_place place a) as (λ b. at_place place a ≡ b → (fold longer n (cond b (a ∷ rest) rest) ≡ n) ⊎ IsReached (a ∷ entries) place (fold longer n (cond b (a ∷ rest) rest))) [
      | true ↦ λ here. elim (reached (max n a.original_len) entries place) [
        | inl same ↦ elim (cases_lt n a.original_len) [
          | inl less ↦ inr (record { entry = a; written = first_of a entries; here = same_is a.original place here; is = omega (arith, same) })
          | inr more ↦ inl (omega (arith, same))
        ]
        | inr other ↦ inr (reached_behind a entries place (fold longer (max n a.original_len) rest) other)
      ]
      | false ↦ λ here. elim (reached n entries place) [ inl same ↦ inl same | inr other ↦ inr (reached_behind a entries place (fold longer n rest) other) ]
    ] refl

-- each of them is no longer
each_no_longer : (n : ℕ) (entries : List AltEntry) (place : Place) (x : AltEntry) (k : ℕ) → k < length entries → get_or entries k x ≡ x → at_place place x ≡ true → x.original_len ≤ fold longer n (filter (at_place place) entries)
each_no_longer n [] place x k inside is here = absurd (omega arith)
each_no_longer n (a ∷ entries) place x zero inside is here =
    let taken : at_place place a ≡ true = ap (at_place place) is ∙ here in
    let len : a.original_len ≡ x.original_len = ap (λ (e : AltEntry). e.original_len) is in
    let rest : max n a.original_len ≤ fold longer (max n a.original_len) (filter (at_place place) entries) = no_less (max n a.original_len) entries place in
    subst (λ b. x.original_len ≤ fold longer n (cond b (a ∷ filter (at_place place) entries) (filter (at_place place) entries))) (sym taken) (omega arith)
each_no_longer n (a ∷ entries) place x (suc k) inside is here =
    elim (at_place place a) as (λ b. x.original_len ≤ fold longer n (cond b (a ∷ filter (at_place place) entries) (filter (at_place place) entries))) [
      | true ↦ each_no_longer (max n a.original_len) entries place x k (omega arith) is here
      | false ↦ each_no_longer n entries place x k (omega arith) is here
    ]

zero_or_not : (n : ℕ) → eqb n 0 ≡ false → n ≡ 0 → ⊥
zero_or_not zero some z = cc
zero_or_not (suc n) some z = omega arith

from_own : (entries : List AltEntry) (own a : AltEntry) → Contains entries own → with_longest entries own ≡ a → IsNestedFrom entries a
from_own entries own a c is = subst (IsNestedFrom entries) is (go (eqb own.original_len 0) refl)
  where
    go : (b : Bool) → eqb own.original_len 0 ≡ b → IsNestedFrom entries (cond b own (record own { original_len = longest_at entries own.original }))
    go true none = record {
      own = own;
      written = c;
      same = refl;
      longest = own;
      longest_written = c;
      at_one_place = refl;
      longest_len = refl;
      no_less = omega arith;
      none = λ z. z;
    }
    go false some =
        let less : own.original_len ≤ longest_at entries own.original = each_no_longer 0 entries own.original own c.0 c.1 c.2 (is_same own.original) in
        elim (reached 0 entries own.original) [
          | inl zero_long ↦ absurd (zero_or_not own.original_len some (omega (arith, zero_long, less)))
          | inr r ↦ record {
            own = own;
            written = c;
            same = refl;
            longest = r.entry;
            longest_written = r.written;
            at_one_place = r.here;
            longest_len = r.is;
            no_less = less;
            none = λ z. absurd (zero_or_not own.original_len some z);
          }
        ]

pub nested_from : (entries : List AltEntry) (a : AltEntry) → Contains (nested entries) a → IsNestedFrom entries a
unfolding nested
nested_from entries a c =
    let inside : c.0 < length entries = omega (arith, c.1, length-map entries (with_longest entries)) in
    from_own entries (get_or entries c.0 a) a (c.0, inside, own_default entries c.0 a inside) (sym (get_or-map (with_longest entries) entries c.0 a a inside) ∙ c.2)
  where
    own_default : (xs : List AltEntry) (k : ℕ) (d : AltEntry) → k < length xs → get_or xs k (get_or xs k d) ≡ get_or xs k d
    own_default [] k d inside = absurd (omega arith)
    own_default (x ∷ xs) zero d inside = refl
    own_default (x ∷ xs) (suc k) d inside = own_default xs k d (omega arith)
