-- Entries that are read, and their originals.
use Rattle.std.proofs.Common.{◌≡◌, ℕ, zero, suc, ◌<◌, Bool, true, false, cond, List, [], ◌∷◌, length, get_or, All, map, filter, take, arith, refl, sym, ap, ◌∙◌, subst}
use Rattle.std.specs.List.{Contains, range_with_len}
use Rattle.std.proofs.lemmas.List.{get_or_default, get_or-take}
use Rattle.std.proofs.lemmas.List.Elements.{All-filter, All-map, filter_passes}
use Rattle.std.proofs.lemmas.List.FromFn.{get_or-range_with_len, length-range_with_len}
use Rattle.special_sections.specs.declared.entries.AltEntry.{AltEntry}
use Rattle.alternatives.specs.declared.original.Original.{Original}
use Rattle.alternatives.specs.Originals.{entry_at, no_entry, counts, counted}
use Rattle.alternatives.specs.Sorted.{original_of, originals_of}

-- the entry that is read at a number is the one with that number
pub entry_read : (entries : List AltEntry) (k : ℕ) (a : AltEntry) → k < length entries → a ≡ get_or entries k a → a ≡ entry_at entries k
entry_read entries k a inside is = is ∙ get_or_default entries k a no_entry inside

-- among the first n it is the same
pub entry_taken : (entries : List AltEntry) (n k : ℕ) → k < n → entry_at (take n entries) k ≡ entry_at entries k
entry_taken entries n k inside = get_or-take n entries k no_entry inside

-- what an original is: that of an entry that counts
pub record IsOriginal (entries : List AltEntry) (o : Original) : Type 0 where
  pub inside : o.entry < length entries
  pub counts : counts (entry_at entries o.entry) ≡ true
  pub is : o ≡ original_of entries o.entry

in_range : (n : ℕ) → All (λ k. k < n) (range_with_len 0 n)
in_range n i d inside =
    let within : i < n = subst (λ m. i < m) (length-range_with_len 0 n) inside in
    subst (λ k. k < n) (sym (get_or-range_with_len 0 n i d within)) (omega arith)

pub all_original : (entries : List AltEntry) → All (IsOriginal entries) (originals_of entries)
all_original entries =
    All-map (IsOriginal entries) (original_of entries) (counted entries) (λ k d inside. record {
      inside = All-filter (λ k. counts (entry_at entries k)) (λ k. k < length entries) (range_with_len 0 (length entries)) (in_range (length entries)) k d inside;
      counts = filter_passes (λ k. counts (entry_at entries k)) (range_with_len 0 (length entries)) k d inside;
      is = refl;
    })

-- a number that passes stands among those that do
passing : (p : ℕ → Bool) (xs : List ℕ) (k : ℕ) → Contains xs k → p k ≡ true → Contains (filter p xs) k
passing p [] k at passes = absurd (omega (arith, at.1))
passing p (x ∷ xs) k (zero, inside, is) passes =
    let here : p x ≡ true = ap p is ∙ passes in
    rw here (0, (omega arith), is)
passing p (x ∷ xs) k (suc n, inside, is) passes =
    let rest : Contains (filter p xs) k = passing p xs k (n, (omega arith), is) passes in
    elim (p x) as (λ b. Contains (cond b (x ∷ filter p xs) (filter p xs)) k) [
      | true ↦ (suc rest.0, (omega (arith, rest.1)), rest.2)
      | false ↦ rest
    ]

mapped : (f : ℕ → Original) (xs : List ℕ) (k : ℕ) → Contains xs k → Contains (map f xs) (f k)
mapped f [] k at = absurd (omega (arith, at.1))
mapped f (x ∷ xs) k (zero, inside, is) = (0, (omega arith), ap f is)
mapped f (x ∷ xs) k (suc n, inside, is) =
    let rest : Contains (map f xs) (f k) = mapped f xs k (n, (omega arith), is) in
    (suc rest.0, (omega (arith, rest.1)), rest.2)

-- the original of an entry that counts is among them
pub has_original : (entries : List AltEntry) (k : ℕ) → k < length entries → counts (entry_at entries k) ≡ true → Contains (originals_of entries) (original_of entries k)
has_original entries k inside passes =
    let n : ℕ = length entries in
    let at : Contains (range_with_len 0 n) k = (k, subst (λ m. k < m) (sym (length-range_with_len 0 n)) inside, get_or-range_with_len 0 n k k inside ∙ omega arith) in
    mapped (original_of entries) (counted entries) k (passing (λ k. counts (entry_at entries k)) (range_with_len 0 n) k at passes)
