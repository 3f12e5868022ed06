-- How long a layout is.
use Rattle.std.proofs.Common.{◌≡◌, ℕ, suc, ◌+◌, ◌-◌, ◌*◌, ◌<◌, ◌≤◌, List, [], ◌∷◌, ◌++◌, length, drop, get_or, replicate, refl, ap, ◌∙◌, arith, length-append}
use Rattle.std.proofs.lemmas.List.{at_drop_more, length-replicate}
use Rattle.elf_write.specs.Layout.{NewEntry, aligned, padded, laid_out, end_of, header_bytes, header_table, new_headers, bodies}
use Rattle.elf_objects.specs.declared.header.SectionHeader.{SectionHeader}
use Rattle.elf_write.specs.declared.section.NewSection.{NewSection}
use Rattle.elf_write.specs.New.{entries}
use Rattle.elf_write.proofs.Lists.{length-encoded}

pub le-aligned : (n : ℕ) → n ≤ aligned n
le-aligned n = omega arith

pub length-padded : (xs : List ℕ) → length (padded xs) ≡ aligned (length xs)
length-padded xs =
    omega (arith, length-append xs (replicate (aligned (length xs) - length xs) 0), length-replicate {A = ℕ} (aligned (length xs) - length xs) 0)

pub le-end_of : (n : ℕ) (pieces : List (List ℕ)) → n ≤ end_of n pieces
le-end_of n [] = omega arith
le-end_of n (p ∷ ps) = let h = le-end_of (aligned n + length p) ps in omega arith

-- a layout ends where its sizes say
pub length-laid_out : (xs : List ℕ) (pieces : List (List ℕ)) → length (laid_out xs pieces) ≡ end_of (length xs) pieces
length-laid_out xs [] = refl
length-laid_out xs (p ∷ ps) =
    length-laid_out (padded xs ++ p) ps
    ∙ ap (λ (n : ℕ). end_of n ps) (length-append (padded xs) p ∙ ap (λ (n : ℕ). n + length p) (length-padded xs))

-- some pieces and then others
pub laid_out-append : (xs : List ℕ) (ps qs : List (List ℕ)) → laid_out xs (ps ++ qs) ≡ laid_out (laid_out xs ps) qs
laid_out-append xs [] qs = refl
laid_out-append xs (p ∷ ps) qs = laid_out-append (padded xs ++ p) ps qs

pub end_of-append : (n : ℕ) (ps qs : List (List ℕ)) → end_of n (ps ++ qs) ≡ end_of (end_of n ps) qs
end_of-append n [] qs = refl
end_of-append n (p ∷ ps) qs = end_of-append (aligned n + length p) ps qs

-- a header has 64 bytes
pub length-header_bytes : (h : SectionHeader) → length (header_bytes h) ≡ 64
unfolding header_bytes
length-header_bytes h =
    simp (length-append, length-encoded) refl

pub length-new_headers : (name at : ℕ) (new : List NewEntry) → length (new_headers name at new) ≡ length new
length-new_headers name at [] = refl
length-new_headers name at (e ∷ es) =
    ap (λ (n : ℕ). suc n) (length-new_headers (name + length e.name + 1) (aligned at + length e.body) es)

pub length-header_table : (hs : List SectionHeader) → length (header_table hs) ≡ 64 * length hs
length-header_table [] = refl
length-header_table (h ∷ hs) =
    let ih = length-header_table hs in
    let one = length-header_bytes h in
    omega (arith, length-append (header_bytes h) (header_table hs))

-- one body more stays within the end of all
pub step_within : (n : ℕ) (new : List NewSection) (k : ℕ) (s : NewSection) → s ≡ get_or new k s → k < length new
    → aligned n + length s.body.items ≤ end_of n (bodies (entries (drop k new)))
step_within n new k s read h =
    let e : end_of n (bodies (entries (drop k new))) ≡ end_of n (bodies (entries (get_or new k s ∷ drop (k + 1) new)))
    = at_drop_more (λ (xs : List NewSection). end_of n (bodies (entries xs))) new k s h in
    let l : aligned n + length (get_or new k s).body.items ≤ end_of n (bodies (entries (get_or new k s ∷ drop (k + 1) new)))
    = le-end_of (aligned n + length (get_or new k s).body.items) (bodies (entries (drop (k + 1) new))) in
    let same : length s.body.items ≡ length (get_or new k s).body.items = ap (λ (x : NewSection). length x.body.items) read in
    omega arith
