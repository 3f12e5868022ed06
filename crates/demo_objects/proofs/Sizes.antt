-- How long a layout is.
use Rattle.std.proofs.Common.{◌≡◌, ℕ, suc, ◌+◌, ◌-◌, ◌*◌, ◌^◌, ◌<◌, ◌≤◌, List, [], ◌∷◌, ◌++◌, length, drop, get_or, replicate, refl, ap, sym, subst, ◌∙◌, arith, length-append}
use Rattle.std.specs.Prelude.{All}
use Rattle.std.proofs.lemmas.List.{at_drop_more, drop-map, get_or-map, length-map, length-replicate}
use Rattle.std.proofs.lemmas.List.Elements.{All-drop, All-head, All-tail}
use Rattle.std.proofs.lemmas.Bool.Decides.{nat_tests}
use Rattle.elf_objects.specs.declared.header.SectionHeader.{SectionHeader}
use Rattle.elf_write.specs.Layout.{NewEntry, header_table}
use Rattle.elf_write.specs.declared.section.NewSection.{NewSection}
use Rattle.elf_write.specs.New.{entries, entry_of}
use Rattle.elf_write.proofs.Lists.{length-encoded}
use Rattle.elf_write.proofs.Sizes.{length-header_table}
use Rattle.demo_objects.specs.Layout.{bodies_end, file_header, file_of, first_header, headers_from, headers_place, next_multiple, padded, with_bodies}

-- each section has an alignment
abbrev pub AreAligned : List NewEntry → Type 0
AreAligned es = All (λ e. 1 ≤ e.align) es

pub le-next_multiple : (a n : ℕ) → 1 ≤ a → n ≤ next_multiple a n
le-next_multiple a n h = grind (arith, nat_tests)

pub length-padded : (a : ℕ) (xs : List ℕ) → 1 ≤ a → length (padded a xs) ≡ next_multiple a (length xs)
length-padded a xs h =
    let l = le-next_multiple a (length xs) h in
    length-append xs (replicate (next_multiple a (length xs) - length xs) 0)
    ∙ ap (λ (n : ℕ). length xs + n) (length-replicate {A = ℕ} (next_multiple a (length xs) - length xs) 0)
    ∙ omega arith

pub le-bodies_end : (at : ℕ) (es : List NewEntry) → AreAligned es → at ≤ bodies_end at es
le-bodies_end at [] ok = omega arith
le-bodies_end at (e ∷ es) ok =
    let l = le-next_multiple e.align at (All-head (λ (x : NewEntry). 1 ≤ x.align) e es ok) in
    let m = le-bodies_end (next_multiple e.align at + length e.body) es (All-tail (λ (x : NewEntry). 1 ≤ x.align) e es ok) in
    omega arith

pub length-with_bodies : (xs : List ℕ) (es : List NewEntry) → AreAligned es → length (with_bodies xs es) ≡ bodies_end (length xs) es
length-with_bodies xs [] ok = refl
length-with_bodies xs (e ∷ es) ok =
    length-with_bodies (padded e.align xs ++ e.body) es (All-tail (λ (x : NewEntry). 1 ≤ x.align) e es ok)
    ∙ ap (λ (n : ℕ). bodies_end n es)
    (length-append (padded e.align xs) e.body ∙ ap (λ (n : ℕ). n + length e.body) (length-padded e.align xs (All-head (λ (x : NewEntry). 1 ≤ x.align) e es ok)))

-- some sections and then others
pub with_bodies-append : (xs : List ℕ) (ds es : List NewEntry) → with_bodies xs (ds ++ es) ≡ with_bodies (with_bodies xs ds) es
with_bodies-append xs [] es = refl
with_bodies-append xs (d ∷ ds) es = with_bodies-append (padded d.align xs ++ d.body) ds es

pub bodies_end-append : (at : ℕ) (ds es : List NewEntry) → bodies_end at (ds ++ es) ≡ bodies_end (bodies_end at ds) es
bodies_end-append at [] es = refl
bodies_end-append at (d ∷ ds) es = bodies_end-append (next_multiple d.align at + length d.body) ds es

pub length-headers_from : (name at : ℕ) (es : List NewEntry) → length (headers_from name at es) ≡ length es
length-headers_from name at [] = refl
length-headers_from name at (e ∷ es) =
    ap (λ (n : ℕ). suc n) (length-headers_from (name + length e.name + 1) (next_multiple e.align at + length e.body) es)

pub length-file_header : (at count : ℕ) → length (file_header at count) ≡ 64
length-file_header at count = simp (length-append, length-encoded) refl

-- the file ends with the headers
pub length-file_of : (es : List NewEntry) → AreAligned es → length (file_of es) ≡ headers_place es + 64 * (length es + 1)
unfolding file_of
length-file_of es ok =
    let head : List ℕ = file_header (headers_place es) (length es + 1) in
    let hs : List SectionHeader = first_header (length es + 1) ∷ headers_from 1 64 es in
    let front : length (padded 8 (with_bodies head es)) ≡ headers_place es =
    length-padded 8 (with_bodies head es) (omega arith)
    ∙ ap (next_multiple 8) (length-with_bodies head es ok ∙ ap (λ (n : ℕ). bodies_end n es) (length-file_header (headers_place es) (length es + 1))) in
    let table : length (header_table hs) ≡ 64 * (length es + 1) =
    length-header_table hs ∙ ap (λ (n : ℕ). 64 * suc n) (length-headers_from 1 64 es) ∙ omega arith in
    length-append (padded 8 (with_bodies head es)) (header_table hs) ∙ omega arith

-- a section of the code is one of its entries
pub item-aligned : (sections : List NewSection) (k : ℕ) (s : NewSection) → s ≡ get_or sections k s → k < length sections → AreAligned (entries sections) → 1 ≤ s.align
item-aligned sections k s is h ok =
    let at : get_or (entries sections) k (entry_of s) ≡ entry_of (get_or sections k s) = get_or-map entry_of sections k s (entry_of s) h in
    let one : 1 ≤ (get_or (entries sections) k (entry_of s)).align = ok k (entry_of s) (omega (arith, length-map sections entry_of)) in
    let same : (get_or (entries sections) k (entry_of s)).align ≡ s.align = ap (λ (e : NewEntry). e.align) at ∙ ap (λ (x : NewSection). x.align) (sym is) in
    omega arith

-- its body ends within the end of all
pub step_within : (n : ℕ) (sections : List NewSection) (k : ℕ) (s : NewSection) → s ≡ get_or sections k s → k < length sections → AreAligned (entries sections)
    → next_multiple s.align n + length s.body.items ≤ bodies_end n (entries (drop k sections))
step_within n sections k s is h ok =
    let e : bodies_end n (entries (drop k sections)) ≡ bodies_end n (entries (get_or sections k s ∷ drop (k + 1) sections))
    = at_drop_more (λ (xs : List NewSection). bodies_end n (entries xs)) sections k s h in
    let rest : AreAligned (entries (drop (k + 1) sections)) = subst AreAligned (drop-map entry_of (k + 1) sections) (All-drop (λ (x : NewEntry). 1 ≤ x.align) (k + 1) (entries sections) ok) in
    let l : next_multiple (get_or sections k s).align n + length (get_or sections k s).body.items ≤ bodies_end n (entries (get_or sections k s ∷ drop (k + 1) sections))
    = le-bodies_end (next_multiple (get_or sections k s).align n + length (get_or sections k s).body.items) (entries (drop (k + 1) sections)) rest in
    let same : next_multiple s.align n + length s.body.items ≡ next_multiple (get_or sections k s).align n + length (get_or sections k s).body.items
    = ap (λ (x : NewSection). next_multiple x.align n + length x.body.items) is in
    omega arith

-- what is left is aligned
pub rest-aligned : (sections : List NewSection) (k : ℕ) → AreAligned (entries sections) → AreAligned (entries (drop k sections))
rest-aligned sections k ok = subst AreAligned (drop-map entry_of k sections) (All-drop (λ (x : NewEntry). 1 ≤ x.align) k (entries sections) ok)

-- the parts of a file that is not too large are not either
pub record Fits (es : List NewEntry) : Type 0 where
  pub bodies : bodies_end 64 es < 2 ^ 32
  pub headers : headers_place es < 2 ^ 32

pub fits : (es : List NewEntry) → AreAligned es → length (file_of es) < 2 ^ 32 → Fits es
fits es ok short =
    let l = length-file_of es ok in
    let m = le-next_multiple 8 (bodies_end 64 es) (omega arith) in
    record { bodies = omega arith; headers = omega arith }
