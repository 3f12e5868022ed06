-- Where the bodies and the names of sections stand.
use Rattle.std.proofs.Common.{◌≡◌, ℕ, zero, suc, ◌+◌, ◌-◌, ◌<◌, ◌≤◌, List, [], ◌∷◌, ◌++◌, length, take, drop, get_or, replicate, refl, sym, ap, ◌∙◌, arith, length-append}
use Rattle.std.proofs.lemmas.List.{take-append-drop, take_all, take_more, take-take}
use Rattle.std.proofs.lemmas.List.Elements.{All-drop, All-take}
use Rattle.elf_objects.specs.declared.header.SectionHeader.{SectionHeader}
use Rattle.elf_write.specs.Layout.{NewEntry, header_for, header_table, new_names}
use Rattle.elf_write.proofs.Facts.{split_at}
use Rattle.elf_write.proofs.Parts.{part, part-left, part-right, part-whole}
use Rattle.demo_objects.specs.Layout.{bodies_end, file_header, file_of, first_header, headers_from, headers_place, next_multiple, padded, with_bodies}
use Rattle.demo_objects.specs.Made.{no_entry}
use Rattle.demo_objects.proofs.FileHeader.{front}
use Rattle.demo_objects.proofs.Sizes.{AreAligned, bodies_end-append, le-bodies_end, length-file_header, length-padded, length-with_bodies, with_bodies-append}

-- the section with a number, counted from 0 on behind section 0
abbrev pub entry_at : List NewEntry → ℕ → NewEntry
entry_at es k = get_or es k no_entry

-- where its body begins, and where its name does in the name table
abbrev pub place_at : List NewEntry → ℕ → ℕ
place_at es k = next_multiple (entry_at es k).align (bodies_end 64 (take k es))

abbrev pub name_at : List NewEntry → ℕ → ℕ
name_at es k = 1 + length (new_names (take k es))

-- its header
pub get_or-headers_from : (name at : ℕ) (es : List NewEntry) (k : ℕ) (d : SectionHeader) → k < length es
    → get_or (headers_from name at es) k d
    ≡ header_for (name + length (new_names (take k es))) (next_multiple (entry_at es k).align (bodies_end at (take k es))) (entry_at es k)
get_or-headers_from name at [] k d h = absurd (omega arith)
get_or-headers_from name at (x ∷ es) zero d h = ap (λ (n : ℕ). header_for n (next_multiple x.align at) x) (omega arith)
get_or-headers_from name at (x ∷ es) (suc k) d h =
    let ih = get_or-headers_from (name + length x.name + 1) (next_multiple x.align at + length x.body) es k d (omega arith) in
    let names : List ℕ = new_names (take k es) in
    let l : name + length x.name + 1 + length names ≡ name + length ((x.name ++ 0 ∷ []) ++ names) = omega (arith, length-append (x.name ++ 0 ∷ []) names, length-append x.name (0 ∷ [])) in
    ih ∙ ap (λ (n : ℕ). header_for n (next_multiple (entry_at es k).align (bodies_end (next_multiple x.align at + length x.body) (take k es))) (entry_at es k)) l

-- the end of the bodies up to a section is at or behind that of those up to an earlier one
pub bodies_end-take : (n : ℕ) (es : List NewEntry) (j k : ℕ) → AreAligned es → j ≤ k → bodies_end n (take j es) ≤ bodies_end n (take k es)
bodies_end-take n es j k ok h =
    let rest : List NewEntry = drop j (take k es) in
    let e : take k es ≡ take j es ++ rest = sym (take-append-drop j (take k es)) ∙ ap (λ (xs : List NewEntry). xs ++ rest) (take-take j k es h) in
    let s : bodies_end n (take k es) ≡ bodies_end (bodies_end n (take j es)) rest = ap (bodies_end n) e ∙ bodies_end-append n (take j es) rest in
    let l = le-bodies_end (bodies_end n (take j es)) rest (All-drop (λ (x : NewEntry). 1 ≤ x.align) j (take k es) (All-take (λ (x : NewEntry). 1 ≤ x.align) k es ok)) in
    omega arith

-- and the next body begins behind it
pub bodies_end-next : (n : ℕ) (es : List NewEntry) (j k : ℕ) → AreAligned es → j < k → j < length es
    → next_multiple (entry_at es j).align (bodies_end n (take j es)) + length (entry_at es j).body ≤ bodies_end n (take k es)
bodies_end-next n es j k ok h inside =
    let t : take (j + 1) es ≡ take j es ++ entry_at es j ∷ [] = take_more es j no_entry inside in
    let s : bodies_end n (take (j + 1) es) ≡ next_multiple (entry_at es j).align (bodies_end n (take j es)) + length (entry_at es j).body = ap (bodies_end n) t ∙ bodies_end-append n (take j es) (entry_at es j ∷ []) in
    let l = bodies_end-take n es (j + 1) k ok (omega arith) in
    omega arith

-- what stood before stays where it is
part-front : (a w : ℕ) (xs : List ℕ) (es : List NewEntry) → a + w ≤ length xs → part a w (with_bodies xs es) ≡ part a w xs
part-front a w xs es h = let f = front xs es in ap (part a w) f.1 ∙ part-left a w xs f.0 h

-- a body stands at its place
part-body : (xs : List ℕ) (es : List NewEntry) (k p : ℕ) → AreAligned es → k < length es
    → p ≡ next_multiple (entry_at es k).align (bodies_end (length xs) (take k es))
    → part p (length (entry_at es k).body) (with_bodies xs es) ≡ (entry_at es k).body
part-body xs es k p ok h at =
    let e : NewEntry = entry_at es k in
    let before : List ℕ = with_bodies xs (take k es) in
    let l : length before ≡ bodies_end (length xs) (take k es) = length-with_bodies xs (take k es) (All-take (λ (x : NewEntry). 1 ≤ x.align) k es ok) in
    let m : length (padded e.align before) ≡ p = length-padded e.align before (ok k no_entry h) ∙ ap (next_multiple e.align) l ∙ sym at in
    let n = length-append (padded e.align before) e.body in
    ap (λ (xs' : List NewEntry). part p (length e.body) (with_bodies xs xs')) (split_at es k no_entry h)
    ∙ ap (part p (length e.body)) (with_bodies-append xs (take k es) (e ∷ drop (k + 1) es))
    ∙ part-front p (length e.body) (padded e.align before ++ e.body) (drop (k + 1) es) (omega arith)
    ∙ part-right p 0 (length e.body) (padded e.align before) e.body (omega arith)
    ∙ part-whole (length e.body) e.body refl

pub file-body : (es : List NewEntry) (k : ℕ) → AreAligned es → k < length es
    → part (place_at es k) (length (entry_at es k).body) (file_of es) ≡ (entry_at es k).body
unfolding file_of
file-body es k ok h =
    let head : List ℕ = file_header (headers_place es) (length es + 1) in
    let all : List ℕ = with_bodies head es in
    let gap : List ℕ = replicate (next_multiple 8 (length all) - length all) 0 in
    let table : List ℕ = header_table (first_header (length es + 1) ∷ headers_from 1 64 es) in
    let l64 = length-file_header (headers_place es) (length es + 1) in
    let l : length all ≡ bodies_end 64 es = length-with_bodies head es ok ∙ ap (λ (n : ℕ). bodies_end n es) l64 in
    let whole : take (length es) es ≡ es = take_all (length es) es (omega arith) in
    let last : bodies_end 64 (take (length es) es) ≡ bodies_end 64 es = ap (bodies_end 64) whole in
    let next = bodies_end-next 64 es k (length es) ok h h in
    let more = length-append all gap in
    part-left (place_at es k) (length (entry_at es k).body) (all ++ gap) table (omega arith)
    ∙ part-left (place_at es k) (length (entry_at es k).body) all gap (omega arith)
    ∙ part-body head es k (place_at es k) ok h (ap (λ (n : ℕ). next_multiple (entry_at es k).align (bodies_end n (take k es))) (sym l64))

-- a part of the headers
pub file-table : (es : List NewEntry) (p a w : ℕ) → AreAligned es → p ≡ headers_place es + a
    → part p w (file_of es) ≡ part a w (header_table (first_header (length es + 1) ∷ headers_from 1 64 es))
unfolding file_of
file-table es p a w ok e =
    let head : List ℕ = file_header (headers_place es) (length es + 1) in
    let all : List ℕ = with_bodies head es in
    let table : List ℕ = header_table (first_header (length es + 1) ∷ headers_from 1 64 es) in
    let l : length (padded 8 all) ≡ headers_place es =
    length-padded 8 all (omega arith) ∙ ap (next_multiple 8) (length-with_bodies head es ok ∙ ap (λ (n : ℕ). bodies_end n es) (length-file_header (headers_place es) (length es + 1))) in
    part-right p a w (padded 8 all) table (omega arith)
