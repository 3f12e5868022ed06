-- One more place at the end of a list's bodies.
use Rattle.std.proofs.Common.{append-nil, ◌≤◌, replicate, ◌≡◌, ℕ, ◌+◌, ◌*◌, ◌<◌, List, [], ◌∷◌, ◌++◌, map, length, take, get_or, Option, refl, ◌∙◌, ap, arith}
use Rattle.std.specs.Prelude.{flat_map}
use Rattle.std.specs.List.{enumerate_from}
use Rattle.std.proofs.lemmas.List.{take_more, length-take, length-replicate, replicate-append-replicate}
use Rattle.std.proofs.lemmas.List.Concat.{flat_map-append}
use Rattle.ot_base.specs.declared.place.Place.{Place}
use Rattle.elf_objects.specs.declared.symbol.Reloc.{Reloc}
use Rattle.orc_bytes.specs.RelocBytes.{bytes_of_reloc}
use Rattle.site_lists.specs.Sections.{slot_section, slot_reloc, slot_relocs, rela_section}

enumerate_from-push : {X : Type 0} (n : ℕ) (xs : List X) (x : X) → enumerate_from n (xs ++ x ∷ []) ≡ enumerate_from n xs ++ (n + length xs, x) ∷ []
enumerate_from-push n [] x = ap (λ (k : ℕ). (k, x) ∷ []) (omega arith)
enumerate_from-push n (y ∷ xs) x =
    let at : n + 1 + length xs ≡ n + length (y ∷ xs) = omega arith in
    ap (λ es. (n, y) ∷ es) (enumerate_from-push (n + 1) xs x ∙ ap (λ (k : ℕ). enumerate_from (n + 1) xs ++ (k, x) ∷ []) at)

map-push : {A B : Type 0} (f : A → B) (xs : List A) (x : A) → map f (xs ++ x ∷ []) ≡ map f xs ++ f x ∷ []
map-push f [] x = refl
map-push f (y ∷ xs) x = ap (λ ys. f y ∷ ys) (map-push f xs x)

-- the relocations of one more place
pub slot_relocs-push : (section_symbol : ℕ → Option ℕ) (places : List Place) (place : Place) → slot_relocs section_symbol (places ++ place ∷ []) ≡ slot_relocs section_symbol places ++ slot_reloc section_symbol (4 * length places) place ∷ []
slot_relocs-push section_symbol places place =
    ap (map (λ entry. slot_reloc section_symbol (4 * entry.0) entry.1)) (enumerate_from-push 0 places place)
    ∙ map-push (λ entry. slot_reloc section_symbol (4 * entry.0) entry.1) (enumerate_from 0 places) (0 + length places, place)
    ∙ ap (λ (k : ℕ). slot_relocs section_symbol places ++ slot_reloc section_symbol (4 * k) place ∷ []) (omega arith)

-- their bytes
pub rela_section-push : (section_symbol : ℕ → Option ℕ) (places : List Place) (place : Place) → rela_section section_symbol (places ++ place ∷ []) ≡ rela_section section_symbol places ++ bytes_of_reloc (slot_reloc section_symbol (4 * length places) place)
rela_section-push section_symbol places place =
    ap (flat_map bytes_of_reloc) (slot_relocs-push section_symbol places place)
    ∙ flat_map-append bytes_of_reloc (slot_relocs section_symbol places) (slot_reloc section_symbol (4 * length places) place ∷ [])
    ∙ ap (λ bytes. rela_section section_symbol places ++ bytes) (append-nil (bytes_of_reloc (slot_reloc section_symbol (4 * length places) place)))

front_length : (places : List Place) (i : ℕ) → i ≤ length places → length (take i places) ≡ i
front_length places i h = let e = length-take i places in omega (arith, e)

-- the loop's step for both bodies
pub slot_more : (places : List Place) (i : ℕ) (old new : List ℕ) → i < length places → old ≡ slot_section (take i places) → new ≡ old ++ replicate 4 0 → new ≡ slot_section (take (i + 1) places)
slot_more places i old new h was is =
    let here = front_length places i (omega arith) in
    let next = front_length places (i + 1) (omega arith) in
    is ∙ ap (λ bytes. bytes ++ replicate 4 0) was ∙ replicate-append-replicate (4 * length (take i places)) 4 0 ∙ ap (λ (n : ℕ). replicate n 0) (omega (arith, here, next))

pub rela_more : (section_symbol : ℕ → Option ℕ) (places : List Place) (i at : ℕ) (d : Place) (old new piece body : List ℕ) (reloc : Reloc) → i < length places → old ≡ rela_section section_symbol (take i places) → new ≡ old ++ piece → piece ≡ bytes_of_reloc reloc → reloc ≡ slot_reloc section_symbol at (get_or places i d) → at ≡ length body → body ≡ slot_section (take i places) → new ≡ rela_section section_symbol (take (i + 1) places)
rela_more section_symbol places i at d old new piece body reloc h was is of slot_is at_is body_is =
    let front = take_more places i d h in
    let place : at ≡ 4 * length (take i places) = at_is ∙ ap length body_is ∙ length-replicate (4 * length (take i places)) 0 in
    let joined = rela_section-push section_symbol (take i places) (get_or places i d) in
    rw (is, was, of, slot_is, place, front, joined) refl
