-- The site lists of an object tell their places.
use Rattle.std.proofs.Common.{◌≡◌, ℕ, ◌+◌, ◌*◌, ◌<◌, false, List, [], ◌∷◌, map, length, Option, Some, None, ℤ, pos, refl, sym, ◌∙◌, ap, arith}
use Rattle.std.proofs.lemmas.Bool.{false≢true}
use Rattle.std.specs.Prelude.{All, IsSome, option_and_then, option_map, slice_get, unwrap_or}
use Rattle.std.proofs.lemmas.Option.{none-some}
use Rattle.std.specs.List.{enumerate_from}
use Rattle.std.proofs.lemmas.List.Elements.{All-head, All-tail}
use Rattle.ot_base.specs.declared.place.Place.{Place}
use Rattle.elf_objects.specs.declared.symbol.Home.TheVariants as home
use Rattle.elf_objects.specs.declared.symbol.Reloc.{Reloc}
use Rattle.elf_objects.specs.Elf.{Elf, SectionEntry}
use Rattle.orc_bytes.specs.Sections.{body_named, section_named}
use Rattle.elf_objects.specs.Contents.{section_symbol_of}
use Rattle.orc_bytes.proofs.OneList.{symbol_home}
use Rattle.site_lists.specs.Laws.{OneChoiceFits}
use Rattle.site_lists.specs.Listed.{Listed}
use Rattle.site_lists.specs.Sections.{HoldsList, IsListOf, IsSite, held, missing, list_name, slot_reloc, slot_relocs}

-- a symbol stands for one section
pub one_section : (object : Elf) (i j k : ℕ) → section_symbol_of object i ≡ Some k → section_symbol_of object j ≡ Some k → i ≡ j
one_section object i j k one two = alike (sym (symbol_home object i k one) ∙ symbol_home object j k two)
  where
    alike : {i j : ℕ} → home.Section i ≡ home.Section j → i ≡ j
    alike h = cc

-- two sections with one symbol are one section
same_section : (object : Elf) (i j : ℕ) → IsSome (section_symbol_of object i) → IsSome (section_symbol_of object j) → unwrap_or (section_symbol_of object i) 0 ≡ unwrap_or (section_symbol_of object j) 0 → i ≡ j
same_section object i j one two h =
    go (section_symbol_of object i) (section_symbol_of object j) refl refl one two h
  where
    go : (o p : Option ℕ) → section_symbol_of object i ≡ o → section_symbol_of object j ≡ p → IsSome o → IsSome p → unwrap_or o 0 ≡ unwrap_or p 0 → i ≡ j
    go (Some k) (Some l) e f one two h = one_section object i j k e (f ∙ ap (λ (n : ℕ). Some n) (sym h))
    go None p e f one two h = absurd (false≢true one)
    go (Some k) None e f one two h = absurd (false≢true two)

place_alike : (x y : Place) → x.sec ≡ y.sec → x.off ≡ y.off → x ≡ y
place_alike x y sec off = made x.sec y.sec x.off y.off sec off
  where
    made : (a a' b b' : ℕ) → a ≡ a' → b ≡ b' → ◌≡◌ {A = Place} (record { sec = a; off = b }) (record { sec = a'; off = b' })
    made a a' b b' h1 h2 = cc

-- a relocation tells the place
same_place : (object : Elf) (m n : ℕ) (x y : Place) → IsSite object x → IsSite object y → slot_reloc (section_symbol_of object) m x ≡ slot_reloc (section_symbol_of object) n y → x ≡ y
same_place object m n x y one two relocs_alike =
    let symbols = ap (λ (r : Reloc). r.sym) relocs_alike in
    let addends : ◌≡◌ {A = ℤ} (pos x.off) (pos y.off) = ap (λ (r : Reloc). r.addend) relocs_alike in
    place_alike x y (same_section object x.sec y.sec one.symbol two.symbol symbols) (pos-injective addends)
  where
    pos-injective : {a b : ℕ} → ◌≡◌ {A = ℤ} (pos a) (pos b) → a ≡ b
    pos-injective h = cc

relocs_from : Elf → ℕ → List Place → List Reloc
relocs_from object n places = map (λ entry. slot_reloc (section_symbol_of object) (4 * entry.0) entry.1) (enumerate_from n places)

same_places : (object : Elf) (n : ℕ) (xs ys : List Place) → All (IsSite object) xs → All (IsSite object) ys → relocs_from object n xs ≡ relocs_from object n ys → xs ≡ ys
unfolding relocs_from
same_places object n [] [] one two relocs = refl
same_places object n [] (y ∷ ys) one two relocs = cc
same_places object n (x ∷ xs) [] one two relocs = cc
same_places object n (x ∷ xs) (y ∷ ys) one two relocs =
    let first : slot_reloc (section_symbol_of object) (4 * n) x ≡ slot_reloc (section_symbol_of object) (4 * n) y = front_alike relocs in
    let further : relocs_from object (n + 1) xs ≡ relocs_from object (n + 1) ys = rest_alike relocs in
    let here : x ≡ y = same_place object (4 * n) (4 * n) x y (All-head (IsSite object) x xs one) (All-head (IsSite object) y ys two) first in
    let there : xs ≡ ys = same_places object (n + 1) xs ys (All-tail (IsSite object) x xs one) (All-tail (IsSite object) y ys two) further in
    joined here there
  where
    front_alike : {a b : Reloc} {us vs : List Reloc} → (a ∷ us) ≡ (b ∷ vs) → a ≡ b
    front_alike h = cc

    rest_alike : {a b : Reloc} {us vs : List Reloc} → (a ∷ us) ≡ (b ∷ vs) → us ≡ vs
    rest_alike h = cc

    joined : {a b : Place} {us vs : List Place} → a ≡ b → us ≡ vs → (a ∷ us) ≡ (b ∷ vs)
    joined h k = cc

some_alike : {A : Type 0} {x y : A} {o : Option A} → o ≡ Some x → o ≡ Some y → x ≡ y
some_alike h k = cc

one_list : (object : Elf) (name : List ℕ) (one other : List Place) → HoldsList object name one → HoldsList object name other → one ≡ other
unfolding relocs_from
one_list object name one other first second =
    same_places object 0 one other first.each second.each (some_alike first.relocs second.relocs)

-- where a section is missing it has no body
missing_body : (object : Elf) (name places_body : List ℕ) → section_named object name ≡ None → body_named object name ≡ Some places_body → ⊥
missing_body object name body none is = none-some body (sym (ap (option_and_then (λ i. option_map (λ (section : SectionEntry). section.body) (slice_get object.sections i))) none) ∙ is)

one_list_of : (object : Elf) (name : List ℕ) (one other : List Place) → IsListOf object name one → IsListOf object name other → one ≡ other
one_list_of object name one other (held first) (held second) = one_list object name one other first second
one_list_of object name one other (held first) (missing none empty) = absurd (missing_body object name _ none first.slots)
one_list_of object name one other (missing none empty) (held second) = absurd (missing_body object name _ none second.slots)
one_list_of object name one other (missing none empty) (missing missed bare) = empty ∙ sym bare

lists_alike : (a b c a' b' c' : List Place) → a ≡ a' → b ≡ b' → c ≡ c' → ◌≡◌ {A = Listed} (record { retpoline = a; returns = b; calls = c }) (record { retpoline = a'; returns = b'; calls = c' })
lists_alike a b c a' b' c' h1 h2 h3 = cc

pub one_choice_fits : OneChoiceFits
one_choice_fits object one other first second =
    lists_alike one.retpoline one.returns one.calls other.retpoline other.returns other.calls
    (one_list_of object (list_name 0) one.retpoline other.retpoline first.retpoline second.retpoline)
    (one_list_of object (list_name 1) one.returns other.returns first.returns second.returns)
    (one_list_of object (list_name 2) one.calls other.calls first.calls second.calls)
